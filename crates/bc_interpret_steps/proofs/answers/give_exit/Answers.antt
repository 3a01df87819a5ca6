use Rattle.std.proofs.lemmas.Result.{on_ok_weaker}
use Rattle.bc_interpret_steps.specs.Code.{exit_of, stack}
use Rattle.bc_interpret_steps.specs.Passing.{leaving}
use Rattle.bc_interpret_steps.proofs.answers.give_exit.Goals as goal

pub returns : goal.returns
returns c program table =
    let way = c.pass-out.ensures program c.args.state.now in
    on_ok_weaker c.resume_with_exit.result (λ h. record { middle = leaving (exit_of c.pass-out.result) (stack c.pass-out.new.self.rests.items); along = way.0; passes = way.1; comes = h }) (c.resume_with_exit.ensures program table)
