use Rattle.std.proofs.lemmas.Result.{on_ok_weaker}
use Rattle.bc_interpret_defs.specs.Machine as machine
use Rattle.bc_interpret_steps.specs.Code.{stack, given}
use Rattle.bc_interpret_steps.proofs.Passing.{ran}
use Rattle.bc_interpret_steps.proofs.operands.resume_with_number.Goals as goal

pub returns-in-None : goal.returns-in-None
returns-in-None c program table =
    let f = c.give_number in
    let after = f.new.stacks.rests.items in
    on_ok_weaker f.result (λ h. ran program (machine.Give (machine.Number c.args.v)) (stack c.args.stacks.now.rests.items) c.args.state.now f.new.stacks.next (stack after) (given after) f.new.state h) (f.ensures program table)
