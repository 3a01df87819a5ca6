use Rattle.std.proofs.lemmas.Result.{on_ok_weaker}
use Rattle.bc_core.specs.View.{exp}
use Rattle.bc_interpret_steps.specs.Code.{spot_of, stack, given}
use Rattle.bc_interpret_steps.proofs.Performing.{performed}
use Rattle.bc_interpret_steps.proofs.call_command.perform_call.Goals as goal

pub returns : goal.returns
returns c program table =
    let after = c.begin_other.new.stacks.rests.items in
    on_ok_weaker c.begin_other.result (λ h. performed program c.args.state.now (spot_of c.args.site) (exp c.args.call.now) c.args.site.level (stack c.args.stacks.now.rests.items) (stack c.push.new.rests.items)
    c.begin_other.new.stacks.next (stack after) (given after) c.begin_other.new.state c.in_ok-push.ensures.stack h) (c.begin_other.ensures program table)
