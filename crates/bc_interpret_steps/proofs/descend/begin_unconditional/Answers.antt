use Rattle.std.proofs.Common.{subst}
use Rattle.std.proofs.lemmas.Result.{on_ok_weaker}
use Rattle.bc_core.specs.View.{exp}
use Rattle.bc_interpret_steps.specs.Code.{spot_of, stack, given}
use Rattle.bc_interpret_steps.specs.Passing.{Ran, evaluating}
use Rattle.bc_interpret_steps.proofs.Deciding.{is_first_call}
use Rattle.bc_interpret_steps.proofs.descend.begin_unconditional.Goals as goal

pub returns-in-Some : goal.returns-in-Some
returns-in-Some c program table =
    let before = stack c.args.stacks.now.rests.items in
    let after = c.operand.new.stacks.rests.items in
    on_ok_weaker c.operand.result (λ h. subst (λ e. Ran program (evaluating (spot_of c.args.site) e c.args.site.level before) c.args.state.now c.operand.new.stacks.next (stack after) (given after) c.operand.new.state)
    (is_first_call (exp c.args.e.now) c.first_call.result c.in-Some.first c.first_call.ensures c.in-Some.is) h) (c.operand.ensures program table)
