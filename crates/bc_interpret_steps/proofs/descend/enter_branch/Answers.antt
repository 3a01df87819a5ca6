use Rattle.std.proofs.Common.{inr, subst}
use Rattle.std.proofs.lemmas.Result.{on_ok_weaker}
use Rattle.bc_core.specs.View.{exp}
use Rattle.bc_interpret_steps.specs.Code.{spot_of, stack, given}
use Rattle.bc_interpret_steps.specs.Passing.{Ran, evaluating}
use Rattle.bc_interpret_steps.proofs.Deciding.{is_first_call, call_there}
use Rattle.bc_interpret_steps.proofs.descend.enter_branch.Goals as goal

pub returns-in-Some : goal.returns-in-Some
returns-in-Some c program table =
    let st = c.args.state.now in
    let before = stack c.args.stacks.now.rests.items in
    let after = c.operand.new.stacks.rests.items in
    let is = is_first_call (exp c.args.e.now) c.first_call.result c.in-Some.first c.first_call.ensures c.in-Some.is in
    on_ok_weaker c.operand.result (λ h. inr (
      call_there (exp c.args.e.now) c.in-Some.first is,
      subst (λ e. Ran program (evaluating (spot_of c.args.site) e c.args.site.level before) st c.operand.new.stacks.next (stack after) (given after) c.operand.new.state) is h,
    )) (c.operand.ensures program table)
