use Rattle.std.proofs.Common.{sym, ap, subst, ◌∙◌}
use Rattle.std.proofs.lemmas.Result.{on_ok_weaker}
use Rattle.bc_core.specs.Tree as tree
use Rattle.bc_core.specs.View.{exp, args}
use Rattle.bc_core.proofs.Rows.{call_view}
use Rattle.bc_interpret_steps.specs.Code.{spot_of, stack, given}
use Rattle.bc_interpret_steps.specs.Passing.{Ran, evaluating}
use Rattle.bc_interpret_steps.proofs.Deciding.{came_into}
use Rattle.bc_interpret_steps.proofs.descend.begin_other.Goals as goal

pub returns-in-Call : goal.returns-in-Call
returns-in-Call c program table =
    let t = c.in-Call in
    let q = c.deref.ensures.value in
    let q1 = c.deref-in-Call.ensures in
    let before = stack c.args.stacks.now.rests.items in
    let after = c.begin_call.new.stacks.rests.items in
    on_ok_weaker c.begin_call.result (λ h. subst (λ e. Ran program (evaluating (spot_of c.args.site) e c.args.site.level before) c.args.state.now c.begin_call.new.stacks.next (stack after) (given after) c.begin_call.new.state)
    ((λ i. tree.Call (args (q i)) (exp (q1 i))) ∙ sym (ap exp t.is ∙ call_view t.arguments t.routine)) h) (c.begin_call.ensures program table)

pub returns-in-Num : goal.returns-in-Num
returns-in-Num c program table =
    let after = c.evaluate.new.stacks.rests.items in
    on_ok_weaker c.evaluate.result (λ h. came_into program c.args.state.now (spot_of c.args.site) (exp c.args.e.now) c.args.site.level (stack c.args.stacks.now.rests.items) c.evaluate.new.stacks.next (stack after) (given after) h) c.evaluate.ensures
