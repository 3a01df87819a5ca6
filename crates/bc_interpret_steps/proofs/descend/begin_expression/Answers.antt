use Rattle.std.proofs.Common.{sym, ap, subst, ◌∙◌}
use Rattle.std.proofs.lemmas.Result.{on_ok_weaker}
use Rattle.bc_core.specs.Tree as tree
use Rattle.bc_core.specs.View.{exp}
use Rattle.bc_interpret_steps.specs.Code.{spot_of, stack, given}
use Rattle.bc_interpret_steps.specs.Passing.{Ran, evaluating}
use Rattle.bc_interpret_steps.proofs.descend.begin_expression.Goals as goal

pub returns-in-Cond : goal.returns-in-Cond
returns-in-Cond c program table =
    let st = c.args.state.now in
    let before = stack c.args.stacks.now.rests.items in
    let after = c.conditional.new.stacks.rests.items in
    let q = c.deref.ensures in
    let q1 = c.deref-in-Cond.ensures in
    let q2 = c.deref-in-Cond-2.ensures in
    on_ok_weaker c.conditional.result (λ h. subst (λ e. Ran program (evaluating (spot_of c.args.site) e c.args.site.level before) st c.conditional.new.stacks.next (stack after) (given after) c.conditional.new.state)
    ((λ i. tree.Cond (exp (q i)) (exp (q1 i)) (exp (q2 i))) ∙ sym (ap exp c.in-Cond.is)) h) (c.conditional.ensures program table)
