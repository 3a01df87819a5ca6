use Rattle.std.proofs.Common.{sym, ap, ◌∙◌}
use Rattle.bc_core.specs.Tree as tree
use Rattle.bc_core.specs.View.{exp, args}
use Rattle.bc_core.proofs.Rows.{call_view}
use Rattle.bc_interpret_steps.proofs.descend.called.Goals as goal

pub returns-in-Call : goal.returns-in-Call
returns-in-Call c =
    let t = c.in-Call in
    let q = c.deref.ensures.value in
    let q1 = c.deref-in-Call.ensures in
    ap (λ z. tree.Bin c.args.op z (exp c.args.second.now)) ((λ i. tree.Call (args (q i)) (exp (q1 i))) ∙ sym (ap exp t.is ∙ call_view t.arguments t.routine))
