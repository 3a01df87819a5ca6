use Rattle.std.proofs.Common.{◌≡◌, ◌+◌, refl, ap, sym, subst, ◌∙◌}
use Rattle.bc_core.specs.Tree as tree
use Rattle.bc_core.specs.View.{exp, args}
use Rattle.bc_core.proofs.Rows.{call_view}
use Rattle.bc_select.specs.Order.{ArgumentsPut}
use Rattle.bc_select.proofs.Order.{call_parts}
use Rattle.bc_select.proofs.Wholes.{args_count}
use Rattle.bc_select.proofs.layout.put_parts.Goals as goal

pub returns-in_ok-put_arguments-in-Call : goal.returns-in_ok-put_arguments-in-Call
returns-in_ok-put_arguments-in-Call c =
    let es = c.in-Call.arguments.items in let f = exp c.deref-in-Call-2.result.now in let s = c.args.whole.level in let old = c.args.waiting.now.items in let new = c.put_arguments.new.waiting.items in
    let e : exp c.args.whole.e.now ≡ tree.Call (args es) f = ap exp c.in-Call.is ∙ call_view c.in-Call.arguments c.in-Call.routine ∙ sym (ap (λ x. tree.Call (args es) (exp x)) c.deref-in-Call-2.ensures) in
    let put : ArgumentsPut old new (args es) (s + 2) = subst (λ x. ArgumentsPut old new (args x) (s + 2)) c.deref-in-Call.ensures.value c.in_ok-put_arguments-in-Call.ensures in
    call_parts old new (args es) f s c.at_level-in-Call.result c.args.whole e refl put c.at_level-in-Call.ensures.e
    (c.at_level-in-Call.ensures.level ∙ ap (λ n. s + 2 + n) (c.len.ensures ∙ c.in-Call.arguments.ok.0 ∙ sym (args_count es))) c.requires
