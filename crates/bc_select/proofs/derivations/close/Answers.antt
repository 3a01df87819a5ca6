use Rattle.std.proofs.Common.{◌≡◌, ◌-◌, ap, ◌∙◌, arith}
use Rattle.bc_rules_defs.specs.Rules.{by, end_with}
use Rattle.bc_rules_defs.specs.View.{derivation, derivations}
use Rattle.bc_select.specs.Marks.{size, first, rest}
use Rattle.bc_select.proofs.Marked.{derivations_end, derivations_first, derivations_rest, derivations_size}
use Rattle.bc_select.proofs.derivations.close.Goals as goal

pub returns : goal.returns
returns c =
    let rule = c.args.mark.rule in let old = c.args.trees.now.items in let k = c.saturating_sub-first.result in let all = derivations old in
    let few : k ≡ size all - c.args.mark.parts = omega (arith, c.saturating_sub-first.ensures, c.len.ensures, c.args.trees.now.ok.0, derivations_size old) in
    ap derivations c.in_ok-push.ensures.items ∙ derivations_end c.split_off.new.self.items c.tree.result
    ∙ ap (λ x. end_with x (derivation c.tree.result)) (ap derivations c.in_ok-parts.ensures.items ∙ derivations_first k old)
    ∙ ap (end_with (first k all)) (c.tree.ensures ∙ ap (by rule) (ap derivations c.in_ok-parts.ensures.tail ∙ derivations_rest k old))
    ∙ ap (λ n. end_with (first n all) (by rule (rest n all))) few
