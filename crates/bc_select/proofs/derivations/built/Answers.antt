use Rattle.std.proofs.Common.{◌≡◌, ◌∷◌, [], ◌++◌, ap, sym, ◌∙◌, arith}
use Rattle.std.proofs.lemmas.Grind.{common_steps}
use Rattle.bc_rules_defs.specs.View.{derivations}
use Rattle.bc_select.specs.Marks.{unwind}
use Rattle.bc_select.proofs.Marked.{unwind_last, made}
use Rattle.bc_select.proofs.derivations.built.Goals as goal

pub loop-mark-preserved : goal.loop-mark-preserved
loop-mark-preserved c =
    let mark = c.in-Some.mark in let left = c.pop.new.self.items in let trees = derivations c.loop-mark.trees.items in
    let last : c.loop-mark.marks.items ≡ left ++ mark ∷ [] = c.in-Some.ensures.items in
    ap (unwind left) c.in_ok-close.ensures ∙ sym (unwind_last left mark trees) ∙ ap (λ x. unwind x trees) (sym last) ∙ c.loop-mark.invariant

pub returns : goal.returns
returns c =
    let trees = derivations c.loop-mark.trees.items in
    let empty : c.loop-mark.marks.items ≡ [] = grind (arith, common_steps) in
    λ ts k. ap (λ x. unwind x trees) (sym empty) ∙ c.loop-mark.invariant ∙ made c.args.marks.items ts k
