-- What is found in a table has the property of its entries.
use Rattle.std.proofs.Common.{◌≡◌, ℕ, suc, true, false, inl, inr, List, [], ◌∷◌, Option, Some, sym, ap, subst, ◌∙◌, arith}
use Rattle.std.specs.Prelude.{All}
use Rattle.std.proofs.lemmas.Bool.Decides.{eqb_tells}
use Rattle.bc_interpret_steps.specs.declared.sections.Callable.{Callable}
use Rattle.bc_interpret_steps.specs.Sections.{entry_among, IsSized}

pub sized_among : (es : List Callable) (a : ℕ) (e : Callable) → entry_among es a ≡ Some e → All IsSized es → IsSized e
sized_among [] a e h all = cc
sized_among (d ∷ es) a e h all =
    elim (eqb_tells d.address a) [
      | inl q ↦ here (ap (λ t. elim t as (λ u. Option Callable) [ true ↦ Some d | false ↦ entry_among es a ]) (sym q.0) ∙ h)
      | inr q ↦ sized_among es a e (ap (λ t. elim t as (λ u. Option Callable) [ true ↦ Some d | false ↦ entry_among es a ]) (sym q.0) ∙ h) (λ k x l. all (suc k) x (omega arith))
    ] where
      here : Some d ≡ Some e → IsSized e
      here q = let same : d ≡ e = cc in subst IsSized same (all 0 d (omega arith))
