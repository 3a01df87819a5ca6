-- The table of routines, entry by entry.
use Rattle.std.proofs.Common.{◌≡◌, ℕ, Bool, true, false, inl, inr, List, ◌∷◌, Option, Some, ap}
use Rattle.std.proofs.lemmas.Bool.{eq-eqb}
use Rattle.std.proofs.lemmas.Bool.Decides.{eqb_tells}
use Rattle.bc_interpret_steps.specs.declared.sections.Callable.{Callable}
use Rattle.bc_interpret_steps.specs.Sections.{entry_among}

abbrev entry_if : Callable → List Callable → ℕ → Bool → Option Callable
entry_if e es a t = elim t as (λ u. Option Callable) [ true ↦ Some e | false ↦ entry_among es a ]

pub found_here : (e : Callable) (es : List Callable) (a : ℕ) → e.address ≡ a → entry_among (e ∷ es) a ≡ Some e
found_here e es a h = ap (entry_if e es a) (eq-eqb e.address a h)

pub found_after : (e : Callable) (es : List Callable) (a : ℕ) → ((e.address ≡ a) → ⊥) → entry_among (e ∷ es) a ≡ entry_among es a
found_after e es a h = elim (eqb_tells e.address a) [ inl q ↦ absurd (h q.1) | inr q ↦ ap (entry_if e es a) q.0 ]
