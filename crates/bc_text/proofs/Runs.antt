-- Runs of the reader's steps.
use Rattle.std.proofs.Common.{◌≡◌, ◌⊎◌, ℕ, ◌+◌, ◌<◌, ◌≤◌, List, length, get_or, drop, Result, Ok, Err, refl, sym, ap, ◌∙◌, inl, inr, add-one, drop-cons}
use Rattle.std.proofs.lemmas.List.{drop_all}
use Rattle.bc_text.specs.Steps.{Progress, step, run, on_ok}
use Rattle.bc_text.specs.declared.text_error.TextError.{TextError}
use Rattle.bc_text.specs.declared.text_error.TextError.TheVariants as errors

-- the run from a place on is a step and the run after it
pub run-drop : (bytes : List ℕ) (i : ℕ) (p : Progress) → i < length bytes → run (drop i bytes) p ≡ on_ok (step p (get_or bytes i 0)) (run (drop (i + 1) bytes))
unfolding run
run-drop bytes i p h = rw (add-one, drop-cons bytes i 0)

pub run-step : (bytes : List ℕ) (i : ℕ) (p q : Progress) → i < length bytes → step p (get_or bytes i 0) ≡ Ok q → run (drop (i + 1) bytes) q ≡ run (drop i bytes) p
run-step bytes i p q h e = sym (run-drop bytes i p h ∙ ap (λ r. on_ok r (run (drop (i + 1) bytes))) e)

pub run-refused : (bytes : List ℕ) (i : ℕ) (p : Progress) (r : Result Progress TextError) (fault : TextError) → i < length bytes → run (drop i bytes) p ≡ r
    → (fault ≡ errors.Memory) ⊎ (step p (get_or bytes i 0) ≡ Err fault) → (fault ≡ errors.Memory) ⊎ (r ≡ Err fault)
run-refused bytes i p r fault h e s =
    elim s [ inl m ↦ inl m | inr f ↦ inr (sym e ∙ run-drop bytes i p h ∙ ap (λ r. on_ok r (run (drop (i + 1) bytes))) f) ]

pub run-all : (bytes : List ℕ) (i : ℕ) (p : Progress) → length bytes ≤ i → run (drop i bytes) p ≡ Ok p
unfolding run
run-all bytes i p h = rw (drop_all i bytes h) refl
