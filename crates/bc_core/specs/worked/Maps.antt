-- Worked examples: a map, and five that aren't.
use Rattle.std.specs.Prelude.{◌≡◌, ◌⊎◌, ℕ, ◌==◌, cond, ◌≤◌, List, [], ◌∷◌, Some, All}
use Rattle.std.proofs.Common.{inl, inr, ⊎_elim, refl, arith}
use Rattle.std.proofs.lemmas.List.Elements.{All-cons, All-nil, All-head, All-tail}
use Rattle.bc_core.specs.Commands.{Core, Does}
use Rattle.bc_core.specs.Commands as c
use Rattle.bc_core.specs.Map.{Map, IsMap, Inside, Apart, Range, range}
use Rattle.bc_core.specs.worked.Written.{routine, commands}

-- ---- Worked examples

-- a routine, and a table of three words
abbrev one_section : List Core
one_section = record { places = routine (Some 1) 0 (Does (commands [])) ∷ c.Table (1 ∷ 2 ∷ 3 ∷ []) ∷ []; valofs = [] } ∷ []

-- the routine at one address, the table at another, and the stack after them
abbrev with_places : (code table stack : ℕ) → Map
with_places code table stack = record { places = (λ label. cond (label == 2) table code) ∷ []; stack_base = stack }

-- they come after the primitives, and the stack begins right after the table
lawful : IsMap one_section (with_places 546 547 550)
lawful = record {
  named = refl;
  inside =
      All-cons (Inside 550) (range 520 26) (range 546 1 ∷ range 547 3 ∷ []) (omega arith, omega arith)
      (All-cons (Inside 550) (range 546 1) (range 547 3 ∷ []) (omega arith, omega arith)
      (All-cons (Inside 550) (range 547 3) [] (omega arith, omega arith) (All-nil (Inside 550))));
  apart = (
    All-cons (Apart (range 520 26)) (range 546 1) (range 547 3 ∷ []) (inl (omega arith))
        (All-cons (Apart (range 520 26)) (range 547 3) [] (inl (omega arith)) (All-nil (Apart (range 520 26)))),
    (All-cons (Apart (range 546 1)) (range 547 3) [] (inl (omega arith)) (All-nil (Apart (range 546 1))), (All-nil (Apart (range 547 3)), tt)),
  );
}

never : {m n k l : ℕ} → ((m ≤ n) ⊎ (k ≤ l)) → ¬ (m ≤ n) → ¬ (k ≤ l) → ⊥
never h first second = ⊎_elim (λ a. first a) (λ b. second b) h

-- the table overlaps the routine
over_the_routine : ¬ IsMap one_section (with_places 546 546 560)
over_the_routine h =
    never (All-head (Apart (range 546 1)) (range 546 3) [] h.apart.1.0) (λ a. omega (arith, a)) (λ b. omega (arith, b))

-- the routine overlaps the primitives
over_the_primitives : ¬ IsMap one_section (with_places 545 547 560)
over_the_primitives h =
    never (All-head (Apart (range 520 26)) (range 545 1) (range 547 3 ∷ []) h.apart.0) (λ a. omega (arith, a)) (λ b. omega (arith, b))

-- the routine is at the last global, and overlaps nothing else
over_the_globals : ¬ IsMap one_section (with_places 519 547 560)
over_the_globals h =
    let following = All-tail (Inside 560) (range 520 26) (range 519 1 ∷ range 547 3 ∷ []) h.inside in
    let first = All-head (Inside 560) (range 519 1) (range 547 3 ∷ []) following in
    omega (arith, first.0)

-- the stack begins within the table
under_the_stack : ¬ IsMap one_section (with_places 546 547 549)
under_the_stack h =
    let following = All-tail (Inside 549) (range 520 26) (range 546 1 ∷ range 547 3 ∷ []) h.inside in
    let last = All-head (Inside 549) (range 547 3) [] (All-tail (Inside 549) (range 546 1) (range 547 3 ∷ []) following) in
    omega (arith, last.1)

-- there are no addresses for the section
not_named : ¬ IsMap one_section (record { places = []; stack_base = 560 })
not_named h = omega (arith, h.named)
