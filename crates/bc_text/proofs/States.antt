-- States of the reader, with the true count of bytes.
use Rattle.std.proofs.Common.{◌≡◌, ℕ, ◌+◌, List, [], ◌∷◌, ◌++◌, Result, Ok, Err, refl, ap, ◌∙◌, arith}
use Rattle.bc_text_items.specs.declared.item.Item.{Item}
use Rattle.bc_text.specs.Steps.{Progress, step, run, on_ok, at_place, answer, answer_of}
use Rattle.bc_text.specs.Faults.{capped}
use Rattle.bc_text.specs.declared.head.Position.{Position}
use Rattle.bc_text.specs.declared.text_error.TextError.{TextError}

-- at this place, with n bytes read
abbrev pub state : List (List Item) → List Item → Position → ℕ → Progress
state s i place n = record { segments = s; items = i; place = place; at = capped n }

pub capped-more : (n k : ℕ) → capped (capped n + k) ≡ capped (n + k)
capped-more n k = omega arith

-- a step from a state goes by the place, with one byte more
pub step-state : (s : List (List Item)) (i : List Item) (place : Position) (n byte : ℕ)
    → step (state s i place n) byte ≡ at_place (state s i place (n + 1)) place byte (capped n)
unfolding step
step-state s i place n byte =
    ap (λ m. at_place (record { segments = s; items = i; place = place; at = m }) place byte (capped n)) (capped-more n 1)

-- a run of the bytes of two lists
pub run-append : (xs ys : List ℕ) (p : Progress) → run (xs ++ ys) p ≡ on_ok (run xs p) (run ys)
unfolding run
run-append [] ys p = refl
run-append (x ∷ xs) ys p = joined xs ys (step p x) (run-append xs ys)
  where
    joined : (xs ys : List ℕ) (r : Result Progress TextError) → ((q : Progress) → run (xs ++ ys) q ≡ on_ok (run xs q) (run ys))
        → on_ok r (run (xs ++ ys)) ≡ on_ok (on_ok r (run xs)) (run ys)
    joined xs ys (Ok q) ih = ih q
    joined xs ys (Err f) ih = refl

-- the result of a byte that leads to a next state
pub answer-step : (s : List (List Item)) (i : List Item) (place : Position) (n byte : ℕ) (bytes : List ℕ) (q : Progress)
    → at_place (state s i place (n + 1)) place byte (capped n) ≡ Ok q → answer (byte ∷ bytes) (state s i place n) ≡ answer bytes q
unfolding run
answer-step s i place n byte bytes q e = ap (λ r. answer_of (on_ok r (run bytes))) (step-state s i place n byte ∙ e)

-- and of one that doesn't
pub run-stop : (s : List (List Item)) (i : List Item) (place : Position) (n byte : ℕ) (bytes : List ℕ) (fault : TextError)
    → at_place (state s i place (n + 1)) place byte (capped n) ≡ Err fault → run (byte ∷ bytes) (state s i place n) ≡ Err fault
unfolding run
run-stop s i place n byte bytes fault e = ap (λ r. on_ok r (run bytes)) (step-state s i place n byte ∙ e)
