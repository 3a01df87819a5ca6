-- The address of a label of a segment.
use Rattle.std.specs.Prelude.{ℕ, ◌≡◌, ◌==◌, List, [], ◌∷◌, Option, Some, None, cond, refl}

-- the address of a label: that of the first pair with the label
abbrev pub address_in : ℕ → List (ℕ × ℕ) → Option ℕ
address_in label [] = None
address_in label (pair ∷ pairs) = cond (label == pair.0) (Some pair.1) (address_in label pairs)

-- ---- Worked examples

pub second_pair : address_in 7 ((1, 520) ∷ (7, 522) ∷ []) ≡ Some 522
second_pair = refl

pub no_pair : address_in 2 ((1, 520) ∷ (7, 522) ∷ []) ≡ None
no_pair = refl
