-- How often items and pieces set a label.
use Rattle.std.proofs.Common.{◌≡◌, ℕ, ◌+◌, ◌==◌, List, [], ◌∷◌, ◌++◌, arith}
use Rattle.std.specs.Prelude.{cond, nat_lt}
use Rattle.std.proofs.lemmas.Bool.Decides.{nat_tests}
use Rattle.bc_text_items.specs.declared.item.Item.{Item}
use Rattle.bc_text_items.specs.declared.item.Item.TheVariants.{Label, Data, DataLabel, Byte, Operation, Global}
use Rattle.bc_rules_defs.specs.declared.piece.Piece.{Piece}
use Rattle.bc_rules_defs.specs.declared.piece.Piece.TheVariants as pieces
use Rattle.bc_link.specs.Labels.{labels_of}

-- 1 if the label is k, else 0
abbrev pub at : ℕ → ℕ → ℕ
at l k = cond (l == k) 1 0

-- 1 if k is below m, else 0; `below k g` is one more than `below k f` exactly for the labels from f to g - 1
abbrev pub below : ℕ → ℕ → ℕ
below k m = cond (nat_lt k m) 1 0

pub next_below : (k l : ℕ) → below k (l + 1) ≡ below k l + at l k
next_below k l = grind (arith, nat_tests)

abbrev pub count : ℕ → List ℕ → ℕ
count k [] = 0
count k (l ∷ ls) = at l k + count k ls

abbrev pub stands : ℕ → List Item → ℕ
stands k is = count k (labels_of is)

abbrev pub standing : ℕ → List Piece → ℕ
standing k [] = 0
standing k (pieces.Item i ∷ ps) = stands k (i ∷ []) + standing k ps
standing k (pieces.Body n ∷ ps) = standing k ps

under : (a b c d : ℕ) → b ≡ c + d → a + b ≡ a + c + d
under a b c d h = omega arith

pub stands_both : (k : ℕ) (xs ys : List Item) → stands k (xs ++ ys) ≡ stands k xs + stands k ys
stands_both k [] ys = omega arith
stands_both k (Label m ∷ xs) ys = under (at m k) _ _ _ (stands_both k xs ys)
stands_both k (Data m ∷ xs) ys = stands_both k xs ys
stands_both k (DataLabel m ∷ xs) ys = stands_both k xs ys
stands_both k (Byte m ∷ xs) ys = stands_both k xs ys
stands_both k (Operation function indirect base m ∷ xs) ys = stands_both k xs ys
stands_both k (Global g m ∷ xs) ys = stands_both k xs ys

pub standing_both : (k : ℕ) (xs ys : List Piece) → standing k (xs ++ ys) ≡ standing k xs + standing k ys
standing_both k [] ys = omega arith
standing_both k (pieces.Item i ∷ xs) ys = under (stands k (i ∷ [])) _ _ _ (standing_both k xs ys)
standing_both k (pieces.Body n ∷ xs) ys = standing_both k xs ys
