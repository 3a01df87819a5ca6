-- Lists of items in the store can be split and joined.
use Rattle.std.proofs.Common.{◌≡◌, ℕ, ◌+◌, List, [], ◌∷◌, ◌++◌, length, Bool, true, false, refl, subst, arith}
use Rattle.std.specs.Prelude.{cond, nat_le}
use Rattle.bc_text_items.specs.declared.item.Item.{Item}
use Rattle.bc_text_items.specs.declared.item.Item.TheVariants.{Label, Data, DataLabel, Byte, Operation, Global}
use Rattle.bc_text_items.specs.declared.item.Base.TheVariants as bases
use Rattle.bc_text_items.specs.Sizes.{size}
use Rattle.bc_text_items.specs.Assembled.{words_of_item}
use Rattle.bc_right.specs.steps.CodeAt.{HasItems, words}

pub words_append : (xs ys : List Item) → words (xs ++ ys) ≡ words xs + words ys
words_append [] ys = omega arith
words_append (i ∷ xs) ys = omega (arith, words_append xs ys)

pub item_size : (address : ℕ → ℕ) (i : Item) → length (words_of_item address i) ≡ size i
item_size address (Label l) = refl
item_size address (Data n) = refl
item_size address (DataLabel l) = refl
item_size address (Byte b) = refl
item_size address (Operation f i bases.Number n) = by_length (nat_le n 511) _ _ where
  by_length : (t : Bool) (w v : ℕ) → length (cond t (w ∷ []) (v ∷ n ∷ [])) ≡ cond t 1 2
  by_length true w v = refl
  by_length false w v = refl
item_size address (Operation f i bases.P n) = by_length (nat_le n 511) _ _ where
  by_length : (t : Bool) (w v : ℕ) → length (cond t (w ∷ []) (v ∷ n ∷ [])) ≡ cond t 1 2
  by_length true w v = refl
  by_length false w v = refl
item_size address (Operation f i bases.G n) = by_length (nat_le n 511) _ _ where
  by_length : (t : Bool) (w v : ℕ) → length (cond t (w ∷ []) (v ∷ n ∷ [])) ≡ cond t 1 2
  by_length true w v = refl
  by_length false w v = refl
item_size address (Operation f i bases.Label n) = refl
item_size address (Global n l) = refl

pub has_front : (address : ℕ → ℕ) (m : List ℕ) (c : ℕ) (xs ys : List Item) → HasItems address m c (xs ++ ys) → HasItems address m c xs
has_front address m c [] ys h = tt
has_front address m c (i ∷ xs) ys h = (h.0, h.1, has_front address m (c + size i) xs ys h.2)

pub has_back : (address : ℕ → ℕ) (m : List ℕ) (c : ℕ) (xs ys : List Item) → HasItems address m c (xs ++ ys) → HasItems address m (c + words xs) ys
has_back address m c [] ys h = let e : c ≡ c + 0 = omega arith in subst (λ n. HasItems address m n ys) e h
has_back address m c (i ∷ xs) ys h =
    let e : c + size i + words xs ≡ c + (size i + words xs) = omega arith in
    subst (λ n. HasItems address m n ys) e (has_back address m (c + size i) xs ys h.2)
