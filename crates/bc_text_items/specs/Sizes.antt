-- The number of words that items take.
use Rattle.std.specs.Prelude.{ℕ, ◌+◌, ◌≡◌, List, [], ◌∷◌, false, cond, nat_le, refl}
use Rattle.bc_text_items.specs.declared.item.Item.{Item}
use Rattle.bc_text_items.specs.declared.item.Item.TheVariants.{Label, Data, DataLabel, Byte, Operation, Global}
use Rattle.bc_text_items.specs.declared.item.Base.{Base}
use Rattle.bc_text_items.specs.declared.item.Base.TheVariants as bases
use Rattle.bc_text_items.specs.declared.item.Function.TheVariants as functions

-- An operation is short, one word, if its number is at most 511; otherwise it is long, two words. With a label it is always long.
abbrev pub operation_size : Base → ℕ → ℕ
operation_size bases.Label number = 2
operation_size bases.Number number = cond (nat_le number 511) 1 2
operation_size bases.P number = cond (nat_le number 511) 1 2
operation_size bases.G number = cond (nat_le number 511) 1 2

-- the number of words of a single item
abbrev pub size : Item → ℕ
size (Label m) = 0
size (Data n) = 1
size (DataLabel m) = 1
size (Byte b) = 1
size (Operation function indirect base number) = operation_size base number
size (Global number label) = 0

-- The number of words of a list of items. Two consecutive bytes share a word; any other item between bytes, even a label or a global,
-- separates them.
abbrev pub size_of_all : List Item → ℕ
size_of_all [] = 0
size_of_all (Byte high ∷ Byte low ∷ items) = 1 + size_of_all items
size_of_all (item ∷ items) = size item + size_of_all items

-- ---- Worked examples

-- `C1 C65 C66` takes two words, and so does `C1 5 C2`.
pub three_bytes : size_of_all (Byte 1 ∷ Byte 65 ∷ Byte 66 ∷ []) ≡ 2
three_bytes = refl

pub label_between : size_of_all (Byte 1 ∷ Label 5 ∷ Byte 2 ∷ []) ≡ 2
label_between = refl

-- `L511` is short; `L512`, `A-1` and `LL1` are long.
pub short_and_long : size_of_all (Operation functions.Load false bases.Number 511 ∷ []) ≡ 1
short_and_long = refl

pub long_by_number : size_of_all (Operation functions.Load false bases.Number 512 ∷ Operation functions.Add false bases.Number 65535 ∷ []) ≡ 4
long_by_number = refl

pub long_by_label : size_of_all (Operation functions.Load false bases.Label 1 ∷ []) ≡ 2
long_by_label = refl
