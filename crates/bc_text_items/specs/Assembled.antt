-- The words that items become, the places of labels, and the globals that items set.
use Rattle.std.specs.Prelude.{ℕ, ◌+◌, ◌*◌, ◌≡◌, List, [], ◌∷◌, ◌++◌, Bool, true, false, cond, nat_le, refl}
use Rattle.bc_text_items.specs.Sizes.{size}
use Rattle.bc_text_items.specs.declared.item.Item.{Item}
use Rattle.bc_text_items.specs.declared.item.Item.TheVariants.{Label, Data, DataLabel, Byte, Operation, Global}
use Rattle.bc_text_items.specs.declared.item.Base.{Base}
use Rattle.bc_text_items.specs.declared.item.Base.TheVariants as bases
use Rattle.bc_text_items.specs.declared.item.Function.{Function}
use Rattle.bc_text_items.specs.declared.item.Function.TheVariants as functions

-- the function's three bits, as a number
abbrev pub function_number : Function → ℕ
function_number functions.Load = 0
function_number functions.Store = 1
function_number functions.Add = 2
function_number functions.Jump = 3
function_number functions.JumpIfTrue = 4
function_number functions.JumpIfFalse = 5
function_number functions.Call = 6
function_number functions.Execute = 7

-- the bit of the base: P is 2048, G is 1024
abbrev pub base_bit : Base → ℕ
base_bit bases.Number = 0
base_bit bases.P = 2048
base_bit bases.G = 1024
base_bit bases.Label = 0

-- An instruction's word: the function in bits 13 to 15, 4096 if it is indirect, the base's bit, and in the low bits an address from 0 to
-- 511, or 512 for the long form.
abbrev pub instruction : Function → Bool → Base → ℕ → ℕ
instruction function indirect base low =
    8192 * function_number function + cond indirect 4096 0 + base_bit base + low

-- one word, or the long form with the address in a second word
abbrev pub short_or_long : Function → Bool → Base → ℕ → List ℕ
short_or_long function indirect base number =
    cond (nat_le number 511) (instruction function indirect base number ∷ []) (instruction function indirect base 512 ∷ number ∷ [])

-- the words of an operation; `address m` is the address of the label m
abbrev pub operation_words : (ℕ → ℕ) → Function → Bool → Base → ℕ → List ℕ
operation_words address function indirect bases.Label label = instruction function indirect bases.Label 512 ∷ address label ∷ []
operation_words address function indirect bases.Number number = short_or_long function indirect bases.Number number
operation_words address function indirect bases.P number = short_or_long function indirect bases.P number
operation_words address function indirect bases.G number = short_or_long function indirect bases.G number

-- the words of a single item: a single byte becomes the high byte of its word, and the low byte is 0
abbrev pub words_of_item : (ℕ → ℕ) → Item → List ℕ
words_of_item address (Label m) = []
words_of_item address (Data n) = n ∷ []
words_of_item address (DataLabel m) = address m ∷ []
words_of_item address (Byte b) = b * 256 ∷ []
words_of_item address (Operation function indirect base number) = operation_words address function indirect base number
words_of_item address (Global number label) = []

-- the words of a list of items
abbrev pub assembled : (ℕ → ℕ) → List Item → List ℕ
assembled address [] = []
assembled address (Byte high ∷ Byte low ∷ items) = (high * 256 + low) ∷ assembled address items
assembled address (item ∷ items) = words_of_item address item ++ assembled address items

-- Each label with its address, for items whose words begin at address `start`: the address of the next word after the label. A label at
-- the end has the address after the last word.
abbrev pub label_places : ℕ → List Item → List (ℕ × ℕ)
label_places start [] = []
label_places start (Label m ∷ items) = (m, start) ∷ label_places start items
label_places start (Byte high ∷ Byte low ∷ items) = label_places (start + 1) items
label_places start (item ∷ items) = label_places (start + size item) items

-- each global that the items set, with the label whose address it is set to
abbrev pub global_settings : List Item → List (ℕ × ℕ)
global_settings [] = []
global_settings (Global number label ∷ items) = (number, label) ∷ global_settings items
global_settings (item ∷ items) = global_settings items

-- ---- Worked examples

abbrev nowhere : ℕ → ℕ
nowhere m = 0

-- `LIP3` is 6147, `K2` 49154, `X22` 57366, `LIG1` 5121
pub short_words : assembled nowhere (Operation functions.Load true bases.P 3 ∷ Operation functions.Call false bases.Number 2
    ∷ Operation functions.Execute false bases.Number 22 ∷ Operation functions.Load true bases.G 1 ∷ []) ≡ 6147 ∷ 49154 ∷ 57366 ∷ 5121 ∷ []
short_words = refl

-- `A-1` is 16896 65535
pub negative_word : assembled nowhere (Operation functions.Add false bases.Number 65535 ∷ []) ≡ 16896 ∷ 65535 ∷ []
negative_word = refl

-- `L511` is 511, `L512` is 512 512
pub last_short_word : assembled nowhere (Operation functions.Load false bases.Number 511 ∷ []) ≡ 511 ∷ []
last_short_word = refl

pub first_long_word : assembled nowhere (Operation functions.Load false bases.Number 512 ∷ []) ≡ 512 ∷ 512 ∷ []
first_long_word = refl

-- `C1 C65 C66` is 321 16896
pub bytes_in_pairs : assembled nowhere (Byte 1 ∷ Byte 65 ∷ Byte 66 ∷ []) ≡ 321 ∷ 16896 ∷ []
bytes_in_pairs = refl

-- `1 LL1` from 520 on: the label 1 has the address 520, and the words are 512 520
pub label_first : label_places 520 (Label 1 ∷ Operation functions.Load false bases.Label 1 ∷ []) ≡ (1, 520) ∷ []
label_first = refl

pub label_in_word : assembled (λ m. cond (nat_le m 1) 520 0) (Label 1 ∷ Operation functions.Load false bases.Label 1 ∷ []) ≡ 512 ∷ 520 ∷ []
label_in_word = refl

-- `C1 5 C2 6` from 520 on: the label 5 ends the run of bytes
pub labels_by_bytes : label_places 520 (Byte 1 ∷ Label 5 ∷ Byte 2 ∷ Label 6 ∷ []) ≡ (5, 521) ∷ (6, 522) ∷ []
labels_by_bytes = refl

-- `G1L1` sets global 1
pub one_setting : global_settings (Global 1 1 ∷ []) ≡ (1, 1) ∷ []
one_setting = refl
