-- Worked examples of the definitions: texts, their spellings and their faults.
use Rattle.std.proofs.Common.{◌≡◌, [], ◌∷◌, inl, inr, refl, true, false, codes, arith}
use Rattle.bc_text_items.specs.declared.item.Item.{Item}
use Rattle.bc_text_items.specs.declared.item.Item.TheVariants.{Label, DataLabel, Operation, Global}
use Rattle.bc_text_items.specs.declared.item.Base.TheVariants as bases
use Rattle.bc_text_items.specs.declared.item.Function.TheVariants as functions
use Rattle.bc_text.specs.Numbers.{value_of_digits, IsNumber, IsSignedNumber}
use Rattle.bc_text.specs.Spelling.{Spells}
use Rattle.bc_text.specs.Texts.{IsText, nothing, blank, comment, item, segment_end}
use Rattle.bc_text.specs.Faults.{no_item, no_digit, too_large, too_small, no_label, HasFault}
use Rattle.bc_text.specs.declared.head.Head.TheVariants as heads
use Rattle.bc_text.specs.declared.text_error.TextError.TheVariants as errors

-- ---- Numbers

pub leading_zeros : value_of_digits (codes "0065") ≡ 65
leading_zeros = refl

pub last_number : IsNumber 511 (codes "511") 511
last_number = (refl, refl, omega arith)

pub negative_number : IsSignedNumber (codes "-1") 65535
negative_number = inr (codes "1", 1, refl, (refl, refl, omega arith), refl)

pub negative_zero : IsSignedNumber (codes "-0") 0
negative_zero = inr (codes "0", 0, refl, (refl, refl, omega arith), refl)

-- ---- Items

pub indirect_by_frame : Spells (codes "LIP3") (Operation functions.Load true bases.P 3)
indirect_by_frame = (codes "3", refl, inl (refl, refl, omega arith))

pub minus_one : Spells (codes "A-1") (Operation functions.Add false bases.Number 65535)
minus_one = (codes "-1", refl, negative_number)

pub address_of_label : Spells (codes "DL9") (DataLabel 9)
address_of_label = (codes "9", refl, (refl, refl, omega arith))

pub global_of_label : Spells (codes "G1L1") (Global 1 1)
global_of_label = (codes "1", codes "1", refl, (refl, refl, omega arith), (refl, refl, omega arith))

-- ---- Texts

abbrev load_65 : Item
load_65 = Operation functions.Load false bases.Number 65

-- the empty text has no segments
pub empty_text : IsText [] []
empty_text = nothing

-- no separator is required
pub no_separators : IsText (codes "1L65Z") ((Label 1 ∷ load_65 ∷ []) ∷ [])
no_separators =
    item (codes "1") (Label 1) (refl, refl, omega arith) refl
    (item (codes "L65") load_65 (codes "65", refl, inl (refl, refl, omega arith)) refl (segment_end nothing))

-- a comment extends to the end of its line, and may be the last thing in a text
pub with_comments : IsText (codes "/L5\n1 Z/5") ((Label 1 ∷ []) ∷ [])
with_comments =
    comment (codes "L5") ((λ e. cc), ((λ e. cc), tt)) refl (blank refl
    (item (codes "1") (Label 1) (refl, refl, omega arith) refl (blank refl (segment_end (comment (codes "5") ((λ e. cc), tt) tt nothing)))))

-- ---- Faults

pub no_item_begins : HasFault (codes "Q") (errors.BadCharacter 0)
no_item_begins = (0, [], codes "Q", nothing, refl, no_item 0 81 [] refl)

-- `L65536 Z`: the fifth digit makes the number too large, which begins at 1
pub out_of_range : HasFault (codes "L65536 Z") (errors.BadNumber 1)
out_of_range = (
  0,
  [],
  codes "L65536 Z",
  nothing,
  refl,
  too_large 0 54 (codes " Z") (codes "L") (codes "6553") (heads.Operation functions.Load false bases.Number) refl refl (omega arith) (omega arith),
)

-- `D-32769`: the number begins at its `-`
pub out_of_range_below : HasFault (codes "D-32769") (errors.BadNumber 1)
out_of_range_below =
    (0, [], codes "D-32769", nothing, refl, too_small 0 57 [] (codes "D") (codes "3276") heads.Data refl refl refl (omega arith) (omega arith))

-- `L 5 Z`: no separator is allowed within an item
pub blank_inside : HasFault (codes "L 5 Z") (errors.BadNumber 1)
blank_inside = (
  0,
  [],
  codes "L 5 Z",
  nothing,
  refl,
  no_digit 0 32 (codes "5 Z") (codes "L") (heads.Operation functions.Load false bases.Number) refl (λ e. cc) refl refl,
)

-- `G1 Z`: an `L` must come at 2
pub label_wanted : HasFault (codes "G1 Z") (errors.MissingLabel 2)
label_wanted = (0, [], codes "G1 Z", nothing, refl, no_label 0 32 1 (codes "Z") (codes "1") (refl, refl, omega arith) refl (λ e. cc))

-- `5-3`: a number ends at the first other byte, and an item must begin there
pub judged_anew : HasFault (codes "5-3") (errors.BadCharacter 1)
judged_anew =
    (1, _, codes "-3", item (codes "5") (Label 5) (refl, refl, omega arith) refl nothing, refl, no_item 1 45 (codes "3") refl)
