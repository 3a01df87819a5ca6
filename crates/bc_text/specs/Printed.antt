-- The text as which a segment is printed.
use Rattle.std.specs.Prelude.{ℕ, ◌≤◌, List, [], ◌∷◌, ◌++◌, take, flat_map, Option}
use Rattle.std.specs.List.{AllByRecursion}
use Rattle.std.specs.Fmt.{decimal}
use Rattle.std.specs.Io.KnownBytes.{Appends}
use Rattle.bc_text_items.specs.declared.item.Item.{Item}
use Rattle.bc_text_items.specs.declared.item.Item.TheVariants.{Label, Data, DataLabel, Byte, Operation, Global}
use Rattle.bc_text.specs.Letters.{operation_letters}
use Rattle.bc_text.specs.Texts.{IsText}

-- an item as it is printed: each number in decimal, without sign and leading zeros
abbrev pub printed : Item → List ℕ
printed (Label n) = decimal n
printed (Data n) = 68 ∷ decimal n
printed (DataLabel m) = 68 ∷ 76 ∷ decimal m
printed (Byte n) = 67 ∷ decimal n
printed (Operation function indirect base n) = operation_letters function indirect base ++ decimal n
printed (Global n m) = 71 ∷ (decimal n ++ 76 ∷ decimal m)

-- an item on its own line
abbrev pub line : Item → List ℕ
line item = printed item ++ 10 ∷ []

-- a segment: a line for each item, and one with `Z`
abbrev pub printed_segment : List Item → List ℕ
printed_segment items = flat_map line items ++ 90 ∷ 10 ∷ []

-- the known bytes of a writer grew by some of the first of these bytes
abbrev pub AppendsFront : Option (List ℕ) → Option (List ℕ) → List ℕ → Type 0
AppendsFront old new bytes = (n : ℕ) × Appends old new (take n bytes)

-- the numbers of an item are in range, as those of every `Item` of the code are
abbrev pub IsItem : Item → Type 0
IsItem (Label n) = n ≤ 65535
IsItem (Data n) = n ≤ 65535
IsItem (DataLabel m) = m ≤ 65535
IsItem (Byte n) = n ≤ 255
IsItem (Operation function indirect base n) = n ≤ 65535
IsItem (Global n m) = (n ≤ 511) × (m ≤ 65535)

-- the printed segments are a text of these segments
abbrev pub ReadsBack : List (List Item) → Type 0
ReadsBack segments = AllByRecursion (AllByRecursion IsItem) segments → IsText (flat_map printed_segment segments) segments
