-- INTCODE texts, as a relation between bytes and segments.
use Rattle.std.specs.Prelude.{ℕ, ◌≡◌, ◌≢◌, List, [], ◌∷◌, ◌++◌, map, true, false}
use Rattle.std.specs.Char.{is_ascii_digit}
use Rattle.bc_text_items.specs.declared.item.Item.{Item}
use Rattle.bc_text.specs.Letters.{is_blank}
use Rattle.bc_text.specs.Spelling.{Spells}

-- The elements of a text apart from separators: items, and the `Z` that ends a segment.
pub data Element : Type 0 where
  an_item : Item → Element
  end_of_segment : Element

-- the bytes don't begin with a digit, so a number before them ends
abbrev pub BeginsWithNoDigit : List ℕ → Type 0
BeginsWithNoDigit [] = Unit {0}
BeginsWithNoDigit (byte ∷ bytes) = is_ascii_digit byte ≡ false

-- the bytes are within one line
abbrev pub HasNoLineEnd : List ℕ → Type 0
HasNoLineEnd [] = Unit {0}
HasNoLineEnd (byte ∷ bytes) = (byte ≢ 10) × HasNoLineEnd bytes

-- the bytes begin with a line feed, or there are none, so a comment before them ends
abbrev pub BeginsWithLineEnd : List ℕ → Type 0
BeginsWithLineEnd [] = Unit {0}
BeginsWithLineEnd (byte ∷ bytes) = byte ≡ 10

-- The bytes are these elements and separators, followed by `rest`. No separator is required between elements.
pub data Begins : List ℕ → List Element → List ℕ → Type 0 where
  nothing : {rest : List ℕ} → Begins rest [] rest
  blank : {byte : ℕ} {bytes rest : List ℕ} {elements : List Element} → is_blank byte ≡ true → Begins bytes elements rest
      → Begins (byte ∷ bytes) elements rest
  comment : {bytes rest : List ℕ} {elements : List Element} (line : List ℕ) → HasNoLineEnd line → BeginsWithLineEnd bytes
      → Begins bytes elements rest → Begins (47 ∷ (line ++ bytes)) elements rest
  item : {bytes rest : List ℕ} {elements : List Element} (text : List ℕ) (item : Item) → Spells text item → BeginsWithNoDigit bytes
      → Begins bytes elements rest → Begins (text ++ bytes) (an_item item ∷ elements) rest
  segment_end : {bytes rest : List ℕ} {elements : List Element} → Begins bytes elements rest
      → Begins (90 ∷ bytes) (end_of_segment ∷ elements) rest

-- the elements of segments: the items of each, followed by its end
abbrev pub elements_of : List (List Item) → List Element
elements_of [] = []
elements_of (segment ∷ segments) = map an_item segment ++ end_of_segment ∷ elements_of segments

-- the bytes are a text of these segments
abbrev pub IsText : List ℕ → List (List Item) → Type 0
IsText bytes segments = Begins bytes (elements_of segments) []

-- the bytes can be continued to a text
abbrev pub GoesOn : List ℕ → Type 0
GoesOn bytes = (more : List ℕ) × (segments : List (List Item)) × IsText (bytes ++ more) segments
