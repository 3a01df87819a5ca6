-- For proofs: assembling item by item, where two consecutive bytes share a word.
use Rattle.std.specs.Prelude.{ℕ, List, ◌∷◌, Bool, true, false, Option, Some, None}
use Rattle.bc_text_items.specs.Sizes.{size}
use Rattle.bc_text_items.specs.declared.item.Item.{Item}
use Rattle.bc_text_items.specs.declared.item.Item.TheVariants.{Byte}

-- the items whose words aren't counted yet; a byte before them may have left the low half of its word free
abbrev pub uncounted : Bool → List Item → List Item
uncounted true (Byte low ∷ items) = items
uncounted half items = items

-- the words that an item begins
abbrev pub words_begun : Bool → Item → ℕ
words_begun true (Byte low) = 0
words_begun half item = size item

-- whether an item leaves the low half of its word free
abbrev pub leaves_half : Bool → Item → Bool
leaves_half false (Byte high) = true
leaves_half half item = false

-- the items, preceded by the byte that waits, if there is one
abbrev pub with_waiting : Option ℕ → List Item → List Item
with_waiting None items = items
with_waiting (Some high) items = Byte high ∷ items
