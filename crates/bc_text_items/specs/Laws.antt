-- The laws of the words that items become.
use Rattle.std.specs.Prelude.{ℕ, ◌+◌, ◌≡◌, List, [], ◌∷◌, ◌++◌, length}
use Rattle.bc_text_items.specs.Sizes.{size_of_all}
use Rattle.bc_text_items.specs.Assembled.{assembled, label_places, global_settings}
use Rattle.bc_text_items.specs.declared.item.Item.{Item}
use Rattle.bc_text_items.specs.declared.item.Item.TheVariants.{Label, Data, DataLabel, Byte, Operation, Global}

-- the first item isn't a byte, so it shares no word with an item before it
abbrev pub BeginsWithNoByte : List Item → Type 0
BeginsWithNoByte [] = Unit {0}
BeginsWithNoByte (Byte b ∷ items) = ⊥
BeginsWithNoByte (Label m ∷ items) = Unit {0}
BeginsWithNoByte (Data n ∷ items) = Unit {0}
BeginsWithNoByte (DataLabel m ∷ items) = Unit {0}
BeginsWithNoByte (Operation function indirect base n ∷ items) = Unit {0}
BeginsWithNoByte (Global n m ∷ items) = Unit {0}

-- these items become as many words as their size says
abbrev pub HasItsSize : (ℕ → ℕ) → List Item → Type 0
HasItsSize address items = length (assembled address items) ≡ size_of_all items

-- items and others can be assembled separately: words, size, places of labels and settings of the whole are those of the parts
pub record StandApart (address : ℕ → ℕ) (start : ℕ) (items others : List Item) : Type 0 where
  pub words : assembled address (items ++ others) ≡ assembled address items ++ assembled address others
  pub size : size_of_all (items ++ others) ≡ size_of_all items + size_of_all others
  pub places : label_places start (items ++ others) ≡ label_places start items ++ label_places (start + size_of_all items) others
  pub settings : global_settings (items ++ others) ≡ global_settings items ++ global_settings others
