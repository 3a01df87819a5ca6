-- Code in the store: the words of its items are at its address, in cells that are dead for the source.
use Rattle.std.specs.Prelude.{ℕ, ◌≡◌, ◌+◌, ◌<◌, ◌≤◌, List, [], ◌∷◌, slice_index}
use Rattle.bc_text_items.specs.declared.item.Item.{Item}
use Rattle.bc_text_items.specs.declared.item.Item.TheVariants.{Label}
use Rattle.bc_text_items.specs.Sizes.{size}
use Rattle.bc_text_items.specs.Assembled.{words_of_item}
use Rattle.bc_core.specs.Store.{Cell, Dead, cell_at}

abbrev pub HasWords : List ℕ → ℕ → List ℕ → Type 0
HasWords store c [] = Unit {0}
HasWords store c (w ∷ ws) = (slice_index store c ≡ w) × HasWords store (c + 1) ws

-- a label is at its own address
abbrev pub StandsAt : (ℕ → ℕ) → Item → ℕ → Type 0
StandsAt address (Label m) c = address m ≡ c
StandsAt address _ c = Unit {0}

abbrev pub HasItems : (ℕ → ℕ) → List ℕ → ℕ → List Item → Type 0
HasItems address store c [] = Unit {0}
HasItems address store c (i ∷ is) =
    HasWords store c (words_of_item address i) × StandsAt address i c × HasItems address store (c + size i) is

-- the words of code, which has no bytes
abbrev pub words : List Item → ℕ
words [] = 0
words (i ∷ is) = size i + words is

-- The items are code at the address c, where `address m` is the address of the label m.
pub record IsCode (address : ℕ → ℕ) (top : ℕ) (cells : List Cell) (store : List ℕ) (c : ℕ) (items : List Item) : Type 0 where
  pub has : HasItems address store c items
  pub dead : (a : ℕ) → c ≤ a → a < c + words items → cell_at cells a ≡ Dead
  pub below : c + words items ≤ top
  pub fits : c + words items < 65536
