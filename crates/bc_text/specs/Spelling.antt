-- The texts of an item: the table of items.
use Rattle.std.specs.Prelude.{ℕ, ◌≡◌, List, [], ◌∷◌, ◌++◌}
use Rattle.bc_text_items.specs.declared.item.Item.{Item}
use Rattle.bc_text_items.specs.declared.item.Item.TheVariants.{Label, Data, DataLabel, Byte, Operation, Global}
use Rattle.bc_text_items.specs.declared.item.Base.{Base}
use Rattle.bc_text_items.specs.declared.item.Base.TheVariants as bases
use Rattle.bc_text.specs.Numbers.{IsNumber, IsSignedNumber}
use Rattle.bc_text.specs.Letters.{operation_letters}

-- the number of an operation: with a label it has no sign
abbrev pub IsOperationNumber : Base → List ℕ → ℕ → Type 0
IsOperationNumber bases.Label text n = IsNumber 65535 text n
IsOperationNumber bases.Number text n = IsSignedNumber text n
IsOperationNumber bases.P text n = IsSignedNumber text n
IsOperationNumber bases.G text n = IsSignedNumber text n

-- the text is `front`, followed by a text with the property P
abbrev pub After : List ℕ → (List ℕ → Type 0) → List ℕ → Type 0
After front P text = (rest : List ℕ) × (text ≡ front ++ rest) × P rest

-- the text spells the item
abbrev pub Spells : List ℕ → Item → Type 0
-- n
Spells text (Label n) = IsNumber 65535 text n
-- Dn
Spells text (Data n) = After (68 ∷ []) (λ rest. IsSignedNumber rest n) text
-- DLm
Spells text (DataLabel m) = After (68 ∷ 76 ∷ []) (λ rest. IsNumber 65535 rest m) text
-- Cn
Spells text (Byte n) = After (67 ∷ []) (λ rest. IsNumber 255 rest n) text
-- F[I][P|G]n and F[I]Lm
Spells text (Operation function indirect base n) =
    After (operation_letters function indirect base) (λ rest. IsOperationNumber base rest n) text
-- GnLm
Spells text (Global n m) =
    (number label : List ℕ) × (text ≡ 71 ∷ number ++ 76 ∷ label) × IsNumber 511 number n × IsNumber 65535 label m
