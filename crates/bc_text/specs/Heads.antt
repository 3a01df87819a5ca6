-- Heads: all of an item before its last number. Which bytes may follow a head, and which numbers.
use Rattle.std.specs.Prelude.{ℕ, ◌==◌, ◌≡◌, List, [], ◌∷◌, ◌++◌, Bool, true, false}
use Rattle.std.specs.List.{list_any}
use Rattle.bc_text_items.specs.declared.item.Base.TheVariants as bases
use Rattle.bc_text.specs.Numbers.{IsNumber}
use Rattle.bc_text.specs.Letters.{operation_letters}
use Rattle.bc_text.specs.declared.head.Head.{Head}
use Rattle.bc_text.specs.declared.head.Head.TheVariants as heads

-- the text spells this head
abbrev pub IsHead : List ℕ → Head → Type 0
IsHead text heads.Label = text ≡ []
IsHead text heads.Data = text ≡ 68 ∷ []
IsHead text heads.DataLabel = text ≡ 68 ∷ 76 ∷ []
IsHead text heads.Byte = text ≡ 67 ∷ []
IsHead text (heads.Operation function indirect base) = text ≡ operation_letters function indirect base
IsHead text heads.Global = text ≡ 71 ∷ []
IsHead text (heads.GlobalLabel n) = (number : List ℕ) × (text ≡ 71 ∷ number ++ 76 ∷ []) × IsNumber 511 number n

-- the bytes other than digits that may follow the head: some of `I`, `P`, `G`, `L` and `-`
abbrev pub others_after : Head → List ℕ
others_after heads.Label = []
others_after heads.Data = 76 ∷ 45 ∷ []
others_after heads.DataLabel = []
others_after heads.Byte = []
others_after (heads.Operation function false bases.Number) = 73 ∷ 80 ∷ 71 ∷ 76 ∷ 45 ∷ []
others_after (heads.Operation function true bases.Number) = 80 ∷ 71 ∷ 76 ∷ 45 ∷ []
others_after (heads.Operation function indirect bases.P) = 45 ∷ []
others_after (heads.Operation function indirect bases.G) = 45 ∷ []
others_after (heads.Operation function indirect bases.Label) = []
others_after heads.Global = []
others_after (heads.GlobalLabel n) = []

-- whether this byte, which isn't a digit, may follow the head
abbrev pub allows : Head → ℕ → Bool
allows head byte = list_any (λ other. byte == other) (others_after head)

-- the greatest number that may follow the head; with a `-` it is 32,768
abbrev pub limit : Head → ℕ
limit heads.Label = 65535
limit heads.Data = 65535
limit heads.DataLabel = 65535
limit heads.Byte = 255
limit (heads.Operation function indirect base) = 65535
limit heads.Global = 511
limit (heads.GlobalLabel n) = 65535
