-- The letters and separators of INTCODE text, as bytes.
use Rattle.std.specs.Prelude.{ℕ, List, [], ◌∷◌, ◌++◌, Bool, true, false, ◌==◌, ◌||◌}
use Rattle.bc_text_items.specs.declared.item.Base.{Base}
use Rattle.bc_text_items.specs.declared.item.Base.TheVariants as bases
use Rattle.bc_text_items.specs.declared.item.Function.{Function}
use Rattle.bc_text_items.specs.declared.item.Function.TheVariants as functions

-- the letter of a function: L S A J T F K X
abbrev pub letter : Function → ℕ
letter functions.Load = 76
letter functions.Store = 83
letter functions.Add = 65
letter functions.Jump = 74
letter functions.JumpIfTrue = 84
letter functions.JumpIfFalse = 70
letter functions.Call = 75
letter functions.Execute = 88

-- `I`, or nothing
abbrev pub indirection : Bool → List ℕ
indirection true = 73 ∷ []
indirection false = []

-- `P`, `G`, `L` for a label, or nothing
abbrev pub base_letter : Base → List ℕ
base_letter bases.Number = []
base_letter bases.P = 80 ∷ []
base_letter bases.G = 71 ∷ []
base_letter bases.Label = 76 ∷ []

-- all of an operation before its number
abbrev pub operation_letters : Function → Bool → Base → List ℕ
operation_letters function indirect base = letter function ∷ indirection indirect ++ base_letter base

-- the bytes that separate items: space, tab, CR, LF and `$`
abbrev pub is_blank : ℕ → Bool
is_blank byte = byte == 32 || byte == 9 || byte == 13 || byte == 10 || byte == 36
