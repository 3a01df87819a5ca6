-- The words of statics, tables and strings.
use Rattle.std.specs.Prelude.{ℕ, ◌+◌, ◌*◌, List, [], ◌∷◌, length}
use Rattle.bc_core.specs.Commands.{Place, Code, Static, Table, Text}

-- bytes packed two to a word, the high byte first
abbrev pub packed : List ℕ → List ℕ
packed [] = []
packed (high ∷ []) = high * 256 ∷ []
packed (high ∷ low ∷ bytes) = (high * 256 + low) ∷ packed bytes

-- a string's words: byte 0 is its length
abbrev pub string_words : List ℕ → List ℕ
string_words bytes = packed (length bytes ∷ bytes)

-- the words at a place; a routine has code instead
abbrev pub data_words : Place → List ℕ
data_words (Code r) = []
data_words (Static w) = w ∷ []
data_words (Table ws) = ws
data_words (Text bytes) = string_words bytes
