-- The table of the code as a list of texts and symbols.
use Rattle.std.specs.Prelude.{ℕ, List, map}
use Rattle.bc_lex_tokens.specs.declared.symbol.Symbol.{Symbol}
use Rattle.bc_lex_tokens.specs.declared.symbol.Spelling.{Spelling}

-- a row of the table
abbrev pub row : Spelling → List ℕ × Symbol
row s = (s.text.now, s.symbol)

-- the rows of the table
abbrev pub rows : List Spelling → List (List ℕ × Symbol)
rows = map row
