-- The laws about closed lists that `bc_parse_defs::closing_laws` proves.
use Rattle.std.specs.Prelude.{◌≡◌, ◌≤◌, List, length, Ok}
use Rattle.bc_lex_tokens.specs.Token.{Lexeme}
use Rattle.bc_parse_tree.specs.Size.{weight}
use Rattle.bc_parse_defs.specs.Closing.{Placed, closed_list, parts_in}
use Rattle.bc_parse_defs.specs.Lawful.{IsClosedList}

-- a closed list has at most as many parts as there are tokens, closing section brackets and line breaks not counted
abbrev pub ClosedIsShort : Type 0
ClosedIsShort = (ts : List Lexeme) (ps : List Placed) → closed_list ts ≡ Ok ps → weight (parts_in ps) ≤ length ts

-- A closed list has line breaks exactly where they count as semicolons, has the tokens, and its section brackets
-- balance.
abbrev pub ClosedIsLawful : Type 0
ClosedIsLawful = (ts : List Lexeme) (ps : List Placed) → closed_list ts ≡ Ok ps → IsClosedList ts ps
