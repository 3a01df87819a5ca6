-- The law that lists of tokens with the same marks are the same to the parser.
use Rattle.std.specs.Prelude.{◌≡◌, List}
use Rattle.bc_lex_tokens.specs.Token.{Lexeme}
use Rattle.bc_parse_defs.specs.Closing.{closed_list}
use Rattle.bcpl_format.specs.Kept.{marks}

-- lists of tokens with the same marks have the same closed list, which is all that the parser reads
abbrev pub SameMarksAreClosedAlike : Type 0
SameMarksAreClosedAlike = (before after : List Lexeme) → marks after ≡ marks before → closed_list after ≡ closed_list before
