-- For proofs: what the code found next in a file, as a plain value.
use Rattle.std.specs.Prelude.{ℕ, ◌<◌, ◌≤◌, List, length}
use Rattle.bc_lex_tokens.specs.Token.{lexeme_of}
use Rattle.bc_lex.specs.declared.source.Source.{Source}
use Rattle.bc_lex.specs.declared.reading.Found as code
use Rattle.bc_lex.specs.declared.reading.Found.TheVariants as item
use Rattle.bc_lex.specs.Files.{files_of, text_of}
use Rattle.bc_lex.specs.Lexing.{Found, End, Token, Get}

-- what was found
abbrev pub found : code.Found → Found
found item.End = End
found (item.Token t) = Token (lexeme_of t)
found (item.Get start named following) = Get start named following

-- the offset after what was found is in the file, and the file that a GET names exists
abbrev pub IsWithin : List Source → ℕ → code.Found → Type 0
IsWithin sources file item.End = Unit {0}
IsWithin sources file (item.Token t) = t.end ≤ length (text_of (files_of sources) file)
IsWithin sources file (item.Get start named following) = (named < length sources) × (following ≤ length (text_of (files_of sources) file))
