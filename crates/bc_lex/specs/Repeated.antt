-- For proofs: the tokens of a file that is read again.
use Rattle.std.specs.Prelude.{◌≡◌, ℕ, ◌-◌, ◌≤◌, true, List, [], ◌∷◌, length, take, drop, Result, Ok}
use Rattle.std.specs.List.{All}
use Rattle.bc_lex_tokens.specs.Token.{Lexeme}
use Rattle.bc_lex.specs.declared.error.LexError.{LexError}
use Rattle.bc_lex.specs.declared.read_file.ReadFile.{ReadFile}
use Rattle.bc_lex.specs.Lexeme.{◌>>=◌}
use Rattle.bc_lex.specs.Files.{File}
use Rattle.bc_lex.specs.Lexing.{pushed, file_to_end, deeper_of}

-- the tokens with more tokens, one by one, if there are not too many
abbrev pub pushed_all : List Lexeme → List Lexeme → Result (List Lexeme) LexError
pushed_all [] tokens = Ok tokens
pushed_all (t ∷ more) tokens = pushed t tokens >>= pushed_all more

-- the tokens between two indexes
abbrev pub between : List Lexeme → ℕ → ℕ → List Lexeme
between tokens start end = take (end - start) (drop start tokens)

-- a file that a GET names has these tokens, whatever tokens come before them, if GETs can nest so many levels deep in it, or deeper
abbrev pub Has : List File → ℕ → ℕ → List Lexeme → Type 0
Has files levels file tokens =
    (deeper : ℕ) (before : List Lexeme) → levels ≤ deeper → file_to_end (deeper_of files deeper) files file true before ≡ pushed_all tokens before

-- what is kept of a file that was read is right
pub record IsRight (files : List File) (tokens : List Lexeme) (r : ReadFile) : Type 0 where
  pub order : r.start ≤ r.end
  pub within : r.end ≤ length tokens
  pub has : Has files r.levels r.file (between tokens r.start r.end)

-- and so for all files that were read
abbrev pub AreRight : List File → List Lexeme → List ReadFile → Type 0
AreRight files tokens = All (IsRight files tokens)
