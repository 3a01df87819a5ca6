-- What a layout keeps of a source: its tokens, the line breaks that count, and every byte but blanks and line breaks.
use Rattle.std.specs.Prelude.{◌≡◌, ℕ, ◌+◌, Bool, false, ◌&&◌, not, List, [], ◌∷◌, ◌++◌, take, drop, filter, slice_index_or}
use Rattle.bc_lex_tokens.specs.Token.{Kind, Lexeme}
use Rattle.bc_lex.specs.Bytes.{is_space}
use Rattle.bc_lex.specs.Files.{File, no_file, text_of}
use Rattle.bc_lex.specs.Tokens.{HasTokens}
use Rattle.bc_parse_defs.specs.Closing.{kind_part, ends_command, begins_command}

-- a token without its place in its file, and whether a line break before it counts as a semicolon
pub record Mark : Type 0 where
  pub kind : Kind
  pub text : List ℕ
  pub file : ℕ
  pub breaks : Bool

-- the mark of a token; `ends` says whether a command can end with the token before it
abbrev pub mark_of : Bool → Lexeme → Mark
mark_of ends t = record { kind = t.kind; text = t.text; file = t.file; breaks = ends && t.line_before && begins_command (kind_part t.kind) }

-- the marks of tokens; `ends` says whether a command can end with the token before the first one
abbrev pub marks_after : Bool → List Lexeme → List Mark
marks_after ends [] = []
marks_after ends (t ∷ ts) = mark_of ends t ∷ marks_after (ends_command (kind_part t.kind)) ts

-- the marks of all tokens of a source
abbrev pub marks : List Lexeme → List Mark
marks ts = marks_after false ts

-- the bytes other than blanks and line breaks
abbrev pub ink : List ℕ → List ℕ
ink bytes = filter (λ b. not (is_space b)) bytes

-- the files, where one of them has another text
abbrev pub with_text : List File → ℕ → List ℕ → List File
with_text files i text = take i files ++ (record { name = (slice_index_or files i no_file).name; text = text } ∷ drop (i + 1) files)

-- The text is a layout of a source. With this text instead of its own, the source has the same tokens, also those that it gets,
-- the same line breaks count as semicolons, and nothing but blanks and line breaks is different in the text.
pub record IsLayout (files : List File) (main : ℕ) (text : List ℕ) : Type 0 where
  pub before : List Lexeme
  pub after : List Lexeme
  pub tokens_before : HasTokens files main before
  pub tokens_after : HasTokens (with_text files main text) main after
  pub same_marks : marks after ≡ marks before
  pub same_ink : ink text ≡ ink (text_of files main)
