-- The tokens of a source, or its first fault.
use Rattle.std.specs.Prelude.{◌≡◌, ◌≢◌, ℕ, zero, suc, ◌+◌, ◌<◌, ◌≤◌, Bool, true, false, ◌||◌, List, [], ◌∷◌, ◌++◌, ◌⊎◌, length, slice_get, Some, codes}
use Rattle.bc_lex_tokens.specs.declared.symbol.Symbol.TheVariants as symbol
use Rattle.bc_lex_tokens.specs.Token.{Kind, Sign, Lexeme}
use Rattle.bc_lex.specs.declared.fault.FaultKind.{FaultKind}
use Rattle.bc_lex.specs.declared.error.LexError.{LexError}
use Rattle.bc_lex.specs.declared.error.LexError.TheVariants as errors
use Rattle.bc_lex.specs.Bytes.{is_space, is_name_byte}
use Rattle.bc_lex.specs.Gaps.{breaks, begins, opens_line, opens_block, IsGap}
use Rattle.bc_lex.specs.Quotes.{Spells}
use Rattle.bc_lex.specs.Lexemes.{Ends, IsLexeme}
use Rattle.bc_lex.specs.Faults.{IsFaulty}
use Rattle.bc_lex.specs.Files.{File, text_of}
use Rattle.bc_lex.specs.Errors.{error_of}

-- i is the index of the first file with this name
pub record IsFirstNamed (files : List File) (name : List ℕ) (i : ℕ) : Type 0 where
  pub text : List ℕ
  pub there : slice_get files i ≡ Some (record { name = name; text = text })
  pub first : (j : ℕ) (other : File) → j < i → slice_get files j ≡ Some other → other.name ≢ name

-- no file has this name
abbrev pub IsUnnamed : List File → List ℕ → Type 0
IsUnnamed files name = (j : ℕ) (other : File) → slice_get files j ≡ Some other → other.name ≢ name

-- the bytes begin with neither a blank, a comment nor a string
abbrev pub IsNoString : List ℕ → Type 0
IsNoString [] = Unit {0}
IsNoString (b ∷ bs) = (is_space b ≡ false) × (opens_line (b ∷ bs) ≡ false) × (opens_block (b ∷ bs) ≡ false) × (b ≢ 34)

-- after a GET there is a comment or a string that has this fault
abbrev pub IsFaultyString : List ℕ → FaultKind → ℕ → Type 0
IsFaultyString bytes kind at = ((begins 34 bytes ≡ true) ⊎ (opens_block bytes ≡ true)) × IsFaulty bytes kind at

-- the gap and the string of a GET, what follows them, and the name that the string spells
pub record IsGet (gap string after name : List ℕ) : Type 0 where
  pub text : List ℕ
  pub quotes : string ≡ 34 ∷ (text ++ 34 ∷ [])
  pub spelled : Spells 34 text name
  pub short : length name < 256
  pub space : IsGap gap (string ++ after)
  pub word : Ends is_name_byte (gap ++ (string ++ after))

-- how a text ends: whole, or by a fault
pub data Ending : Type 0 where
  Whole : Ending
  Faulty : LexError → Ending

-- the token with this text, which begins at this offset of the file
abbrev pub token : ℕ → ℕ → Bool → Kind → List ℕ → Lexeme
token file start line kind text = record { kind = kind; text = text; file = file; start = start; end = start + length text; line_before = line }

-- Reads levels file before at line bytes tokens ending: the bytes of a file from offset `at` to its end have these tokens, up to the end
-- or to the first fault. `before` tokens come before them, `line` says whether there is a line break between the last of these (or the
-- start) and them, and GETs may nest `levels` deeper.
pub data Reads (files : List File) : ℕ → ℕ → ℕ → ℕ → Bool → List ℕ → List Lexeme → Ending → Type 0 where
  -- Only a gap remains: no token.
  End : (levels file before at : ℕ) (line : Bool) (gap : List ℕ) → IsGap gap [] → Reads files levels file before at line gap [] Whole
  -- A gap and a token, and then the rest. A line break in the gap is one before the token.
  Next : (levels file before at : ℕ) (line : Bool) (gap text after : List ℕ) (kind : Kind) (tokens : List Lexeme) (ending : Ending)
      → IsGap gap (text ++ after) → IsLexeme text after kind → kind ≢ Sign symbol.Get → before < 60000
      → Reads files levels file (before + 1) (at + length gap + length text) false after tokens ending
      → Reads files levels file before at line (gap ++ (text ++ after)) (token file (at + length gap) (line || breaks gap) kind text ∷ tokens) ending
  -- The token after a gap is one too many.
  TooMany : (levels file before at : ℕ) (line : Bool) (gap text after : List ℕ) (kind : Kind) → IsGap gap (text ++ after) → IsLexeme text after kind
      → kind ≢ Sign symbol.Get → 60000 ≤ before
      → Reads files levels file before at line (gap ++ (text ++ after)) [] (Faulty (errors.TooManyTokens file (at + length gap)))
  -- A gap, and then something that has a fault.
  Fault : (levels file before at : ℕ) (line : Bool) (gap bytes : List ℕ) (kind : FaultKind) (following : ℕ) → IsGap gap bytes → IsFaulty bytes kind following
      → Reads files levels file before at line (gap ++ bytes) [] (Faulty (error_of kind file (at + length gap + following)))
  -- A gap and a GET with its string: the tokens of the named file, and then those of the rest. Both count as following a line break.
  -- GETs may nest one level less in the named file.
  Get : (levels file before at : ℕ) (line : Bool) (gap space string after name : List ℕ) (named : ℕ) (inner tokens : List Lexeme) (ending : Ending)
      → IsGap gap (codes "GET" ++ (space ++ (string ++ after))) → IsGet space string after name → IsFirstNamed files name named
      → Reads files levels named before 0 true (text_of files named) inner Whole
      → Reads files (suc levels) file (before + length inner) (at + length gap + 3 + length space + length string) true after tokens ending
      → Reads files (suc levels) file before at line (gap ++ (codes "GET" ++ (space ++ (string ++ after)))) (inner ++ tokens) ending
  -- The same, if the named file has a fault: that is the fault.
  GetFault : (levels file before at : ℕ) (line : Bool) (gap space string after name : List ℕ) (named : ℕ) (inner : List Lexeme) (e : LexError)
      → IsGap gap (codes "GET" ++ (space ++ (string ++ after))) → IsGet space string after name → IsFirstNamed files name named
      → Reads files levels named before 0 true (text_of files named) inner (Faulty e)
      → Reads files (suc levels) file before at line (gap ++ (codes "GET" ++ (space ++ (string ++ after)))) inner (Faulty e)
  -- A GET where GETs may not nest deeper.
  GetTooDeep : (file before at : ℕ) (line : Bool) (gap space string after name : List ℕ) (named : ℕ)
      → IsGap gap (codes "GET" ++ (space ++ (string ++ after))) → IsGet space string after name → IsFirstNamed files name named
      → Reads files zero file before at line (gap ++ (codes "GET" ++ (space ++ (string ++ after)))) [] (Faulty (errors.GetTooDeep file (at + length gap)))
  -- A GET whose string names no file.
  GetUnnamed : (levels file before at : ℕ) (line : Bool) (gap space string after name : List ℕ) → IsGap gap (codes "GET" ++ (space ++ (string ++ after)))
      → IsGet space string after name → IsUnnamed files name
      → Reads files levels file before at line (gap ++ (codes "GET" ++ (space ++ (string ++ after)))) [] (Faulty (errors.GetMissing file (at + length gap)))
  -- A GET that is followed by something other than a string.
  GetNoString : (levels file before at : ℕ) (line : Bool) (gap space after : List ℕ) → IsGap gap (codes "GET" ++ (space ++ after))
      → Ends is_name_byte (space ++ after) → IsGap space after → IsNoString after
      → Reads files levels file before at line (gap ++ (codes "GET" ++ (space ++ after))) [] (Faulty (errors.GetMissing file (at + length gap)))
  -- A GET that is followed by a comment or a string with a fault.
  GetFaulty : (levels file before at : ℕ) (line : Bool) (gap space bytes : List ℕ) (kind : FaultKind) (following : ℕ)
      → IsGap gap (codes "GET" ++ (space ++ bytes)) → Ends is_name_byte (space ++ bytes) → IsGap space bytes → IsFaultyString bytes kind following
      → Reads files levels file before at line (gap ++ (codes "GET" ++ (space ++ bytes))) []
      (Faulty (error_of kind file (at + length gap + 3 + length space + following)))

-- a source has this token list, of at most 60,000 tokens
abbrev pub HasTokens : List File → ℕ → List Lexeme → Type 0
HasTokens files main tokens = Reads files 8 main 0 0 false (text_of files main) tokens Whole

-- a source has this first fault, with its file and offset
abbrev pub HasFault : List File → ℕ → LexError → Type 0
HasFault files main e = (tokens : List Lexeme) × Reads files 8 main 0 0 false (text_of files main) tokens (Faulty e)
