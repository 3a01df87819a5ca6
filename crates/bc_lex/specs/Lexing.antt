-- For proofs: the tokens of a file or the first fault, as the code reads them.
use Rattle.std.specs.Prelude.{◌≡◌, ℕ, zero, suc, ◌+◌, ◌-◌, Bool, true, false, ◌==◌, ◌||◌, nat_lt, List, [], ◌∷◌, ◌++◌, length, take, drop, Option, Some, None, Result, Ok, Err, if◌then◌else◌}
use Rattle.bc_lex_tokens.specs.declared.symbol.Symbol.TheVariants as symbol
use Rattle.bc_lex_tokens.specs.Token.{Kind, Sign, Lexeme}
use Rattle.bc_lex.specs.declared.fault.Fault.{Fault}
use Rattle.bc_lex.specs.declared.error.LexError.{LexError}
use Rattle.bc_lex.specs.declared.error.LexError.TheVariants as errors
use Rattle.bc_lex.specs.declared.reading.Position.{Position}
use Rattle.bc_lex.specs.Reading.{string_of}
use Rattle.bc_lex.specs.Gaps.{begins, breaks}
use Rattle.bc_lex.specs.Blank.{gap_of}
use Rattle.bc_lex.specs.Lexeme.{◌>>=◌, lexeme_in_front}
use Rattle.bc_lex.specs.Files.{File, text_of}
use Rattle.bc_lex.specs.Search.{source_from}
use Rattle.bc_lex.specs.Errors.{error_of}

-- the error of a function is what the pure reader returns, or it is Memory
abbrev pub Fails : {Y : Type 0} → LexError → Result Y LexError → Type 0
Fails errors.Memory read = Unit {0}
Fails (errors.BadCharacter f o) read = read ≡ Err (errors.BadCharacter f o)
Fails (errors.NumberTooLarge f o) read = read ≡ Err (errors.NumberTooLarge f o)
Fails (errors.StringTooLong f o) read = read ≡ Err (errors.StringTooLong f o)
Fails (errors.Unterminated f o) read = read ≡ Err (errors.Unterminated f o)
Fails (errors.BadEscape f o) read = read ≡ Err (errors.BadEscape f o)
Fails (errors.GetMissing f o) read = read ≡ Err (errors.GetMissing f o)
Fails (errors.GetTooDeep f o) read = read ≡ Err (errors.GetTooDeep f o)
Fails (errors.TooManyTokens f o) read = read ≡ Err (errors.TooManyTokens f o)

-- a function's result, through a view, is what the pure reader returns; or its error is Memory
abbrev pub ReadsAs : {X Y : Type 0} → (X → Y) → Result X LexError → Result Y LexError → Type 0
ReadsAs view (Ok x) read = read ≡ Ok (view x)
ReadsAs view (Err e) read = Fails e read

-- a fault in bytes that begin at an offset, as an error of the file
abbrev pub located : {X : Type 0} → ℕ → ℕ → Result X Fault → Result X LexError
located file at (Ok x) = Ok x
located file at (Err f) = Err (error_of f.kind file (at + f.at))

-- the value, or this error if there is none
abbrev pub found_or : {X : Type 0} → LexError → Option X → Result X LexError
found_or e None = Err e
found_or e (Some x) = Ok x

-- the offset after blanks, line breaks and comments
unfoldable pub skipped : ℕ → List ℕ → ℕ → Result ℕ LexError
skipped file text at = located file at (gap_of (drop at text)) >>= λ n. Ok (at + n)

-- the offset after a string
unfoldable pub string_end_of : ℕ → List ℕ → ℕ → Result ℕ LexError
string_end_of file text at = located file at (string_of (drop at text)) >>= λ n. Ok (at + n)

-- a lexeme, and the offset after it
unfoldable pub lexeme_at : ℕ → List ℕ → ℕ → Result (Kind × ℕ) LexError
lexeme_at file text at = located file at (lexeme_in_front (drop at text)) >>= λ x. Ok (x.0, at + x.1)

-- the part of a text between two offsets
abbrev pub part : List ℕ → ℕ → ℕ → List ℕ
part text from to = take (to - from) (drop from text)

-- the file that the string between two offsets names
abbrev pub named_on : List File → ℕ → List ℕ → ℕ → ℕ → ℕ → Result (ℕ × ℕ) LexError
named_on files file text start quote following =
    found_or (errors.GetMissing file start) (source_from (part text quote following) 0 files) >>= λ named. Ok (named, following)

-- the file that a GET at `start` names, whose string must begin at `quote`
abbrev pub target_on : List File → ℕ → List ℕ → ℕ → ℕ → Result (ℕ × ℕ) LexError
target_on files file text start quote =
    if begins 34 (drop quote text)
    then string_end_of file text quote >>= named_on files file text start quote
    else Err (errors.GetMissing file start)

-- the file that the GET from `start` to `end` names, and the offset after its string
unfoldable pub target_of : List File → ℕ → List ℕ → ℕ → ℕ → Result (ℕ × ℕ) LexError
target_of files file text start end = skipped file text end >>= target_on files file text start

-- what comes next in a file: its end, a token, or a GET with its offset, the file that it names, and the offset after its string
pub data Found : Type 0 where
  End : Found
  Token : Lexeme → Found
  Get : ℕ → ℕ → ℕ → Found

-- whether a token is the word GET
abbrev pub is_get : Kind → Bool
is_get (Sign symbol.Get) = true
is_get _ = false

-- what comes next, if a lexeme begins at `start`
unfoldable pub item_by : List File → ℕ → List ℕ → Position → ℕ → Kind × ℕ → Result Found LexError
item_by files file text place start x =
    if is_get x.0
    then target_of files file text start x.1 >>= (λ t. Ok (Get start t.0 t.1))
    else Ok (Token (record {
      kind = x.0;
      text = part text start x.1;
      file = file;
      start = start;
      end = x.1;
      line_before = place.line
          || breaks (part text place.at start);
    }))

-- what comes next, after blanks up to `start`
abbrev pub item_on : List File → ℕ → List ℕ → Position → ℕ → Result Found LexError
item_on files file text place start =
    if start == length text then Ok End else lexeme_at file text start >>= item_by files file text place start

-- what comes next in a file
unfoldable pub item_of : List File → ℕ → Position → Result Found LexError
item_of files file place = skipped file (text_of files file) place.at >>= item_on files file (text_of files file) place

-- the tokens with one more, if there are not too many
abbrev pub pushed : Lexeme → List Lexeme → Result (List Lexeme) LexError
pushed token tokens =
    if nat_lt (length tokens) 60000 then Ok (tokens ++ token ∷ []) else Err (errors.TooManyTokens token.file token.start)

-- a function that reads the file that a GET names: from the GET's file and offset, the named file, and the tokens before
abbrev pub Deeper : Type 0
Deeper = ℕ → ℕ → ℕ → List Lexeme → Result (List Lexeme) LexError

abbrev pub place_at : ℕ → Bool → Position
place_at at line = record { at = at; line = line }

-- one iteration, by what was found
abbrev pub found_on : (Position → List Lexeme → Result (List Lexeme) LexError) → Deeper → ℕ → List Lexeme → Found → Result (List Lexeme) LexError
found_on again deeper file tokens End = Ok tokens
found_on again deeper file tokens (Token token) = pushed token tokens >>= again (place_at token.end false)
found_on again deeper file tokens (Get start named following) = deeper file start named tokens >>= again (place_at following true)

-- the rest of a file, in at most so many iterations
abbrev pub rest_of : Deeper → List File → ℕ → ℕ → Position → List Lexeme → Result (List Lexeme) LexError
rest_of deeper files file zero place tokens = Ok tokens
rest_of deeper files file (suc k) place tokens =
    item_of files file place >>= found_on (rest_of deeper files file k) deeper file tokens

-- a whole file; `line` says whether its first token counts as following a line break
unfoldable pub file_to_end : Deeper → List File → ℕ → Bool → List Lexeme → Result (List Lexeme) LexError
file_to_end deeper files file line tokens =
    rest_of deeper files file (length (text_of files file)) (place_at 0 line) tokens

-- the files that GETs name, which may nest so many levels deep
unfoldable pub deeper_of : List File → ℕ → Deeper
deeper_of files zero file start named tokens = Err (errors.GetTooDeep file start)
deeper_of files (suc k) file start named tokens = file_to_end (deeper_of files k) files named true tokens

-- a source, with the files that its GETs name
unfoldable pub read_of : List File → ℕ → Result (List Lexeme) LexError
read_of files main = file_to_end (deeper_of files 8) files main false []
