-- For proofs: the lexeme at the start of a list of bytes, as the code reads it.
use Rattle.std.specs.Prelude.{◌≡◌, ℕ, ◌+◌, ◌==◌, ◌||◌, nat_lt, List, [], ◌∷◌, length, take, drop, Option, Some, None, Result, Ok, Err, if◌then◌else◌}
use Rattle.std.specs.List.{prefix_len}
use Rattle.bc_lex_tokens.specs.declared.symbol.Symbol.{Symbol}
use Rattle.bc_lex_tokens.specs.Spelling.{symbol_of}
use Rattle.bc_lex_tokens.specs.Token.{Kind, Sign, Name, Number, Character, String}
use Rattle.bc_lex.specs.declared.fault.Fault.{Fault}
use Rattle.bc_lex.specs.declared.fault.FaultKind.TheVariants as faults
use Rattle.bc_lex.specs.Tags.{has_tag}
use Rattle.bc_lex.specs.Bytes.{is_letter, is_digit, is_name_byte}
use Rattle.bc_lex.specs.Reading.{fault_at, number_of, string_of, character_of}

-- sequencing of results: the first error, or the second result
infixl 10 ◌>>=◌
abbrev pub ◌>>=◌ : {A B E : Type 0} → Result A E → (A → Result B E) → Result B E
(Ok x) >>= f = f x
(Err e) >>= f = Err e

-- a function's result, through a view, is what the pure reader returns
abbrev pub Gives : {X Y E : Type 0} → (X → Y) → Result X E → Result Y E → Type 0
Gives view (Ok x) read = read ≡ Ok (view x)
Gives view (Err e) read = read ≡ Err e

-- the token for a text that begins with a letter, by the symbol that it spells
abbrev pub named : List ℕ → Option Symbol → Kind
named text (Some s) = Sign s
named text None = Name text

-- a name or a reserved word, and the number of its bytes
abbrev pub word_of : List ℕ → Kind × ℕ
word_of bs =
    let n = prefix_len is_name_byte bs in
    (named (take n bs) (symbol_of (take n bs)), n)

-- a sign of one byte
abbrev pub short_of : Option Symbol → Result (Symbol × ℕ) Fault
short_of None = Err (fault_at faults.BadCharacter 0)
short_of (Some s) = Ok (s, 1)

-- a sign of two bytes if there is one, or else of one byte
abbrev pub long_of : List ℕ → Option Symbol → Result (Symbol × ℕ) Fault
long_of bs None = short_of (symbol_of (take 1 bs))
long_of bs (Some s) = Ok (s, 2 + (if has_tag s then prefix_len is_name_byte (drop 2 bs) else 0))

-- a sign, and the number of its bytes
abbrev pub sign_of : List ℕ → Result (Symbol × ℕ) Fault
sign_of bs = if nat_lt 1 (length bs) then long_of bs (symbol_of (take 2 bs)) else short_of (symbol_of (take 1 bs))

abbrev pub string_at : List ℕ → Result (Kind × ℕ) Fault
string_at bs = string_of bs >>= λ n. Ok (String (take n bs), n)

abbrev pub number_at : List ℕ → Result (Kind × ℕ) Fault
number_at bs = number_of bs >>= λ x. Ok (Number x.0, x.1)

abbrev pub character_at : List ℕ → Result (Kind × ℕ) Fault
character_at bs = character_of bs >>= λ x. Ok (Character x.0, x.1)

abbrev pub sign_at : List ℕ → Result (Kind × ℕ) Fault
sign_at bs = sign_of bs >>= λ x. Ok (Sign x.0, x.1)

-- a lexeme, by its first byte
abbrev pub lexeme_by : ℕ → List ℕ → Result (Kind × ℕ) Fault
lexeme_by b bs =
    if is_letter b then Ok (word_of bs)
    else (if is_digit b || (b == 35) then number_at bs
    else (if b == 34 then string_at bs
    else (if b == 39 then character_at bs
    else sign_at bs)))

-- the lexeme at the start of a list, and the number of its bytes
unfoldable pub lexeme_in_front : List ℕ → Result (Kind × ℕ) Fault
lexeme_in_front [] = Err (fault_at faults.BadCharacter 0)
lexeme_in_front (b ∷ bs) = lexeme_by b (b ∷ bs)
