-- The iterations of the loop that reads a file.
use Rattle.std.proofs.Common.{◌≡◌, refl, sym, ap, true, arith, ℕ, suc, ◌+◌, ◌-◌, ◌<◌, List, Result, Ok, Err}
use Rattle.bc_lex_tokens.specs.Token.{Lexeme}
use Rattle.bc_lex.specs.declared.error.LexError.{LexError}
use Rattle.bc_lex.specs.declared.error.LexError.TheVariants as errors
use Rattle.bc_lex.specs.declared.reading.Position.{Position}
use Rattle.bc_lex.specs.Lexeme.{◌>>=◌}
use Rattle.bc_lex.specs.Files.{File}
use Rattle.bc_lex.specs.Lexing.{Fails, Found, Deeper, item_of, found_on, rest_of, file_to_end, deeper_of}

-- when a fault of one reading is a fault of another
pub Fails-through : {Y Z : Type 0} (e : LexError) (r : Result Y LexError) (s : Result Z LexError) → ((x : LexError) → r ≡ Err x → s ≡ Err x) → Fails e r → Fails e s
Fails-through errors.Memory r s f h = tt
Fails-through (errors.BadCharacter file at) r s f h = f _ h
Fails-through (errors.NumberTooLarge file at) r s f h = f _ h
Fails-through (errors.StringTooLong file at) r s f h = f _ h
Fails-through (errors.Unterminated file at) r s f h = f _ h
Fails-through (errors.BadEscape file at) r s f h = f _ h
Fails-through (errors.GetMissing file at) r s f h = f _ h
Fails-through (errors.GetTooDeep file at) r s f h = f _ h
Fails-through (errors.TooManyTokens file at) r s f h = f _ h

-- one iteration, after i of k
pub turn : (deeper : Deeper) (files : List File) (file k i : ℕ) (place : Position) (tokens : List Lexeme) (read : Result (List Lexeme) LexError) → i < k → rest_of deeper files file (k - i) place tokens ≡ read → (item_of files file place >>= found_on (rest_of deeper files file (k - (i + 1))) deeper file tokens) ≡ read
turn deeper files file k i place tokens read h r =
    let s : k - i ≡ suc (k - (i + 1)) = omega arith in
    rw s at r

-- an iteration that finds something
pub turn_found : (deeper : Deeper) (files : List File) (file k i : ℕ) (place : Position) (tokens : List Lexeme) (read : Result (List Lexeme) LexError) (x : Found) → i < k → item_of files file place ≡ Ok x → rest_of deeper files file (k - i) place tokens ≡ read → found_on (rest_of deeper files file (k - (i + 1))) deeper file tokens x ≡ read
turn_found deeper files file k i place tokens read x h e r = rw e at (turn deeper files file k i place tokens read h r)

pub turn_fails : (deeper : Deeper) (files : List File) (file k i : ℕ) (place : Position) (tokens : List Lexeme) (read : Result (List Lexeme) LexError) (e : LexError) → i < k → rest_of deeper files file (k - i) place tokens ≡ read → Fails e (item_of files file place) → Fails e read
turn_fails deeper files file k i place tokens read e h r =
    Fails-through e (item_of files file place) read (λ x f. sym (rw f at (turn deeper files file k i place tokens read h r)))

pub bind_fails : {A B : Type 0} (r : Result A LexError) (f : A → Result B LexError) (read : Result B LexError) (e : LexError) → (r >>= f) ≡ read → Fails e r → Fails e read
bind_fails r f read e h = Fails-through e r read (λ x g. sym (rw g at h))

pub deeper_of-zero : (files : List File) (levels file start named : ℕ) (tokens : List Lexeme) → levels ≡ 0 → deeper_of files levels file start named tokens ≡ Err (errors.GetTooDeep file start)
unfolding deeper_of
deeper_of-zero files levels file start named tokens e = rw e refl

pub bind_goes_on : {A B : Type 0} (r : Result A LexError) (f : A → Result B LexError) (read : Result B LexError) (x : A) → (r >>= f) ≡ read → r ≡ Ok x → f x ≡ read
bind_goes_on r f read x h e = rw e at h

pub deeper_of-suc : (files : List File) (levels file start named : ℕ) (tokens : List Lexeme) → (levels ≡ 0 → ⊥) → deeper_of files levels file start named tokens ≡ file_to_end (deeper_of files (levels - 1)) files named true tokens
unfolding deeper_of
deeper_of-suc files levels file start named tokens ne =
    let s : levels ≡ suc (levels - 1) = omega arith in
    ap (λ n. deeper_of files n file start named tokens) s
