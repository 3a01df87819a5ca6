-- From the reader to the definition: what is read at the start of a list is a lexeme by definition, or has the fault.
use Rattle.std.proofs.Common.{◌≡◌, ◌≢◌, ◌∙◌, refl, sym, ap, arith, ℕ, suc, ◌+◌, ◌≤◌, ◌<◌, inl, inr, Bool, true, false, ◌||◌, List, [], ◌∷◌, ◌++◌, length, take, drop, Option, Some, None, Result, Ok, Err, cond, nat_eq, nat_lt, append_assoc, take-append-drop}
use Rattle.std.specs.List.{list_all, prefix_len}
use Rattle.std.proofs.lemmas.Bool.{eqb-true, and_parts, and_from, or_cases, or_parts, both_ways, lt-ltb, cond-true, cond-false}
use Rattle.bc_lex_tokens.specs.declared.symbol.Symbol.{Symbol}
use Rattle.bc_lex_tokens.specs.Spelling.{symbol_of}
use Rattle.bc_lex_tokens.specs.Token.{Kind, Sign, Name, Number, Character, String}
use Rattle.bc_lex.specs.declared.fault.Fault.{Fault}
use Rattle.bc_lex.specs.declared.fault.FaultKind.{FaultKind}
use Rattle.bc_lex.specs.declared.fault.FaultKind.TheVariants as faults
use Rattle.bc_lex.specs.declared.quoted.Quoted.{Quoted}
use Rattle.bc_lex.specs.declared.quoted.Quoted.TheVariants as quoted
use Rattle.bc_lex.specs.Bytes.{is_letter, is_digit, is_name_byte, is_space}
use Rattle.bc_lex.specs.Tags.{has_tag}
use Rattle.bc_lex.specs.Gaps.{begins, opens_line, opens_block}
use Rattle.bc_lex.specs.Quotes.{IsCharacter}
use Rattle.bc_lex.specs.Lexemes.{Ends, IsName, is_digit_of, value_after, IsNumber, Decimal, Octal, Hexadecimal, IsSign, IsLexeme, Word, Named, Numeral, Constant, Literal, Marked, Bracket}
use Rattle.bc_lex.specs.Faults.{is_sign_byte, NoDigits, IsFaulty, LargeNumber, NoNumber, LongString, OpenString, BadString, BadConstant, OpenConstant, NoToken}
use Rattle.bc_lex.specs.Reading.{fault_at, number_of, string_of, string_from, character_by, quoted_of}
use Rattle.bc_lex.specs.Lexeme.{◌>>=◌, named, word_of, short_of, long_of, string_at, number_at, character_at, sign_at, lexeme_in_front}
use Rattle.bc_lex.proofs.Runs.{run_sound, run_length, run_complete, take-front, drop-front, length-append_ℕ}
use Rattle.bc_lex.proofs.Quoting.{Front, Closes, Cuts, Spoils, Stands, quoted_front, quoted_character, quoted_bad, StringRead, Closed, Cut, Spoiled, Long, string_reads}
use Rattle.bc_lex.proofs.Numbering.{DigitsRead, NoDigit, Small, Large, read_digits, digits_read, digits_small, digits_large, digits_none}
use Rattle.bc_lex.proofs.ByteKinds.{digit_no_letter, digit_ten, ten_digit, test_apart, letter_name, other_parts, sign_byte}
use Rattle.bc_lex.proofs.Shapes.{Shape, Letters, One, Two, shape}

-- the lexeme that was read
pub data LexemeRead (bs : List ℕ) : Result (Kind × ℕ) Fault → Type 0 where
  Found : (text after : List ℕ) (kind : Kind) (n : ℕ) → bs ≡ text ++ after → IsLexeme text after kind → n ≡ length text → LexemeRead bs (Ok (kind, n))
  Faulty : (kind : FaultKind) (at : ℕ) → IsFaulty bs kind at → LexemeRead bs (Err (fault_at kind at))

-- words and names

word_named : (bs text after : List ℕ) (n : ℕ) (o : Option Symbol) → bs ≡ text ++ after → IsName text → Ends is_name_byte after → n ≡ length text → symbol_of text ≡ o → LexemeRead bs (Ok (named text o, n))
word_named bs text after n (Some s) e name end n_is o = Found text after (Sign s) n e (Word text after s name end o) n_is
word_named bs text after n None e name end n_is o = Found text after (Name text) n e (Named text after name end o) n_is

word_reads : (b : ℕ) (bs : List ℕ) → is_letter b ≡ true → LexemeRead (b ∷ bs) (Ok (word_of (b ∷ bs)))
word_reads b bs h =
    let m = prefix_len is_name_byte bs in
    let p = run_sound is_name_byte bs in
    let l : length (take m bs) ≡ m = run_length is_name_byte bs in
    let n : prefix_len is_name_byte (b ∷ bs) ≡ suc m = rw (letter_name b h) (omega arith) in
    let text = b ∷ take m bs in
    let same : word_of (b ∷ bs) ≡ (named text (symbol_of text), suc m) = ap (λ k. (named (take k (b ∷ bs)) (symbol_of (take k (b ∷ bs))), k)) n in
    rw same (word_named (b ∷ bs) text (drop m bs) (suc m) (symbol_of text) (ap (λ ys. b ∷ ys) (sym (take-append-drop m bs))) (h, p.0) p.1 (omega arith) refl)

pub word_complete : (text after : List ℕ) → IsName text → Ends is_name_byte after → lexeme_in_front (text ++ after) ≡ Ok (named text (symbol_of text), length text)
unfolding lexeme_in_front
word_complete [] after name end = absurd name
word_complete (b ∷ bs) after name end =
    let all : list_all is_name_byte (b ∷ bs) ≡ true = and_from (is_name_byte b) (list_all is_name_byte bs) (letter_name b name.0) name.1 in
    let n : prefix_len is_name_byte ((b ∷ bs) ++ after) ≡ length (b ∷ bs) = run_complete is_name_byte (b ∷ bs) after all end in
    let same : word_of ((b ∷ bs) ++ after) ≡ (named (take (length (b ∷ bs)) ((b ∷ bs) ++ after)) (symbol_of (take (length (b ∷ bs)) ((b ∷ bs) ++ after))), length (b ∷ bs)) = ap (λ k. (named (take k ((b ∷ bs) ++ after)) (symbol_of (take k ((b ∷ bs) ++ after))), k)) n in
    let front : take (length (b ∷ bs)) ((b ∷ bs) ++ after) ≡ b ∷ bs = take-front (b ∷ bs) after in
    cond-true (is_letter b) _ _ name.0 ∙ ap Ok (same ∙ ap (λ ys. (named ys (symbol_of ys), length (b ∷ bs))) front)

-- numbers

decimal_read : (b : ℕ) (bs : List ℕ) (read : Result (ℕ × ℕ) Fault) → is_digit b ≡ true → DigitsRead 10 0 (b ∷ bs) read → LexemeRead (b ∷ bs) (read >>= λ x. Ok (Number x.0, x.1))
decimal_read b bs read h (NoDigit end) = absurd (both_ways (is_digit_of 10 b) end (digit_ten b h))
decimal_read b bs read h (Small d ds after n e all end small n_is) =
    Found (d ∷ ds) after (Number (value_after 10 0 (d ∷ ds))) n e (Numeral (d ∷ ds) after (value_after 10 0 (d ∷ ds)) (Decimal d ds after all end) small) (omega arith)
decimal_read b bs read h (Large d ds after e all end large) =
    rw e (Faulty faults.NumberTooLarge 0 (LargeNumber (d ∷ ds) after (value_after 10 0 (d ∷ ds)) (Decimal d ds after all end) large))

octal_read : (bs : List ℕ) (read : Result (ℕ × ℕ) Fault) → begins 88 bs ≡ false → DigitsRead 8 1 bs read → LexemeRead (35 ∷ bs) (read >>= λ x. Ok (Number x.0, x.1))
octal_read bs read h (NoDigit end) =
    Faulty faults.BadCharacter 0 (NoNumber bs (end, λ rest e. absurd (both_ways (begins 88 bs) h (rw e refl))))
octal_read bs read h (Small d ds after n e all end small n_is) =
    Found (35 ∷ d ∷ ds) after (Number (value_after 8 0 (d ∷ ds))) n (ap (λ ys. 35 ∷ ys) e) (Numeral (35 ∷ d ∷ ds) after (value_after 8 0 (d ∷ ds)) (Octal d ds after all end) small) (omega arith)
octal_read bs read h (Large d ds after e all end large) =
    rw e (Faulty faults.NumberTooLarge 0 (LargeNumber (35 ∷ d ∷ ds) after (value_after 8 0 (d ∷ ds)) (Octal d ds after all end) large))

hexadecimal_read : (bs : List ℕ) (read : Result (ℕ × ℕ) Fault) → DigitsRead 16 2 bs read → LexemeRead (35 ∷ 88 ∷ bs) (read >>= λ x. Ok (Number x.0, x.1))
hexadecimal_read bs read (NoDigit end) =
    Faulty faults.BadCharacter 0 (NoNumber (88 ∷ bs) (refl, λ rest e. let same : bs ≡ rest = cc in rw (← same) end))
hexadecimal_read bs read (Small d ds after n e all end small n_is) =
    Found (35 ∷ 88 ∷ d ∷ ds) after (Number (value_after 16 0 (d ∷ ds))) n (ap (λ ys. 35 ∷ 88 ∷ ys) e) (Numeral (35 ∷ 88 ∷ d ∷ ds) after (value_after 16 0 (d ∷ ds)) (Hexadecimal d ds after all end) small) (omega arith)
hexadecimal_read bs read (Large d ds after e all end large) =
    rw e (Faulty faults.NumberTooLarge 0 (LargeNumber (35 ∷ 88 ∷ d ∷ ds) after (value_after 16 0 (d ∷ ds)) (Hexadecimal d ds after all end) large))

hash_reads : (bs : List ℕ) (t : Bool) → begins 88 bs ≡ t → LexemeRead (35 ∷ bs) (cond t (read_digits 16 2 (drop 1 bs)) (read_digits 8 1 bs) >>= λ x. Ok (Number x.0, x.1))
hash_reads [] true h = let n : false ≡ true = h in cc
hash_reads (c ∷ bs) true h = rw (eqb-true c 88 h) (hexadecimal_read bs (read_digits 16 2 bs) (digits_read 16 2 bs (λ m. omega arith)))
hash_reads bs false h = octal_read bs (read_digits 8 1 bs) h (digits_read 8 1 bs (λ m. omega arith))

number_reads : (b : ℕ) (bs : List ℕ) (t : Bool) → nat_eq b 35 ≡ t → (is_digit b || nat_eq b 35) ≡ true → LexemeRead (b ∷ bs) (cond t (cond (begins 88 bs) (read_digits 16 2 (drop 2 (b ∷ bs))) (read_digits 8 1 (drop 1 (b ∷ bs)))) (read_digits 10 0 (b ∷ bs)) >>= λ x. Ok (Number x.0, x.1))
number_reads b bs true e h = rw (eqb-true b 35 e) (hash_reads bs (begins 88 bs) refl)
number_reads b bs false e h =
    let digit : is_digit b ≡ true = elim (or_cases (is_digit b) (nat_eq b 35) h) [ inl p ↦ p | inr q ↦ absurd (both_ways (nat_eq b 35) e q) ] in
    decimal_read b bs (read_digits 10 0 (b ∷ bs)) digit (digits_read 10 0 (b ∷ bs) (λ m. omega arith))

or_left_true : (x y : Bool) → x ≡ true → (x || y) ≡ true
or_left_true x y h = rw h refl

dispatch_number : (b : ℕ) (bs : List ℕ) → is_letter b ≡ false → (is_digit b || nat_eq b 35) ≡ true → lexeme_in_front (b ∷ bs) ≡ number_at (b ∷ bs)
unfolding lexeme_in_front
dispatch_number b bs l h = cond-false (is_letter b) _ _ l ∙ cond-true (is_digit b || nat_eq b 35) _ _ h

number_found : (b : ℕ) (bs : List ℕ) (v m k : ℕ) → number_of (b ∷ bs) ≡ Ok (v, m) → m ≡ k → number_at (b ∷ bs) ≡ Ok (Number v, k)
number_found b bs v m k e h = rw (e, h) refl

number_refused : (b : ℕ) (bs : List ℕ) (f : Fault) → number_of (b ∷ bs) ≡ Err f → number_at (b ∷ bs) ≡ Err f
number_refused b bs f e = rw e refl

-- reading a number is reading its digits
pub number_splits : (text after : List ℕ) (n : ℕ) → IsNumber text after n → (n ≤ 65535 → lexeme_in_front (text ++ after) ≡ Ok (Number n, length text)) × (65535 < n → lexeme_in_front (text ++ after) ≡ Err (fault_at faults.NumberTooLarge 0))
number_splits text after n (Decimal b bs rest all end) =
    let first : is_digit_of 10 b ≡ true = (and_parts (is_digit_of 10 b) (list_all (is_digit_of 10) bs) all).0 in
    let digit : is_digit b ≡ true = ten_digit b first in
    let apart : nat_eq b 35 ≡ false = test_apart is_digit b 35 digit refl in
    let go = dispatch_number b (bs ++ rest) (digit_no_letter b digit) (or_left_true (is_digit b) (nat_eq b 35) digit) in
    let of : number_of (b ∷ (bs ++ rest)) ≡ read_digits 10 0 ((b ∷ bs) ++ rest) = cond-false (nat_eq b 35) _ _ apart in (
      (λ small. go ∙ number_found b (bs ++ rest) (value_after 10 0 (b ∷ bs)) (0 + length (b ∷ bs)) (length (b ∷ bs)) (of ∙ digits_small 10 0 b bs rest (λ m. omega arith) all end small) (omega arith)),
      (λ large. go ∙ number_refused b (bs ++ rest) (fault_at faults.NumberTooLarge 0) (of ∙ digits_large 10 0 b bs rest all end large)),
    )
number_splits text after n (Octal b bs rest all end) =
    let first : is_digit_of 8 b ≡ true = (and_parts (is_digit_of 8 b) (list_all (is_digit_of 8) bs) all).0 in
    let apart : nat_eq b 88 ≡ false = test_apart (is_digit_of 8) b 88 first refl in
    let go = dispatch_number 35 (b ∷ (bs ++ rest)) refl refl in
    let of : number_of (35 ∷ b ∷ (bs ++ rest)) ≡ read_digits 8 1 ((b ∷ bs) ++ rest) = cond-false (nat_eq b 88) _ _ apart in (
      (λ small. go ∙ number_found 35 (b ∷ (bs ++ rest)) (value_after 8 0 (b ∷ bs)) (1 + length (b ∷ bs)) (length (35 ∷ b ∷ bs)) (of ∙ digits_small 8 1 b bs rest (λ m. omega arith) all end small) (omega arith)),
      (λ large. go ∙ number_refused 35 (b ∷ (bs ++ rest)) (fault_at faults.NumberTooLarge 0) (of ∙ digits_large 8 1 b bs rest all end large)),
    )
number_splits text after n (Hexadecimal b bs rest all end) =
    let go = dispatch_number 35 (88 ∷ b ∷ (bs ++ rest)) refl refl in (
      (λ small. go ∙ number_found 35 (88 ∷ b ∷ (bs ++ rest)) (value_after 16 0 (b ∷ bs)) (2 + length (b ∷ bs)) (length (35 ∷ 88 ∷ b ∷ bs)) (digits_small 16 2 b bs rest (λ m. omega arith) all end small) (omega arith)),
      (λ large. go ∙ number_refused 35 (88 ∷ b ∷ (bs ++ rest)) (fault_at faults.NumberTooLarge 0) (digits_large 16 2 b bs rest all end large)),
    )

none_step : (bs : List ℕ) (t : Bool) → begins 88 bs ≡ t → NoDigits bs → cond t (read_digits 16 2 (drop 1 bs)) (read_digits 8 1 bs) ≡ Err (fault_at faults.BadCharacter 0)
none_step [] true h no_digits = let n : false ≡ true = h in cc
none_step (c ∷ bs) true h no_digits = digits_none 16 2 bs (no_digits.1 bs (ap (λ n. n ∷ bs) (eqb-true c 88 h)))
none_step bs false h no_digits = digits_none 8 1 bs no_digits.0

pub no_number : (bs : List ℕ) → NoDigits bs → lexeme_in_front (35 ∷ bs) ≡ Err (fault_at faults.BadCharacter 0)
no_number bs h = dispatch_number 35 bs refl refl ∙ number_refused 35 bs (fault_at faults.BadCharacter 0) (none_step bs (begins 88 bs) refl h)

-- character constants

constant_left : (after : List ℕ) (q : Quoted) → quoted_of 39 after ≡ q → (q ≡ quoted.BadEscape → ⊥) → ((c n : ℕ) → q ≡ quoted.Character c n → ⊥) → IsFaulty (39 ∷ after) faults.Unterminated 0
constant_left after q e no_bad no_character =
    OpenConstant after (λ bad. no_bad (sym e ∙ quoted_bad 39 after refl bad)) (λ text rest c same ch. no_character c (length text) (sym e ∙ ap (quoted_of 39) same ∙ quoted_character 39 text (39 ∷ rest) c refl ch))

abbrev pub as_character : Result (ℕ × ℕ) Fault → Result (Kind × ℕ) Fault
as_character read = read >>= λ x. Ok (Character x.0, x.1)

constant_step : (text rest : List ℕ) (c : ℕ) (t : Bool) → begins 39 rest ≡ t → IsCharacter 39 text c → LexemeRead (39 ∷ (text ++ rest)) (as_character (cond t (Ok (c, length text + 2)) (Err (fault_at faults.Unterminated 0))))
constant_step text [] c true h ch = let n : false ≡ true = h in cc
constant_step text (d ∷ rest) c true h ch =
    let d_is : d ≡ 39 = eqb-true d 39 h in
    let l : length (text ++ 39 ∷ []) ≡ length text + 1 = length-append_ℕ text (39 ∷ []) in
    Found (39 ∷ (text ++ 39 ∷ [])) rest (Character c) (length text + 2) (ap (λ n. 39 ∷ (text ++ n ∷ rest)) d_is ∙ ap (λ ys. 39 ∷ ys) (sym (append_assoc text (39 ∷ []) rest))) (Constant text rest c ch) (omega arith)
constant_step text rest c false h ch =
    let front : quoted_of 39 (text ++ rest) ≡ quoted.Character c (length text) = quoted_character 39 text rest c refl ch in
    Faulty faults.Unterminated 0 (OpenConstant (text ++ rest)
    (λ bad. let other = quoted_bad 39 (text ++ rest) refl bad in let clash : quoted.Character c (length text) ≡ quoted.BadEscape = sym front ∙ other in cc)
    (λ text' rest' c' same ch'.
    let other : quoted_of 39 (text ++ rest) ≡ quoted.Character c' (length text') = ap (quoted_of 39) same ∙ quoted_character 39 text' (39 ∷ rest') c' refl ch' in
    let one : quoted.Character c (length text) ≡ quoted.Character c' (length text') = sym front ∙ other in
    let lengths : length text ≡ length text' = cc in
    let cut : rest ≡ 39 ∷ rest' = sym (drop-front text rest) ∙ ap (λ ys. drop (length text) ys) same ∙ ap (λ n. drop n (text' ++ 39 ∷ rest')) lengths ∙ drop-front text' (39 ∷ rest') in
    both_ways (begins 39 rest) h (rw cut refl)))

constant_by : (bs : List ℕ) (q : Quoted) → quoted_of 39 bs ≡ q → Front 39 bs q → LexemeRead (39 ∷ bs) (as_character (character_by (39 ∷ bs) q))
constant_by bs q e (Closes rest) = Faulty faults.Unterminated 0 (constant_left (39 ∷ rest) quoted.Closed e (λ n. cc) (λ c n m. cc))
constant_by bs q e (Cuts rest cut) = Faulty faults.Unterminated 0 (constant_left rest quoted.Cut e (λ n. cc) (λ c n m. cc))
constant_by bs q e (Spoils rest bad) = Faulty faults.BadEscape 1 (BadConstant rest bad)
constant_by bs q e (Stands text rest c ch) =
    let s : 1 + length text ≡ suc (length text) = omega arith in
    let cut : drop (1 + length text) (39 ∷ (text ++ rest)) ≡ rest = ap (λ n. drop n (39 ∷ (text ++ rest))) s ∙ drop-front text rest in
    rw cut (constant_step text rest c (begins 39 rest) refl ch)

constant_reads : (bs : List ℕ) → LexemeRead (39 ∷ bs) (character_at (39 ∷ bs))
constant_reads bs = constant_by bs (quoted_of 39 bs) refl (quoted_front 39 bs)

-- strings

string_read : (bs : List ℕ) (read : Result ℕ Fault) → StringRead 256 1 bs read → LexemeRead (34 ∷ bs) (read >>= λ n. Ok (String (take n (34 ∷ bs)), n))
string_read bs read (Closed text rest cs n e sp short n_is) =
    let whole = 34 ∷ (text ++ 34 ∷ []) in
    let l : length (text ++ 34 ∷ []) ≡ length text + 1 = length-append_ℕ text (34 ∷ []) in
    let n_whole : n ≡ length whole = omega arith in
    let same : 34 ∷ bs ≡ whole ++ rest = ap (λ ys. 34 ∷ ys) (e ∙ sym (append_assoc text (34 ∷ []) rest)) in
    let front : take n (34 ∷ bs) ≡ whole = ap (λ ys. take n ys) same ∙ ap (λ m. take m (whole ++ rest)) n_whole ∙ take-front whole rest in
    rw front (Found whole rest (String whole) n same (Literal text rest cs sp short) n_whole)
string_read bs read (Cut text after cs e sp short cut) = rw e (Faulty faults.Unterminated 0 (OpenString text after cs sp short cut))
string_read bs read (Spoiled text after cs n e sp short bad n_is) = rw (e, n_is) (Faulty faults.BadEscape (1 + length text) (BadString text after cs sp short bad))
string_read bs read (Long text after cs e sp long) = rw e (Faulty faults.StringTooLong 0 (LongString text after cs sp long))

string_begins : (bs : List ℕ) → LexemeRead (34 ∷ bs) (string_at (34 ∷ bs))
unfolding string_of
string_begins bs = string_read bs (string_from 256 1 bs) (string_reads 256 1 bs)

-- signs

-- a spelling of three bytes is a word
three_shape : (b : ℕ) (text : List ℕ) (s : Symbol) → (c d : ℕ) (more : List ℕ) → text ≡ b ∷ c ∷ d ∷ more → is_sign_byte b ≡ true → Shape text s → ⊥
three_shape b text s c d more e h (Letters b' bs s' letter tag) =
    let same : b' ≡ b = cc in
    both_ways (is_letter b') (ap is_letter same ∙ (other_parts b h).letter) letter
three_shape b text s c d more e h (One b' s' sign tag) = let n : [] ≡ c ∷ d ∷ more = cc in cc
three_shape b text s c d more e h (Two b' c' s' sign tag) = let n : [] ≡ d ∷ more = cc in cc

three_bytes : (b c d : ℕ) (more : List ℕ) (s : Symbol) → is_sign_byte b ≡ true → Shape (b ∷ c ∷ d ∷ more) s → ⊥
three_bytes b c d more s h sh = three_shape b (b ∷ c ∷ d ∷ more) s c d more refl h sh

-- no spelling of a sign has three bytes
too_long : (b c d : ℕ) (more : List ℕ) (o : Option Symbol) → is_sign_byte b ≡ true → symbol_of (b ∷ c ∷ d ∷ more) ≡ o → o ≡ None
too_long b c d more None h e = refl
too_long b c d more (Some s) h e = absurd (three_bytes b c d more s h (shape (b ∷ c ∷ d ∷ more) s e))

long_none : (b c : ℕ) (more : List ℕ) → is_sign_byte b ≡ true → more ≢ [] → symbol_of (b ∷ c ∷ more) ≡ None
long_none b c [] h ne = absurd (ne refl)
long_none b c (d ∷ more) h ne = too_long b c d more (symbol_of (b ∷ c ∷ d ∷ more)) h refl

short_none : (b c : ℕ) (rest more after : List ℕ) → is_sign_byte b ≡ true → symbol_of (b ∷ c ∷ []) ≡ None → more ≢ [] → c ∷ rest ≡ more ++ after → symbol_of (b ∷ more) ≡ None
short_none b c rest [] after h two ne e = absurd (ne refl)
short_none b c rest (d ∷ []) after h two ne e = let same : c ≡ d = cc in ap (λ n. symbol_of (b ∷ n ∷ [])) (sym same) ∙ two
short_none b c rest (d ∷ f ∷ more) after h two ne e = too_long b d f more (symbol_of (b ∷ d ∷ f ∷ more)) h refl

one_shape : (b : ℕ) (text : List ℕ) (s : Symbol) → text ≡ b ∷ [] → Shape text s → has_tag s ≡ false
one_shape b text s e (Letters b' bs s' letter tag) = tag
one_shape b text s e (One b' s' sign tag) = tag
one_shape b text s e (Two b' c' s' sign tag) = let n : c' ∷ [] ≡ [] = cc in cc

one_has_none : (b : ℕ) (s : Symbol) → symbol_of (b ∷ []) ≡ Some s → has_tag s ≡ false
one_has_none b s e = one_shape b (b ∷ []) s refl (shape (b ∷ []) s e)

no_more : (more after : List ℕ) → more ≢ [] → [] ≡ more ++ after → ⊥
no_more [] after ne e = ne refl
no_more (d ∷ more) after ne e = cc

no_shape : (b c : ℕ) (rest text after : List ℕ) (s : Symbol) → is_sign_byte b ≡ true → symbol_of (b ∷ []) ≡ None → symbol_of (b ∷ c ∷ []) ≡ None → b ∷ c ∷ rest ≡ text ++ after → symbol_of text ≡ Some s → Shape text s → ⊥
no_shape b c rest text after s h one two e spelled (Letters b' bs s' letter tag) =
    let same : b' ≡ b = cc in
    both_ways (is_letter b') (ap is_letter same ∙ (other_parts b h).letter) letter
no_shape b c rest text after s h one two e spelled (One b' s' sign tag) =
    let same : b ≡ b' = cc in
    let n : None ≡ Some s = sym one ∙ ap (λ x. symbol_of (x ∷ [])) same ∙ spelled in cc
no_shape b c rest text after s h one two e spelled (Two b' c' s' sign tag) =
    let same : b ≡ b' = cc in
    let next_same : c ≡ c' = cc in
    let n : None ≡ Some s = sym two ∙ ap (λ x. symbol_of (x ∷ c ∷ [])) same ∙ ap (λ x. symbol_of (b' ∷ x ∷ [])) next_same ∙ spelled in cc

last_no_shape : (b : ℕ) (text after : List ℕ) (s : Symbol) → is_sign_byte b ≡ true → symbol_of (b ∷ []) ≡ None → b ∷ [] ≡ text ++ after → symbol_of text ≡ Some s → Shape text s → ⊥
last_no_shape b text after s h one e spelled (Letters b' bs s' letter tag) =
    let same : b' ≡ b = cc in
    both_ways (is_letter b') (ap is_letter same ∙ (other_parts b h).letter) letter
last_no_shape b text after s h one e spelled (One b' s' sign tag) =
    let same : b ≡ b' = cc in
    let n : None ≡ Some s = sym one ∙ ap (λ x. symbol_of (x ∷ [])) same ∙ spelled in cc
last_no_shape b text after s h one e spelled (Two b' c' s' sign tag) = let n : [] ≡ c' ∷ after = cc in cc

no_spelling : (b c : ℕ) (rest text after : List ℕ) (s : Symbol) → is_sign_byte b ≡ true → symbol_of (b ∷ []) ≡ None → symbol_of (b ∷ c ∷ []) ≡ None → b ∷ c ∷ rest ≡ text ++ after → symbol_of text ≡ Some s → ⊥
no_spelling b c rest text after s h one two e spelled = no_shape b c rest text after s h one two e spelled (shape text s spelled)

marked_long : (b c : ℕ) (rest : List ℕ) (s : Symbol) → is_sign_byte b ≡ true → opens_line (b ∷ c ∷ rest) ≡ false → opens_block (b ∷ c ∷ rest) ≡ false → symbol_of (b ∷ c ∷ []) ≡ Some s → IsSign (b ∷ c ∷ []) rest s
marked_long b c rest s h l k e = record {
  spelled = e;
  sign = (other_parts b h).letter;
  longest = λ more after ne same. long_none b c more h ne;
  line = l;
  block = k;
}

bracket_or_sign : (b c : ℕ) (rest : List ℕ) (s : Symbol) (t : Bool) → has_tag s ≡ t → is_sign_byte b ≡ true → opens_line (b ∷ c ∷ rest) ≡ false → opens_block (b ∷ c ∷ rest) ≡ false → symbol_of (b ∷ c ∷ []) ≡ Some s → LexemeRead (b ∷ c ∷ rest) (Ok (Sign s, 2 + cond t (prefix_len is_name_byte rest) 0))
bracket_or_sign b c rest s true tag h l k e =
    let m = prefix_len is_name_byte rest in
    let p = run_sound is_name_byte rest in
    let n : length (take m rest) ≡ m = run_length is_name_byte rest in
    Found (b ∷ c ∷ take m rest) (drop m rest) (Sign s) (2 + m) (ap (λ ys. b ∷ c ∷ ys) (sym (take-append-drop m rest))) (Bracket (b ∷ c ∷ []) (take m rest) (drop m rest) s e tag p.0 p.1) (omega arith)
bracket_or_sign b c rest s false tag h l k e =
    Found (b ∷ c ∷ []) rest (Sign s) (2 + 0) refl (Marked (b ∷ c ∷ []) rest s (marked_long b c rest s h l k e) tag) (omega arith)

short_sign : (b c : ℕ) (rest : List ℕ) (o : Option Symbol) → is_sign_byte b ≡ true → opens_line (b ∷ c ∷ rest) ≡ false → opens_block (b ∷ c ∷ rest) ≡ false → symbol_of (b ∷ c ∷ []) ≡ None → symbol_of (b ∷ []) ≡ o → LexemeRead (b ∷ c ∷ rest) (short_of o >>= λ x. Ok (Sign x.0, x.1))
short_sign b c rest (Some s) h l k two e =
    Found (b ∷ []) (c ∷ rest) (Sign s) 1 refl (Marked (b ∷ []) (c ∷ rest) s (record {
      spelled = e;
      sign = (other_parts b h).letter;
      longest = λ more after ne same. short_none b c rest more after h two ne same;
      line = l;
      block = k;
    }) (one_has_none b s e)) refl
short_sign b c rest None h l k two e =
    Faulty faults.BadCharacter 0 (NoToken b (c ∷ rest) h l k (λ text after s same spelled. no_spelling b c rest text after s h e two same spelled))

long_sign : (b c : ℕ) (rest : List ℕ) (o : Option Symbol) → is_sign_byte b ≡ true → opens_line (b ∷ c ∷ rest) ≡ false → opens_block (b ∷ c ∷ rest) ≡ false → symbol_of (b ∷ c ∷ []) ≡ o → LexemeRead (b ∷ c ∷ rest) (long_of (b ∷ c ∷ rest) o >>= λ x. Ok (Sign x.0, x.1))
long_sign b c rest (Some s) h l k e = bracket_or_sign b c rest s (has_tag s) refl h l k e
long_sign b c rest None h l k e = short_sign b c rest (symbol_of (b ∷ [])) h l k e refl

last_sign : (b : ℕ) (o : Option Symbol) → is_sign_byte b ≡ true → opens_line (b ∷ []) ≡ false → opens_block (b ∷ []) ≡ false → symbol_of (b ∷ []) ≡ o → LexemeRead (b ∷ []) (short_of o >>= λ x. Ok (Sign x.0, x.1))
last_sign b (Some s) h l k e =
    Found (b ∷ []) [] (Sign s) 1 refl (Marked (b ∷ []) [] s (record {
      spelled = e;
      sign = (other_parts b h).letter;
      longest = λ more after ne same. absurd (no_more more after ne same);
      line = l;
      block = k;
    }) (one_has_none b s e)) refl
last_sign b None h l k e =
    Faulty faults.BadCharacter 0 (NoToken b [] h l k (λ text after s same spelled. last_no_shape b text after s h e same spelled (shape text s spelled)))

sign_reads : (b : ℕ) (bs : List ℕ) → is_sign_byte b ≡ true → opens_line (b ∷ bs) ≡ false → opens_block (b ∷ bs) ≡ false → LexemeRead (b ∷ bs) (sign_at (b ∷ bs))
sign_reads b [] h l k = last_sign b (symbol_of (b ∷ [])) h l k refl
sign_reads b (c ∷ rest) h l k =
    let two : nat_lt 1 (length (b ∷ c ∷ rest)) ≡ true = lt-ltb 1 (length (b ∷ c ∷ rest)) (omega arith) in
    rw two (long_sign b c rest (symbol_of (b ∷ c ∷ [])) h l k refl)

-- by the first byte

lexeme_single : (b : ℕ) (bs : List ℕ) (t : Bool) → nat_eq b 39 ≡ t → is_letter b ≡ false → is_digit b ≡ false → nat_eq b 35 ≡ false → nat_eq b 34 ≡ false → is_space b ≡ false → opens_line (b ∷ bs) ≡ false → opens_block (b ∷ bs) ≡ false → LexemeRead (b ∷ bs) (cond t (character_at (b ∷ bs)) (sign_at (b ∷ bs)))
lexeme_single b bs true e le d h q sp l k = rw (eqb-true b 39 e) (constant_reads bs)
lexeme_single b bs false e le d h q sp l k = sign_reads b bs (sign_byte b le d h q e sp) l k

lexeme_double : (b : ℕ) (bs : List ℕ) (t : Bool) → nat_eq b 34 ≡ t → is_letter b ≡ false → is_digit b ≡ false → nat_eq b 35 ≡ false → is_space b ≡ false → opens_line (b ∷ bs) ≡ false → opens_block (b ∷ bs) ≡ false → LexemeRead (b ∷ bs) (cond t (string_at (b ∷ bs)) (cond (nat_eq b 39) (character_at (b ∷ bs)) (sign_at (b ∷ bs))))
lexeme_double b bs true e le d h sp l k = rw (eqb-true b 34 e) (string_begins bs)
lexeme_double b bs false e le d h sp l k = lexeme_single b bs (nat_eq b 39) refl le d h e sp l k

lexeme_digit : (b : ℕ) (bs : List ℕ) (t : Bool) → (is_digit b || nat_eq b 35) ≡ t → is_letter b ≡ false → is_space b ≡ false → opens_line (b ∷ bs) ≡ false → opens_block (b ∷ bs) ≡ false → LexemeRead (b ∷ bs) (cond t (number_at (b ∷ bs)) (cond (nat_eq b 34) (string_at (b ∷ bs)) (cond (nat_eq b 39) (character_at (b ∷ bs)) (sign_at (b ∷ bs)))))
lexeme_digit b bs true e le sp l k = number_reads b bs (nat_eq b 35) refl e
lexeme_digit b bs false e le sp l k =
    let p = or_parts (is_digit b) (nat_eq b 35) e in
    lexeme_double b bs (nat_eq b 34) refl le p.0 p.1 sp l k

lexeme_letter : (b : ℕ) (bs : List ℕ) (t : Bool) → is_letter b ≡ t → is_space b ≡ false → opens_line (b ∷ bs) ≡ false → opens_block (b ∷ bs) ≡ false → LexemeRead (b ∷ bs) (cond t (Ok (word_of (b ∷ bs))) (cond (is_digit b || nat_eq b 35) (number_at (b ∷ bs)) (cond (nat_eq b 34) (string_at (b ∷ bs)) (cond (nat_eq b 39) (character_at (b ∷ bs)) (sign_at (b ∷ bs))))))
lexeme_letter b bs true e sp l k = word_reads b bs e
lexeme_letter b bs false e sp l k = lexeme_digit b bs (is_digit b || nat_eq b 35) refl e sp l k

pub lexeme_reads : (b : ℕ) (bs : List ℕ) → is_space b ≡ false → opens_line (b ∷ bs) ≡ false → opens_block (b ∷ bs) ≡ false → LexemeRead (b ∷ bs) (lexeme_in_front (b ∷ bs))
unfolding lexeme_in_front
lexeme_reads b bs sp l k = lexeme_letter b bs (is_letter b) refl sp l k
