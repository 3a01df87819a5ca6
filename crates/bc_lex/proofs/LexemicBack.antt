-- From the definition to the reader: what is a lexeme, or a fault, by definition is read as that.
use Rattle.std.proofs.Common.{◌≡◌, ◌≢◌, ◌∙◌, refl, sym, ap, arith, ℕ, suc, ◌+◌, ◌-◌, ◌≤◌, ◌<◌, ◌⊎◌, inl, inr, Bool, true, false, ◌||◌, List, [], ◌∷◌, ◌++◌, length, take, drop, Option, Some, None, Result, Ok, Err, cond, nat_eq, nat_lt, append_assoc}
use Rattle.std.specs.Prelude.{codes}
use Rattle.std.specs.List.{list_all, prefix_len}
use Rattle.std.proofs.lemmas.Bool.{eqb-true, and_parts, or_cases, both_ways, false_from_ne_true, lt-ltb, cond-true, cond-false}
use Rattle.bc_lex_tokens.specs.declared.symbol.Symbol.{Symbol}
use Rattle.bc_lex_tokens.specs.Spelling.{symbol_of}
use Rattle.bc_lex_tokens.specs.Token.{Kind, Sign, Character, String}
use Rattle.bc_lex.specs.declared.fault.Fault.{Fault}
use Rattle.bc_lex.specs.declared.fault.FaultKind.{FaultKind}
use Rattle.bc_lex.specs.declared.fault.FaultKind.TheVariants as faults
use Rattle.bc_lex.specs.declared.quoted.Quoted.{Quoted}
use Rattle.bc_lex.specs.declared.quoted.Quoted.TheVariants as quoted
use Rattle.bc_lex.specs.Bytes.{is_letter, is_digit, is_name_byte, is_space}
use Rattle.bc_lex.specs.Tags.{has_tag}
use Rattle.bc_lex.specs.Gaps.{Holds, begins, opens_line, opens_block}
use Rattle.bc_lex.specs.Quotes.{IsCharacter, Spells, IsBadEscape}
use Rattle.bc_lex.specs.Lexemes.{Ends, IsName, is_digit_of, IsNumber, Decimal, Octal, Hexadecimal, NoLetter, IsSign, IsLexeme, Word, Named, Numeral, Constant, Literal, Marked, Bracket}
use Rattle.bc_lex.specs.Faults.{is_sign_byte, IsFaulty, OpenComment, LargeNumber, NoNumber, LongString, OpenString, BadString, BadConstant, OpenConstant, NoToken}
use Rattle.bc_lex.specs.Reading.{fault_at, string_of, string_from, string_on, character_by, quoted_of}
use Rattle.bc_lex.specs.Lexeme.{◌>>=◌, named, short_of, long_of, sign_of, string_at, sign_at, lexeme_in_front}
use Rattle.bc_lex.proofs.Runs.{run_complete, take-front, drop-front, length-append_ℕ}
use Rattle.bc_lex.proofs.Gapping.{NoBlank}
use Rattle.bc_lex.proofs.Quoting.{Front, Closes, Cuts, Spoils, Stands, quoted_front, quoted_character, quoted_cut, quoted_bad, string_skips}
use Rattle.bc_lex.proofs.ByteKinds.{ten_digit, test_apart, letter_bound, digit_bound, other_parts}
use Rattle.bc_lex.proofs.Shapes.{Shape, Letters, One, Two, shape}
use Rattle.bc_lex.proofs.Lexemic.{word_complete, number_splits, no_number, as_character}

-- no blank

space_small : (b : ℕ) → is_space b ≡ true → b ≤ 32
space_small b h = elim (or_cases (nat_eq b 32 || nat_eq b 9 || nat_eq b 13 || nat_eq b 12) (nat_eq b 10) h) [
  | inr p ↦ (let e : b ≡ 10 = eqb-true b 10 p in omega arith)
  | inl q ↦ elim (or_cases (nat_eq b 32 || nat_eq b 9 || nat_eq b 13) (nat_eq b 12) q) [
    | inr p ↦ (let e : b ≡ 12 = eqb-true b 12 p in omega arith)
    | inl r ↦ elim (or_cases (nat_eq b 32 || nat_eq b 9) (nat_eq b 13) r) [
      | inr p ↦ (let e : b ≡ 13 = eqb-true b 13 p in omega arith)
      | inl s ↦ elim (or_cases (nat_eq b 32) (nat_eq b 9) s) [
        | inr p ↦ (let e : b ≡ 9 = eqb-true b 9 p in omega arith)
        | inl p ↦ (let e : b ≡ 32 = eqb-true b 32 p in omega arith)
      ]
    ]
  ]
]

no_space : (b : ℕ) → 33 ≤ b → is_space b ≡ false
no_space b h = false_from_ne_true (is_space b) (λ t. let s : b ≤ 32 = space_small b t in omega arith)

no_blank_at : (b : ℕ) (bs : List ℕ) → 33 ≤ b → nat_eq b 47 ≡ false → nat_eq b 124 ≡ false → NoBlank (b ∷ bs)
no_blank_at b bs h s v = (no_space b h, rw (s, v) refl, rw s refl)

letter_no_blank : (b : ℕ) (bs : List ℕ) → is_letter b ≡ true → NoBlank (b ∷ bs)
letter_no_blank b bs h =
    let l : 65 ≤ b = letter_bound b h in
    no_blank_at b bs (omega arith) (test_apart is_letter b 47 h refl) (test_apart is_letter b 124 h refl)

ten_no_blank : (b : ℕ) (bs : List ℕ) → is_digit_of 10 b ≡ true → NoBlank (b ∷ bs)
ten_no_blank b bs h =
    let d : is_digit b ≡ true = ten_digit b h in
    let bounds : 48 ≤ b = digit_bound b d in
    (no_space b (omega arith), rw (test_apart is_digit b 47 d refl, test_apart is_digit b 124 d refl) refl, rw (test_apart is_digit b 47 d refl) refl)

number_no_blank : (text after : List ℕ) (n : ℕ) → IsNumber text after n → NoBlank (text ++ after)
number_no_blank text after n (Decimal b bs rest all end) = ten_no_blank b (bs ++ rest) (and_parts (is_digit_of 10 b) (list_all (is_digit_of 10) bs) all).0
number_no_blank text after n (Octal b bs rest all end) = (refl, refl, refl)
number_no_blank text after n (Hexadecimal b bs rest all end) = (refl, refl, refl)

bracket_no_blank : (text : List ℕ) (s : Symbol) (after : List ℕ) → has_tag s ≡ true → Shape text s → NoBlank (text ++ after)
bracket_no_blank text s after h (Letters b bs s' letter tag) = absurd (both_ways (has_tag s') tag h)
bracket_no_blank text s after h (One b s' sign tag) = absurd (both_ways (has_tag s') tag h)
bracket_no_blank text s after h (Two b c s' sign dollar) = rw (dollar h) (refl, refl, refl)

sign_no_blank : (text : List ℕ) (s : Symbol) (after : List ℕ) → NoLetter text → opens_line (text ++ after) ≡ false → opens_block (text ++ after) ≡ false → Shape text s → NoBlank (text ++ after)
sign_no_blank text s after no_letter l k (Letters b bs s' letter tag) = absurd (both_ways (is_letter b) no_letter letter)
sign_no_blank text s after no_letter l k (One b s' sign tag) = ((other_parts b sign).space, l, k)
sign_no_blank text s after no_letter l k (Two b c s' sign dollar) = ((other_parts b sign).space, l, k)

name_no_blank : (text after : List ℕ) → IsName text → NoBlank (text ++ after)
name_no_blank [] after name = absurd name
name_no_blank (b ∷ bs) after name = letter_no_blank b (bs ++ after) name.0

bracket_assoc : (text tag after : List ℕ) → NoBlank (text ++ (tag ++ after)) → NoBlank ((text ++ tag) ++ after)
bracket_assoc text tag after h = rw append_assoc h

pub lexeme_no_blank : (text after : List ℕ) (kind : Kind) → IsLexeme text after kind → NoBlank (text ++ after)
lexeme_no_blank text after kind (Word word rest s name end e) = name_no_blank word rest name
lexeme_no_blank text after kind (Named word rest name end e) = name_no_blank word rest name
lexeme_no_blank text after kind (Numeral digits rest n number small) = number_no_blank digits rest n number
lexeme_no_blank text after kind (Constant spelled rest c ch) = (refl, refl, refl)
lexeme_no_blank text after kind (Literal spelled rest cs sp short) = (refl, refl, refl)
lexeme_no_blank text after kind (Marked sign rest s is_sign tag) = sign_no_blank sign s rest is_sign.sign is_sign.line is_sign.block (shape sign s is_sign.spelled)
lexeme_no_blank text after kind (Bracket bracket tag rest s e has all end) = bracket_assoc bracket tag rest (bracket_no_blank bracket s (tag ++ rest) has (shape bracket s e))

-- lexemes

constant_found : (text rest : List ℕ) (c : ℕ) → IsCharacter 39 text c → lexeme_in_front (39 ∷ (text ++ 39 ∷ rest)) ≡ Ok (Character c, length text + 2)
unfolding lexeme_in_front
constant_found text rest c ch =
    let bs = text ++ 39 ∷ rest in
    let front : quoted_of 39 bs ≡ quoted.Character c (length text) = quoted_character 39 text (39 ∷ rest) c refl ch in
    let s : 1 + length text ≡ suc (length text) = omega arith in
    let cut : drop (1 + length text) (39 ∷ bs) ≡ 39 ∷ rest = ap (λ n. drop n (39 ∷ bs)) s ∙ drop-front text (39 ∷ rest) in
    ap (λ q. as_character (character_by (39 ∷ bs) q)) front ∙ ap (λ ys. as_character (cond (begins 39 ys) (Ok (c, length text + 2)) (Err (fault_at faults.Unterminated 0)))) cut

-- after fewer than 256 characters, a string continues with what follows them
string_after : (text cs rest : List ℕ) → Spells 34 text cs → length cs < 256 → (j : ℕ) × (string_of (34 ∷ (text ++ rest)) ≡ string_on (string_from j) (1 + length text) rest (quoted_of 34 rest))
unfolding string_of
string_after text cs rest sp short =
    let j = 255 - length cs in
    let e : 256 ≡ length cs + suc j = omega arith in
    (j, string_skips text cs sp 256 (suc j) 1 rest e)

pub string_whole : (text cs rest : List ℕ) → Spells 34 text cs → length cs < 256 → string_of (34 ∷ (text ++ 34 ∷ rest)) ≡ Ok (length (34 ∷ (text ++ 34 ∷ [])))
string_whole text cs rest sp short =
    let following = string_after text cs (34 ∷ rest) sp short in
    let l : length (text ++ 34 ∷ []) ≡ length text + 1 = length-append_ℕ text (34 ∷ []) in
    let n : 1 + length text + 1 ≡ length (34 ∷ (text ++ 34 ∷ [])) = omega arith in
    following.1 ∙ ap Ok n

string_lexeme : (whole rest bs : List ℕ) (n : ℕ) → bs ≡ whole ++ rest → n ≡ length whole → string_of bs ≡ Ok n → string_at bs ≡ Ok (String whole, n)
string_lexeme whole rest bs n same n_is of =
    let front : take n bs ≡ whole = ap (take n) same ∙ ap (λ m. take m (whole ++ rest)) n_is ∙ take-front whole rest in
    rw (of, front) refl

string_found : (text cs rest : List ℕ) → Spells 34 text cs → length cs < 256 → lexeme_in_front (34 ∷ (text ++ 34 ∷ rest)) ≡ Ok (String (34 ∷ (text ++ 34 ∷ [])), length (34 ∷ (text ++ 34 ∷ [])))
unfolding lexeme_in_front
string_found text cs rest sp short =
    string_lexeme (34 ∷ (text ++ 34 ∷ [])) rest (34 ∷ (text ++ 34 ∷ rest)) (length (34 ∷ (text ++ 34 ∷ []))) (ap (λ ys. 34 ∷ ys) (sym (append_assoc text (34 ∷ []) rest))) refl (string_whole text cs rest sp short)

abbrev as_string : List ℕ → Result ℕ Fault → Result (Kind × ℕ) Fault
as_string bs read = read >>= λ n. Ok (String (take n bs), n)

string_error : (bs : List ℕ) (f : Fault) (read : Result ℕ Fault) → as_string bs read ≡ Err f → read ≡ Err f
string_error bs f (Ok n) h = cc
string_error bs f (Err g) h = let same : g ≡ f = cc in ap Err same

-- a faulty lexeme that begins as a string is a faulty string
pub string_faulty : (bs : List ℕ) (f : Fault) → lexeme_in_front (34 ∷ bs) ≡ Err f → string_of (34 ∷ bs) ≡ Err f
unfolding lexeme_in_front
string_faulty bs f h = string_error (34 ∷ bs) f (string_of (34 ∷ bs)) h

pub dispatch_sign : (b : ℕ) (bs : List ℕ) → is_sign_byte b ≡ true → lexeme_in_front (b ∷ bs) ≡ sign_at (b ∷ bs)
unfolding lexeme_in_front
dispatch_sign b bs h =
    let o = other_parts b h in
    cond-false (is_letter b) _ _ o.letter ∙ cond-false (is_digit b || nat_eq b 35) _ _ (rw (o.digit, o.hash) refl) ∙ cond-false (nat_eq b 34) _ _ o.double ∙ cond-false (nat_eq b 39) _ _ o.single

sign_of-long : (b c : ℕ) (rest : List ℕ) → sign_of (b ∷ c ∷ rest) ≡ long_of (b ∷ c ∷ rest) (symbol_of (b ∷ c ∷ []))
sign_of-long b c rest = cond-true (nat_lt 1 (length (b ∷ c ∷ rest))) _ _ (lt-ltb 1 (length (b ∷ c ∷ rest)) (omega arith))

one_found : (b : ℕ) (after : List ℕ) (s : Symbol) → symbol_of (b ∷ []) ≡ Some s → ((more rest : List ℕ) → more ≢ [] → after ≡ more ++ rest → symbol_of (b ∷ more) ≡ None) → sign_of (b ∷ after) ≡ Ok (s, 1)
one_found b [] s e longest = ap short_of e
one_found b (c ∷ rest) s e longest =
    let two : symbol_of (b ∷ c ∷ []) ≡ None = longest (c ∷ []) rest (λ n. cc) refl in
    sign_of-long b c rest ∙ ap (long_of (b ∷ c ∷ rest)) two ∙ ap short_of e

two_found : (b c : ℕ) (rest : List ℕ) (s : Symbol) (n : ℕ) → symbol_of (b ∷ c ∷ []) ≡ Some s → 2 + cond (has_tag s) (prefix_len is_name_byte rest) 0 ≡ n → sign_of (b ∷ c ∷ rest) ≡ Ok (s, n)
two_found b c rest s n e n_is = sign_of-long b c rest ∙ ap (long_of (b ∷ c ∷ rest)) e ∙ ap (λ m. Ok (s, m)) n_is

as_sign : (bs : List ℕ) (s : Symbol) (n : ℕ) → sign_of bs ≡ Ok (s, n) → sign_at bs ≡ Ok (Sign s, n)
as_sign bs s n e = rw e refl

marked_found : (text after : List ℕ) (s : Symbol) → IsSign text after s → has_tag s ≡ false → Shape text s → lexeme_in_front (text ++ after) ≡ Ok (Sign s, length text)
marked_found text after s h tag (Letters b bs s' letter t) = absurd (both_ways (is_letter b) h.sign letter)
marked_found text after s h tag (One b s' sign t) = dispatch_sign b after sign ∙ as_sign (b ∷ after) s' 1 (one_found b after s' h.spelled h.longest)
marked_found text after s h tag (Two b c s' sign t) = dispatch_sign b (c ∷ after) sign ∙ as_sign (b ∷ c ∷ after) s' 2 (two_found b c after s' 2 h.spelled (rw tag refl))

bracket_found : (text tag after : List ℕ) (s : Symbol) → symbol_of text ≡ Some s → has_tag s ≡ true → list_all is_name_byte tag ≡ true → Ends is_name_byte after → Shape text s → lexeme_in_front (text ++ (tag ++ after)) ≡ Ok (Sign s, length (text ++ tag))
bracket_found text tag after s e has all end (Letters b bs s' letter t) = absurd (both_ways (has_tag s') t has)
bracket_found text tag after s e has all end (One b s' sign t) = absurd (both_ways (has_tag s') t has)
bracket_found text tag after s e has all end (Two b c s' sign t) =
    let run : prefix_len is_name_byte (tag ++ after) ≡ length tag = run_complete is_name_byte tag after all end in
    let n : 2 + cond (has_tag s') (prefix_len is_name_byte (tag ++ after)) 0 ≡ length (b ∷ c ∷ tag) = rw (has, run) (omega arith) in
    dispatch_sign b (c ∷ (tag ++ after)) sign ∙ as_sign (b ∷ c ∷ (tag ++ after)) s' (length (b ∷ c ∷ tag)) (two_found b c (tag ++ after) s' (length (b ∷ c ∷ tag)) e n)

pub lexeme_found : (text after : List ℕ) (kind : Kind) → IsLexeme text after kind → lexeme_in_front (text ++ after) ≡ Ok (kind, length text)
lexeme_found text after kind (Word word rest s name end e) = word_complete word rest name end ∙ ap (λ o. Ok (named word o, length word)) e
lexeme_found text after kind (Named word rest name end e) = word_complete word rest name end ∙ ap (λ o. Ok (named word o, length word)) e
lexeme_found text after kind (Numeral digits rest n number small) = (number_splits digits rest n number).0 small
lexeme_found text after kind (Constant spelled rest c ch) =
    let l : length (spelled ++ 39 ∷ []) ≡ length spelled + 1 = length-append_ℕ spelled (39 ∷ []) in
    ap (λ ys. lexeme_in_front (39 ∷ ys)) (append_assoc spelled (39 ∷ []) rest) ∙ constant_found spelled rest c ch ∙ ap (λ n. Ok (Character c, n)) (omega arith)
lexeme_found text after kind (Literal spelled rest cs sp short) =
    ap (λ ys. lexeme_in_front (34 ∷ ys)) (append_assoc spelled (34 ∷ []) rest) ∙ string_found spelled cs rest sp short
lexeme_found text after kind (Marked sign rest s is_sign tag) = marked_found sign rest s is_sign tag (shape sign s is_sign.spelled)
lexeme_found text after kind (Bracket bracket tag rest s e has all end) =
    ap lexeme_in_front (append_assoc bracket tag rest) ∙ bracket_found bracket tag rest s e has all end (shape bracket s e)

-- faults

-- a fault other than that of an open comment
pub record Refused (bs : List ℕ) (kind : FaultKind) (at : ℕ) : Type 0 where
  pub some : 1 ≤ length bs
  pub no_blank : NoBlank bs
  pub read : lexeme_in_front bs ≡ Err (fault_at kind at)

string_refused : (bs : List ℕ) (f : Fault) → string_of (34 ∷ bs) ≡ Err f → lexeme_in_front (34 ∷ bs) ≡ Err f
unfolding lexeme_in_front
string_refused bs f e = ap (λ r. r >>= λ n. Ok (String (take n (34 ∷ bs)), n)) e

long_string : (text cs after : List ℕ) → Spells 34 text cs → length cs ≡ 256 → string_of (34 ∷ (text ++ after)) ≡ Err (fault_at faults.StringTooLong 0)
unfolding string_of
long_string text cs after sp long =
    let e : 256 ≡ length cs + 0 = omega arith in
    string_skips text cs sp 256 0 1 after e

constant_refused : (after : List ℕ) (f : Fault) → character_by (39 ∷ after) (quoted_of 39 after) ≡ Err f → lexeme_in_front (39 ∷ after) ≡ Err f
unfolding lexeme_in_front
constant_refused after f e = ap as_character e

abbrev ended : ℕ → ℕ → Bool → Result (ℕ × ℕ) Fault
ended c n t = cond t (Ok (c, n)) (Err (fault_at faults.Unterminated 0))

open_step : (text rest : List ℕ) (c : ℕ) (t : Bool) → begins 39 rest ≡ t → ((r : List ℕ) → rest ≡ 39 ∷ r → ⊥) → ended c (length text + 2) t ≡ Err (fault_at faults.Unterminated 0)
open_step text [] c true h no_close = let n : false ≡ true = h in cc
open_step text (d ∷ rest) c true h no_close = absurd (no_close rest (ap (λ n. n ∷ rest) (eqb-true d 39 h)))
open_step text rest c false h no_close = refl

open_constant : (after : List ℕ) (q : Quoted) → (IsBadEscape after → ⊥) → ((text rest : List ℕ) (c : ℕ) → after ≡ text ++ 39 ∷ rest → IsCharacter 39 text c → ⊥) → Front 39 after q → character_by (39 ∷ after) q ≡ Err (fault_at faults.Unterminated 0)
open_constant after q no_bad no_constant (Closes rest) = refl
open_constant after q no_bad no_constant (Cuts rest cut) = refl
open_constant after q no_bad no_constant (Spoils rest bad) = absurd (no_bad bad)
open_constant after q no_bad no_constant (Stands text rest c ch) =
    let s : 1 + length text ≡ suc (length text) = omega arith in
    let cut : drop (1 + length text) (39 ∷ (text ++ rest)) ≡ rest = ap (λ n. drop n (39 ∷ (text ++ rest))) s ∙ drop-front text rest in
    ap (λ ys. ended c (length text + 2) (begins 39 ys)) cut ∙ open_step text rest c (begins 39 rest) refl (λ r e. no_constant text r c (ap (λ ys. text ++ ys) e) ch)

no_sign : (bs : List ℕ) → sign_of bs ≡ Err (fault_at faults.BadCharacter 0) → sign_at bs ≡ Err (fault_at faults.BadCharacter 0)
no_sign bs e = rw e refl

none_spelled : (bs text after : List ℕ) (o : Option Symbol) → ((t r : List ℕ) (s : Symbol) → bs ≡ t ++ r → symbol_of t ≡ Some s → ⊥) → bs ≡ text ++ after → symbol_of text ≡ o → o ≡ None
none_spelled bs text after None h e o = refl
none_spelled bs text after (Some s) h e o = absurd (h text after s e o)

no_token : (b : ℕ) (after : List ℕ) → ((text rest : List ℕ) (s : Symbol) → b ∷ after ≡ text ++ rest → symbol_of text ≡ Some s → ⊥) → sign_of (b ∷ after) ≡ Err (fault_at faults.BadCharacter 0)
no_token b [] h = ap short_of (none_spelled (b ∷ []) (b ∷ []) [] (symbol_of (b ∷ [])) h refl refl)
no_token b (c ∷ rest) h =
    let one : symbol_of (b ∷ []) ≡ None = none_spelled (b ∷ c ∷ rest) (b ∷ []) (c ∷ rest) (symbol_of (b ∷ [])) h refl refl in
    let two : symbol_of (b ∷ c ∷ []) ≡ None = none_spelled (b ∷ c ∷ rest) (b ∷ c ∷ []) rest (symbol_of (b ∷ c ∷ [])) h refl refl in
    sign_of-long b c rest ∙ ap (long_of (b ∷ c ∷ rest)) two ∙ ap short_of one

number_some : (text after : List ℕ) (n : ℕ) → IsNumber text after n → 1 ≤ length (text ++ after)
number_some text after n (Decimal b bs rest all end) = omega arith
number_some text after n (Octal b bs rest all end) = omega arith
number_some text after n (Hexadecimal b bs rest all end) = omega arith

-- an open comment, or a fault that the reader reports
pub refused : (bs : List ℕ) (kind : FaultKind) (at : ℕ) → IsFaulty bs kind at → ((text : List ℕ) × (bs ≡ codes "/*" ++ text) × (Holds (codes "*/") text → ⊥) × (kind ≡ faults.Unterminated) × (at ≡ 0)) ⊎ Refused bs kind at
refused bs kind at (OpenComment text unclosed) = inl (text, refl, unclosed, refl, refl)
refused bs kind at (LargeNumber text after n number large) = inr (record {
  some = number_some text after n number;
  no_blank = number_no_blank text after n number;
  read = (number_splits text after n number).1 large;
})
refused bs kind at (NoNumber after no_digits) = inr (record { some = omega arith; no_blank = (refl, refl, refl); read = no_number after no_digits })
refused bs kind at (LongString text after cs sp long) = inr (record {
  some = omega arith;
  no_blank = (refl, refl, refl);
  read = string_refused (text ++ after) (fault_at faults.StringTooLong 0) (long_string text cs after sp long);
})
refused bs kind at (OpenString text after cs sp short cut) =
    let following = string_after text cs after sp short in
    inr (record {
      some = omega arith;
      no_blank = (refl, refl, refl);
      read = string_refused (text ++ after) (fault_at faults.Unterminated 0) (following.1 ∙ ap (string_on (string_from following.0) (1 + length text) after) (quoted_cut 34 after refl cut));
    })
refused bs kind at (BadString text after cs sp short bad) =
    let following = string_after text cs after sp short in
    inr (record {
      some = omega arith;
      no_blank = (refl, refl, refl);
      read = string_refused (text ++ after) (fault_at faults.BadEscape (1 + length text)) (following.1 ∙ ap (string_on (string_from following.0) (1 + length text) after) (quoted_bad 34 after refl bad));
    })
refused bs kind at (BadConstant after bad) = inr (record {
  some = omega arith;
  no_blank = (refl, refl, refl);
  read = constant_refused after (fault_at faults.BadEscape 1) (ap (character_by (39 ∷ after)) (quoted_bad 39 after refl bad));
})
refused bs kind at (OpenConstant after no_bad no_constant) = inr (record {
  some = omega arith;
  no_blank = (refl, refl, refl);
  read = constant_refused after (fault_at faults.Unterminated 0) (open_constant after (quoted_of 39 after) no_bad no_constant (quoted_front 39 after));
})
refused bs kind at (NoToken b after sign l k none_there) = inr (record {
  some = omega arith;
  no_blank = ((other_parts b sign).space, l, k);
  read = dispatch_sign b after sign ∙ no_sign (b ∷ after) (no_token b after none_there);
})
