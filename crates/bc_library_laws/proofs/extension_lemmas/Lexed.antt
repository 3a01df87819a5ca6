-- A text without GETs, lexed in one pass over its bytes: the same tokens as by the definition, which counts from the beginning of the file
-- at each of them.
use Rattle.std.proofs.Common.{◌≡◌, ◌≢◌, ◌∙◌, refl, sym, ap, arith, ℕ, zero, suc, ◌+◌, ◌-◌, ◌≤◌, Bool, true, false, ◌||◌, ◌==◌, List, [], ◌∷◌, ◌++◌, length, take, drop, Option, Some, None, Result, Ok, Err, nat_lt, append_assoc}
use Rattle.std.proofs.lemmas.List.{append-nil, drop-drop, length-append, length-drop}
use Rattle.std.specs.Prelude.{cond, if◌then◌else◌}
use Rattle.bc_lex_tokens.specs.Spelling.{symbol_of}
use Rattle.bc_lex_tokens.specs.Token.{Kind, Lexeme, Sign}
use Rattle.bc_lex.specs.declared.fault.Fault.{Fault}
use Rattle.bc_lex.specs.Bytes.{is_letter, is_digit}
use Rattle.bc_lex.specs.Gaps.{breaks}
use Rattle.bc_lex.specs.Blank.{blank_of, gap_on, gap_from, gap_of}
use Rattle.bc_lex.specs.Files.{File, text_of}
use Rattle.bc_lex.specs.Lexeme.{◌>>=◌, word_of, short_of, long_of, string_at, number_at, character_at, sign_at, lexeme_in_front}
use Rattle.bc_lex.specs.Lexing.{Deeper, Token, is_get, skipped, lexeme_at, item_by, item_of, place_at, rest_of}
use Rattle.bc_library_laws.proofs.extension_lemmas.Tests.{same_test}

-- the number of bytes of a gap, if it has fewer blanks, line breaks and comments than this
abbrev gap_on_pass : (ℕ → List ℕ → Option ℕ) → ℕ → List ℕ → Option ℕ → Option ℕ
gap_on_pass again at bs None = None
gap_on_pass again at bs (Some n) = cond (n == 0) (Some at) (again (at + n) (drop n bs))

abbrev gap_pass : ℕ → ℕ → List ℕ → Option ℕ
gap_pass zero at bs = None
gap_pass (suc k) at bs = gap_on_pass (gap_pass k) at bs (blank_of bs)

-- a lexeme; only two bytes are counted of what is left
abbrev sign_pass : List ℕ → Result (Kind × ℕ) Fault
sign_pass [] = short_of (symbol_of []) >>= λ x. Ok (Sign x.0, x.1)
sign_pass (b ∷ []) = short_of (symbol_of (b ∷ [])) >>= λ x. Ok (Sign x.0, x.1)
sign_pass (b ∷ c ∷ bs) = long_of (b ∷ c ∷ bs) (symbol_of (b ∷ c ∷ [])) >>= λ x. Ok (Sign x.0, x.1)

abbrev lexeme_pass : ℕ → List ℕ → Result (Kind × ℕ) Fault
lexeme_pass b bs =
    if is_letter b then Ok (word_of bs)
    else (if is_digit b || (b == 35) then number_at bs
    else (if b == 34 then string_at bs
    else (if b == 39 then character_at bs
    else sign_pass bs)))

-- reads on, from an offset with the bytes from there on and the number of tokens before
abbrev Pass : Type 0
Pass = ℕ → Bool → List ℕ → ℕ → Option (List Lexeme)

abbrev with_token : Lexeme → Option (List Lexeme) → Option (List Lexeme)
with_token t None = None
with_token t (Some ts) = Some (t ∷ ts)

abbrev token_of : (file start : ℕ) → Bool → List ℕ → Kind × ℕ → Lexeme
token_of file start line bs x = record { kind = x.0; text = take x.1 bs; file = file; start = start; end = start + x.1; line_before = line }

abbrev lexeme_on_pass : Pass → (file start : ℕ) → Bool → List ℕ → ℕ → Result (Kind × ℕ) Fault → Option (List Lexeme)
lexeme_on_pass again file start line bs count (Err f) = None
lexeme_on_pass again file start line bs count (Ok x) =
    cond (is_get x.0) None (cond (nat_lt count 60000) (with_token (token_of file start line bs x) (again (start + x.1) false (drop x.1 bs) (suc count))) None)

abbrev start_pass : Pass → (file start : ℕ) → Bool → List ℕ → ℕ → Option (List Lexeme)
start_pass again file start line [] count = None
start_pass again file start line (b ∷ bs) count = lexeme_on_pass again file start line (b ∷ bs) count (lexeme_pass b (b ∷ bs))

abbrev item_on_pass : Pass → (file len at : ℕ) → Bool → List ℕ → ℕ → Option ℕ → Option (List Lexeme)
item_on_pass again file len at line bs count None = None
item_on_pass again file len at line bs count (Some n) = cond (at + n == len) (Some []) (start_pass again file (at + n) (line || breaks (take n bs)) (drop n bs) count)

-- the tokens from this offset on, of a file with so many bytes, of which these remain; none if there is a GET or a fault
abbrev pub pass : (file len : ℕ) → ℕ → Pass
pass file len zero at line bs count = None
pass file len (suc k) at line bs count = item_on_pass (pass file len k) file len at line bs count (gap_pass 64 0 bs)

same_some : {X : Type 0} → (x y : X) → Some x ≡ Some y → x ≡ y
same_some x y e = cc

none_some : {X Y : Type 0} → (x : X) → ◌≡◌ {A = Option X} None (Some x) → Y
none_some x e = absurd (let z : ⊥ = cc in z)

-- one blank, line break or comment
gap_step : (k j at n : ℕ) (bs : List ℕ) → ((at : ℕ) (cs : List ℕ) → length cs ≤ j → gap_pass k at cs ≡ Some n → gap_from j at cs ≡ Ok n) → (found : Option ℕ) → length bs ≤ suc j
    → gap_on_pass (gap_pass k) at bs found ≡ Some n → gap_on (gap_from j) at bs found ≡ Ok n
gap_step k j at n bs more None short e = none_some n e
gap_step k j at n bs more (Some m) short e = by (m == 0) refl e where
  by : (b : Bool) → (m == 0) ≡ b → cond b (Some at) (gap_pass k (at + m) (drop m bs)) ≡ Some n → cond b (Ok at) (gap_from j (at + m) (drop m bs)) ≡ Ok n
  by true is e = ap (λ z. Ok z) (same_some at n e)
  by false is e =
      let left : length (drop m bs) ≡ length bs - m = length-drop m bs in
      let some : m ≢ 0 = (λ none. let k : true ≡ false = sym (same_test m 0 none) ∙ is in absurd (let z : ⊥ = cc in z)) in
      more (at + m) (drop m bs) (omega (arith, left, some, short)) e

gap_reads : (k j at : ℕ) (bs : List ℕ) (n : ℕ) → length bs ≤ j → gap_pass k at bs ≡ Some n → gap_from j at bs ≡ Ok n
gap_reads zero j at bs n short e = none_some n e
gap_reads (suc k) zero at [] n short e = ap (λ z. Ok z) (same_some at n e)
gap_reads (suc k) zero at (b ∷ bs) n short e = absurd (omega (arith, short))
gap_reads (suc k) (suc j) at bs n short e = gap_step k j at n bs (λ at cs le e. gap_reads k j at cs n le e) (blank_of bs) short e

gap_found : (bs : List ℕ) (n : ℕ) → gap_pass 64 0 bs ≡ Some n → gap_of bs ≡ Ok n
unfolding gap_of
gap_found bs n e = gap_reads 64 (length bs) 0 bs n (omega arith) e

sign_same : (bs : List ℕ) → sign_at bs ≡ sign_pass bs
sign_same [] = refl
sign_same (b ∷ []) = refl
sign_same (b ∷ c ∷ bs) = let two : nat_lt 1 (length (b ∷ c ∷ bs)) ≡ true = grind arith in rw two refl

lexeme_same : (b : ℕ) (bs : List ℕ) → lexeme_in_front (b ∷ bs) ≡ lexeme_pass b (b ∷ bs)
unfolding lexeme_in_front
lexeme_same b bs = ap (λ z. if is_letter b then Ok (word_of (b ∷ bs)) else (if is_digit b || (b == 35) then number_at (b ∷ bs) else (if b == 34 then string_at (b ∷ bs) else (if b == 39 then character_at (b ∷ bs) else z)))) (sign_same (b ∷ bs))

-- what comes next, where it is a lexeme
item_is : (files : List File) (file len at n : ℕ) (line : Bool) (bs r : List ℕ) (x : Kind × ℕ) → len ≡ length (text_of files file) → bs ≡ drop at (text_of files file) → gap_of bs ≡ Ok n → (at + n == len) ≡ false → drop n bs ≡ r
    → lexeme_in_front r ≡ Ok x → is_get x.0 ≡ false → item_of files file (place_at at line) ≡ Ok (Token (token_of file (at + n) (line || breaks (take n bs)) r x))
unfolding item_of skipped lexeme_at item_by
item_is files file len at n line bs r x size here gap ne rest front word =
    let there : drop (at + n) (text_of files file) ≡ r = sym (drop-drop n at (text_of files file)) ∙ ap (drop n) (sym here) ∙ rest in
    let one : at + n + x.1 - (at + n) ≡ x.1 = omega arith in
    let two : at + n - at ≡ n = omega arith in
    rw (sym here, gap, sym size, ne, there, front, word, one, there, two, sym here) refl

end_is : (deeper : Deeper) (files : List File) (file len j at n : ℕ) (line : Bool) (bs : List ℕ) (tokens : List Lexeme) → len ≡ length (text_of files file) → bs ≡ drop at (text_of files file) → gap_of bs ≡ Ok n → (at + n == len) ≡ true
    → rest_of deeper files file (suc j) (place_at at line) tokens ≡ Ok tokens
unfolding item_of skipped
end_is deeper files file len j at n line bs tokens size here gap end = rw (sym here, gap, sym size, end) refl

-- the rest of a file is read as the pass reads it
abbrev Reads : (deeper : Deeper) (files : List File) (file j : ℕ) → Pass → Type 0
Reads deeper files file j again =
    (at : ℕ) (line : Bool) (bs : List ℕ) (count : ℕ) (tokens more : List Lexeme) → bs ≡ drop at (text_of files file) → count ≡ length tokens → again at line bs count ≡ Some more
    → rest_of deeper files file j (place_at at line) tokens ≡ Ok (tokens ++ more)

one_longer : (tokens : List Lexeme) (t : Lexeme) (count : ℕ) → count ≡ length tokens → suc count ≡ length (tokens ++ t ∷ [])
one_longer tokens t count e = let z : length (tokens ++ t ∷ []) ≡ length tokens + 1 = length-append tokens _ in omega (arith, z, e)

-- one item
item_reads : (deeper : Deeper) (files : List File) (file len j : ℕ) (again : Pass) → len ≡ length (text_of files file) → Reads deeper files file j again
    → (at : ℕ) (line : Bool) (bs : List ℕ) (count : ℕ) (tokens more : List Lexeme) → bs ≡ drop at (text_of files file) → count ≡ length tokens → item_on_pass again file len at line bs count (gap_pass 64 0 bs) ≡ Some more
    → rest_of deeper files file (suc j) (place_at at line) tokens ≡ Ok (tokens ++ more)
item_reads deeper files file len j again size reads at line bs count tokens more here counted found = by_gap (gap_pass 64 0 bs) refl found where
  by_rest : (n : ℕ) (r : List ℕ) (x : Kind × ℕ) → gap_of bs ≡ Ok n → (at + n == len) ≡ false → drop n bs ≡ r → lexeme_in_front r ≡ Ok x → is_get x.0 ≡ false → nat_lt count 60000 ≡ true → (rest : Option (List Lexeme))
      → again (at + n + x.1) false (drop x.1 r) (suc count) ≡ rest → with_token (token_of file (at + n) (line || breaks (take n bs)) r x) rest ≡ Some more
      → rest_of deeper files file (suc j) (place_at at line) tokens ≡ Ok (tokens ++ more)
  by_rest n r x gap ne is front word few None next e = none_some more e
  by_rest n r x gap ne is front word few (Some ts) next e =
      let t = token_of file (at + n) (line || breaks (take n bs)) r x in
      let item = item_is files file len at n line bs r x size here gap ne is front word in
      let there : drop x.1 r ≡ drop (at + n + x.1) (text_of files file) = ap (drop x.1) (sym is ∙ ap (drop n) here ∙ drop-drop n at (text_of files file)) ∙ drop-drop x.1 (at + n) (text_of files file) in
      let next_reads = reads (at + n + x.1) false (drop x.1 r) (suc count) (tokens ++ t ∷ []) ts there (one_longer tokens t count counted) next in
      rw (item, sym counted, few) (next_reads ∙ ap (λ z. Ok z) (append_assoc tokens (t ∷ []) ts ∙ ap (λ z. tokens ++ z) (same_some (t ∷ ts) more e)))

  by_few : (n : ℕ) (r : List ℕ) (x : Kind × ℕ) → gap_of bs ≡ Ok n → (at + n == len) ≡ false → drop n bs ≡ r → lexeme_in_front r ≡ Ok x → is_get x.0 ≡ false → (b : Bool) → nat_lt count 60000 ≡ b
      → cond b (with_token (token_of file (at + n) (line || breaks (take n bs)) r x) (again (at + n + x.1) false (drop x.1 r) (suc count))) None ≡ Some more
      → rest_of deeper files file (suc j) (place_at at line) tokens ≡ Ok (tokens ++ more)
  by_few n r x gap ne is front word true few e = by_rest n r x gap ne is front word few (again (at + n + x.1) false (drop x.1 r) (suc count)) refl e
  by_few n r x gap ne is front word false few e = none_some more e

  by_word : (n : ℕ) (r : List ℕ) (x : Kind × ℕ) → gap_of bs ≡ Ok n → (at + n == len) ≡ false → drop n bs ≡ r → lexeme_in_front r ≡ Ok x → (b : Bool) → is_get x.0 ≡ b
      → cond b None (cond (nat_lt count 60000) (with_token (token_of file (at + n) (line || breaks (take n bs)) r x) (again (at + n + x.1) false (drop x.1 r) (suc count))) None) ≡ Some more
      → rest_of deeper files file (suc j) (place_at at line) tokens ≡ Ok (tokens ++ more)
  by_word n r x gap ne is front true word e = none_some more e
  by_word n r x gap ne is front false word e = by_few n r x gap ne is front word (nat_lt count 60000) refl e

  by_lexeme : (n : ℕ) (r : List ℕ) → gap_of bs ≡ Ok n → (at + n == len) ≡ false → drop n bs ≡ r → (l : Result (Kind × ℕ) Fault) → lexeme_in_front r ≡ l
      → lexeme_on_pass again file (at + n) (line || breaks (take n bs)) r count l ≡ Some more → rest_of deeper files file (suc j) (place_at at line) tokens ≡ Ok (tokens ++ more)
  by_lexeme n r gap ne is (Err f) front e = none_some more e
  by_lexeme n r gap ne is (Ok x) front e = by_word n r x gap ne is front (is_get x.0) refl e

  by_start : (n : ℕ) (r : List ℕ) → gap_of bs ≡ Ok n → (at + n == len) ≡ false → drop n bs ≡ r → start_pass again file (at + n) (line || breaks (take n bs)) r count ≡ Some more
      → rest_of deeper files file (suc j) (place_at at line) tokens ≡ Ok (tokens ++ more)
  by_start n [] gap ne is e = none_some more e
  by_start n (b ∷ r) gap ne is e = by_lexeme n (b ∷ r) gap ne is (lexeme_pass b (b ∷ r)) (lexeme_same b r) e

  by_end : (n : ℕ) → gap_of bs ≡ Ok n → (b : Bool) → (at + n == len) ≡ b → cond b (Some []) (start_pass again file (at + n) (line || breaks (take n bs)) (drop n bs) count) ≡ Some more
      → rest_of deeper files file (suc j) (place_at at line) tokens ≡ Ok (tokens ++ more)
  by_end n gap true end e = end_is deeper files file len j at n line bs tokens size here gap end ∙ ap (λ z. Ok z) (sym (append-nil tokens) ∙ ap (λ z. tokens ++ z) (same_some [] more e))
  by_end n gap false end e = by_start n (drop n bs) gap end refl e

  by_gap : (g : Option ℕ) → gap_pass 64 0 bs ≡ g → item_on_pass again file len at line bs count g ≡ Some more → rest_of deeper files file (suc j) (place_at at line) tokens ≡ Ok (tokens ++ more)
  by_gap None is e = none_some more e
  by_gap (Some n) is e = by_end n (gap_found bs n is) (at + n == len) refl e

pub pass_reads : (deeper : Deeper) (files : List File) (file len : ℕ) → len ≡ length (text_of files file) → (k j : ℕ) → k ≤ j → Reads deeper files file j (pass file len k)
pass_reads deeper files file len size zero j le at line bs count tokens more here counted e = none_some more e
pass_reads deeper files file len size (suc k) zero le at line bs count tokens more here counted e = absurd (omega (arith, le))
pass_reads deeper files file len size (suc k) (suc j) le at line bs count tokens more here counted e =
    item_reads deeper files file len j (pass file len k) size (pass_reads deeper files file len size k j (omega (arith, le))) at line bs count tokens more here counted e
