-- The tokens of a file depend neither on the tokens before them nor on the levels, if these suffice. So it needs to be read only once.
use Rattle.std.proofs.Common.{◌≡◌, ◌∙◌, refl, sym, ap, arith, ℕ, zero, suc, ◌+◌, ◌-◌, ◌<◌, ◌≤◌, Bool, true, false, List, [], ◌∷◌, ◌++◌, length, take, drop, min, get_or, Result, Ok, Err, cond, nat_lt, append_assoc, IfOk}
use Rattle.std.proofs.lemmas.List.{drop-append-le, take-append-le, length-drop, length-append, length-take, get_or-take}
use Rattle.std.proofs.Math.Seq.{drop-append_seam, drop-cons, take-length}
use Rattle.bc_lex_tokens.specs.Token.{Lexeme}
use Rattle.bc_lex.specs.declared.error.LexError.{LexError}
use Rattle.bc_lex.specs.declared.error.LexError.TheVariants as errors
use Rattle.bc_lex.specs.declared.reading.Position.{Position}
use Rattle.bc_lex.specs.declared.read_file.ReadFile.{ReadFile}
use Rattle.bc_lex.specs.Lexeme.{◌>>=◌}
use Rattle.bc_lex.specs.Files.{File, text_of}
use Rattle.std.proofs.lemmas.List.Elements.{All-push}
use Rattle.bc_lex.specs.Lexing.{ReadsAs, Found, End, Token, Get, pushed, place_at, item_of, found_on, rest_of, file_to_end, deeper_of}
use Rattle.bc_lex.specs.Repeated.{pushed_all, between, IsRight, AreRight}
use Rattle.bc_lex.proofs.Sound.{append-none}

-- steps that continue alike
bind_alike : {A B : Type 0} (r : Result A LexError) (f g : A → Result B LexError) → ((x : A) → f x ≡ g x) → (r >>= f) ≡ (r >>= g)
bind_alike (Ok x) f g h = h x
bind_alike (Err e) f g h = refl

bind_twice : {A B C : Type 0} (r : Result A LexError) (f : A → Result B LexError) (g : B → Result C LexError) → (r >>= (λ x. f x >>= g)) ≡ (r >>= f >>= g)
bind_twice (Ok x) f g = refl
bind_twice (Err e) f g = refl

-- tokens one by one

pushed_all-append : (first second before : List Lexeme) → pushed_all (first ++ second) before ≡ (pushed_all first before >>= pushed_all second)
pushed_all-append [] second before = refl
pushed_all-append (t ∷ first) second before =
    bind_alike (pushed t before) (pushed_all (first ++ second)) (λ x. pushed_all first x >>= pushed_all second) (λ x. pushed_all-append first second x) ∙ bind_twice (pushed t before) (pushed_all first) (pushed_all second)

pushed_by : (room : Bool) (t : Lexeme) (before after : List Lexeme) → cond room (Ok (before ++ t ∷ [])) (Err (errors.TooManyTokens t.file t.start)) ≡ Ok after → after ≡ before ++ t ∷ []
pushed_by true t before after e = cc
pushed_by false t before after e = cc

pushed_is : (t : Lexeme) (before after : List Lexeme) → pushed t before ≡ Ok after → after ≡ before ++ t ∷ []
pushed_is t before after e = pushed_by (nat_lt (length before) 60000) t before after e

pushed_all_by : (t : Lexeme) (given before after : List Lexeme) (r : Result (List Lexeme) LexError) → ((b : List Lexeme) → pushed_all given b ≡ Ok after → after ≡ b ++ given) → pushed t before ≡ r → (r >>= pushed_all given) ≡ Ok after → after ≡ before ++ t ∷ given
pushed_all_by t given before after (Ok middle) ih r_is e =
    ih middle e ∙ ap (λ ys. ys ++ given) (pushed_is t before middle r_is) ∙ append_assoc before (t ∷ []) given
pushed_all_by t given before after (Err x) ih r_is e = cc

pushed_all_is : (given before after : List Lexeme) → pushed_all given before ≡ Ok after → after ≡ before ++ given
pushed_all_is [] before after e = let same : before ≡ after = cc in sym same ∙ sym (append-none before)
pushed_all_is (t ∷ given) before after e = pushed_all_by t given before after (pushed t before) (λ b. pushed_all_is given b after) refl e

-- tokens that a reading gave, and that any such reading gives that may nest GETs as deep
record Gave (l : ℕ) (before after : List Lexeme) (again : ℕ → List Lexeme → Result (List Lexeme) LexError) : Type 0 where
  given : List Lexeme
  after_is : after ≡ before ++ given
  same : (d : ℕ) (b : List Lexeme) → l ≤ d → again d b ≡ pushed_all given b

-- for what a GET gives, and for the rest of a file

abbrev GaveDeep : List File → ℕ → Type 0
GaveDeep files l = (file start named : ℕ) (before after : List Lexeme) → deeper_of files l file start named before ≡ Ok after → Gave l before after (λ d. deeper_of files d file start named)

abbrev GaveRest : List File → ℕ → ℕ → ℕ → Type 0
GaveRest files l file k = (place : Position) (before after : List Lexeme) → rest_of (deeper_of files l) files file k place before ≡ Ok after → Gave l before after (λ d. rest_of (deeper_of files d) files file k place)

gave_token : (files : List File) (l file k : ℕ) (t : Lexeme) (before after : List Lexeme) (r : Result (List Lexeme) LexError) → GaveRest files l file k → pushed t before ≡ r → (r >>= rest_of (deeper_of files l) files file k (place_at t.end false)) ≡ Ok after → Gave l before after (λ d b. pushed t b >>= rest_of (deeper_of files d) files file k (place_at t.end false))
gave_token files l file k t before after (Ok middle) go r_is e =
    let rest = go (place_at t.end false) middle after e in
    record {
      given = t ∷ rest.given;
      after_is = rest.after_is ∙ ap (λ ys. ys ++ rest.given) (pushed_is t before middle r_is) ∙ append_assoc before (t ∷ []) rest.given;
      same = λ d b h. bind_alike (pushed t b) (rest_of (deeper_of files d) files file k (place_at t.end false)) (pushed_all rest.given) (λ x. rest.same d x h);
    }
gave_token files l file k t before after (Err x) go r_is e = cc

gave_get : (files : List File) (l file k start named following : ℕ) (before after : List Lexeme) (r : Result (List Lexeme) LexError) → GaveDeep files l → GaveRest files l file k → deeper_of files l file start named before ≡ r → (r >>= rest_of (deeper_of files l) files file k (place_at following true)) ≡ Ok after → Gave l before after (λ d b. deeper_of files d file start named b >>= rest_of (deeper_of files d) files file k (place_at following true))
gave_get files l file k start named following before after (Ok middle) deep go r_is e =
    let inner = deep file start named before middle r_is in
    let rest = go (place_at following true) middle after e in
    record {
      given = inner.given ++ rest.given;
      after_is = rest.after_is ∙ ap (λ ys. ys ++ rest.given) inner.after_is ∙ append_assoc before inner.given rest.given;
      same = λ d b h.
          ap (λ r. r >>= rest_of (deeper_of files d) files file k (place_at following true)) (inner.same d b h)
          ∙ bind_alike (pushed_all inner.given b) (rest_of (deeper_of files d) files file k (place_at following true)) (pushed_all rest.given) (λ x. rest.same d x h)
          ∙ sym (pushed_all-append inner.given rest.given b);
    }
gave_get files l file k start named following before after (Err x) deep go r_is e = cc

gave_found : (files : List File) (l file k : ℕ) (before after : List Lexeme) (item : Result Found LexError) → GaveDeep files l → GaveRest files l file k → (item >>= found_on (rest_of (deeper_of files l) files file k) (deeper_of files l) file before) ≡ Ok after → Gave l before after (λ d b. item >>= found_on (rest_of (deeper_of files d) files file k) (deeper_of files d) file b)
gave_found files l file k before after (Ok End) deep go e =
    let same : before ≡ after = cc in
    record { given = []; after_is = sym same ∙ sym (append-none before); same = λ d b h. refl }
gave_found files l file k before after (Ok (Token t)) deep go e = gave_token files l file k t before after (pushed t before) go refl e
gave_found files l file k before after (Ok (Get start named following)) deep go e =
    gave_get files l file k start named following before after (deeper_of files l file start named before) deep go refl e
gave_found files l file k before after (Err x) deep go e = cc

gave_rest : (files : List File) (l file : ℕ) → GaveDeep files l → (k : ℕ) → GaveRest files l file k
gave_rest files l file deep zero place before after e =
    let same : before ≡ after = cc in
    record { given = []; after_is = sym same ∙ sym (append-none before); same = λ d b h. refl }
gave_rest files l file deep (suc k) place before after e = gave_found files l file k before after (item_of files file place) deep (gave_rest files l file deep k) e

gave_file : (files : List File) (l file : ℕ) (line : Bool) → GaveDeep files l → (before after : List Lexeme) → file_to_end (deeper_of files l) files file line before ≡ Ok after → Gave l before after (λ d. file_to_end (deeper_of files d) files file line)
unfolding file_to_end
gave_file files l file line deep before after e = gave_rest files l file deep (length (text_of files file)) (place_at 0 line) before after e

deeper_same : (files : List File) (l file start named d : ℕ) (given b : List Lexeme) → ((d' : ℕ) (b' : List Lexeme) → l ≤ d' → file_to_end (deeper_of files d') files named true b' ≡ pushed_all given b') → suc l ≤ d → deeper_of files d file start named b ≡ pushed_all given b
unfolding deeper_of
deeper_same files l file start named zero given b same h = absurd (omega arith)
deeper_same files l file start named (suc d) given b same h = same d b (omega arith)

gave_deep : (files : List File) (l : ℕ) → GaveDeep files l
unfolding deeper_of
gave_deep files zero file start named before after e = cc
gave_deep files (suc l) file start named before after e =
    let inner = gave_file files l named true (gave_deep files l) before after e in
    record { given = inner.given; after_is = inner.after_is; same = λ d b h. deeper_same files l file start named d inner.given b inner.same h }

-- what is kept

grown_tokens : (tokens more : List Lexeme) (start end : ℕ) → start ≤ end → end ≤ length tokens → between (tokens ++ more) start end ≡ between tokens start end
grown_tokens tokens more start end o w =
    let l : length (drop start tokens) ≡ length tokens - start = length-drop start tokens in
    ap (take (end - start)) (drop-append-le start tokens more (omega arith)) ∙ take-append-le (end - start) (drop start tokens) more (omega arith)

still_right : (files : List File) (tokens more : List Lexeme) (r : ReadFile) → IsRight files tokens r → IsRight files (tokens ++ more) r
still_right files tokens more r h =
    let l : length (tokens ++ more) ≡ length tokens + length more = length-append tokens more in
    let order : r.start ≤ r.end = h.order in
    let within : r.end ≤ length tokens = h.within in
    record { order = order; within = omega arith; has = rw (grown_tokens tokens more r.start r.end order within) h.has }

grown_right : (files : List File) (tokens more : List Lexeme) (rs : List ReadFile) → AreRight files tokens rs → AreRight files (tokens ++ more) rs
grown_right files tokens more rs h k d in_list = still_right files tokens more _ (h k d in_list)

-- after a token
pub right_after_push : (files : List File) (t : Lexeme) (before after : List Lexeme) (rs : List ReadFile) → pushed t before ≡ Ok after → AreRight files before rs → AreRight files after rs
right_after_push files t before after rs e h = rw (pushed_is t before after e) (grown_right files before (t ∷ []) rs h)

-- after a copy
right_after_copy : (files : List File) (given before after : List Lexeme) (rs : List ReadFile) → pushed_all given before ≡ Ok after → AreRight files before rs → AreRight files after rs
right_after_copy files given before after rs e h = rw (pushed_all_is given before after e) (grown_right files before given rs h)

between_end : (before given : List Lexeme) → between (before ++ given) (length before) (length (before ++ given)) ≡ given
between_end before given =
    let n : length (before ++ given) - length before ≡ length given = let l : length (before ++ given) ≡ length before + length given = length-append before given in omega arith in
    ap (take (length (before ++ given) - length before)) (drop-append_seam before given) ∙ ap (λ k. take k given) n ∙ take-length given

-- what is noted of a file after it was read is right
pub read_is_right : (files : List File) (levels file : ℕ) (before after : List Lexeme) (r : ReadFile) → file_to_end (deeper_of files levels) files file true before ≡ Ok after → r.file ≡ file → r.levels ≡ levels → r.start ≡ length before → r.end ≡ length after → IsRight files after r
read_is_right files levels file before after r e file_is levels_is start_is end_is =
    let gave = gave_file files levels file true (gave_deep files levels) before after e in
    let l : length (before ++ gave.given) ≡ length before + length gave.given = length-append before gave.given in
    let end' : r.end ≡ length (before ++ gave.given) = end_is ∙ ap length gave.after_is in
    let piece : between after r.start r.end ≡ gave.given = ap (λ ys. between ys r.start r.end) gave.after_is ∙ ap (λ n. between (before ++ gave.given) n r.end) start_is ∙ ap (between (before ++ gave.given) (length before)) end' ∙ between_end before gave.given in
    record { order = omega arith; within = omega arith; has = rw (file_is, levels_is, piece) gave.same }

-- after a call that copies
pub right_after : {X : Type 0} (files : List File) (given before after : List Lexeme) (rs : List ReadFile) (x : Result X LexError) → ReadsAs (λ _. after) x (pushed_all given before) → AreRight files before rs → IfOk x (λ _. AreRight files after rs)
right_after files given before after rs (Ok v) h right = right_after_copy files given before after rs h right
right_after files given before after rs (Err e) h right = tt

-- with one file more
pub right_with : (files : List File) (tokens : List Lexeme) (rs : List ReadFile) (r : ReadFile) → AreRight files tokens rs → IsRight files tokens r → AreRight files tokens (rs ++ r ∷ [])
right_with files tokens rs r h right = All-push (IsRight files tokens) rs r h right

-- a copy, token by token

still_there : (old now : List Lexeme) → take (length old) now ≡ old → length old ≤ length now
still_there old now kept =
    let n : length old ≡ min (length old) (length now) = sym (ap length kept) ∙ length-take (length old) now in
    grind arith

pub still_kept : (old now new : List Lexeme) (t : Lexeme) → take (length old) now ≡ old → pushed t now ≡ Ok new → take (length old) new ≡ old
still_kept old now new t kept e =
    ap (take (length old)) (pushed_is t now new e) ∙ take-append-le (length old) now (t ∷ []) (still_there old now kept) ∙ kept

between_next : (old now : List Lexeme) (i end : ℕ) (t : Lexeme) → i < end → end ≤ length old → take (length old) now ≡ old → t ≡ get_or now i t → between old i end ≡ t ∷ between old (i + 1) end
between_next old now i end t below within kept t_is =
    let same : get_or old i t ≡ t = sym (ap (λ ys. get_or ys i t) kept) ∙ get_or-take (length old) now i t (omega arith) ∙ sym t_is in
    let n : end - i ≡ suc (end - (i + 1)) = omega arith in
    let next : suc i ≡ i + 1 = omega arith in
    ap (λ k. take k (drop i old)) n ∙ ap (take (suc (end - (i + 1)))) (drop-cons old i t (omega arith)) ∙ ap (λ x. x ∷ take (end - (i + 1)) (drop (suc i) old)) same ∙ ap (λ k. t ∷ take (end - (i + 1)) (drop k old)) next

pub copy_turn : (old now : List Lexeme) (i end : ℕ) (t : Lexeme) (read : Result (List Lexeme) LexError) → i < end → end ≤ length old → take (length old) now ≡ old → t ≡ get_or now i t → pushed_all (between old i end) now ≡ read → (pushed t now >>= pushed_all (between old (i + 1) end)) ≡ read
copy_turn old now i end t read below within kept t_is r = rw (between_next old now i end t below within kept t_is) at r
