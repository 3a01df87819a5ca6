-- From the definition to the reader: the tokens of a source, or its first fault, by definition are what is read.
use Rattle.std.proofs.Common.{◌≡◌, ◌≢◌, ◌∙◌, refl, sym, ap, arith, ℕ, zero, suc, ◌+◌, ◌-◌, ◌≤◌, ◌<◌, inl, inr, Bool, true, false, ◌||◌, List, [], ◌∷◌, ◌++◌, length, drop, Option, Some, Result, Ok, Err, nat_eq, nat_lt, append_assoc}
use Rattle.std.specs.Prelude.{codes}
use Rattle.std.proofs.lemmas.Bool.{ne_eqb, eqb-true, both_ways, eq-eqb, lt-ltb, le-ltb, cond-true, cond-false}
use Rattle.bc_lex_tokens.specs.declared.symbol.Symbol.{Symbol}
use Rattle.bc_lex_tokens.specs.declared.symbol.Symbol.TheVariants as symbol
use Rattle.bc_lex_tokens.specs.Spelling.{symbol_of}
use Rattle.bc_lex_tokens.specs.Token.{Kind, Sign, Name, Number, Character, String, Lexeme}
use Rattle.bc_lex.specs.declared.fault.FaultKind.{FaultKind}
use Rattle.bc_lex.specs.declared.error.LexError.{LexError}
use Rattle.bc_lex.specs.declared.error.LexError.TheVariants as errors
use Rattle.bc_lex.specs.declared.reading.Position.{Position}
use Rattle.bc_lex.specs.Bytes.{is_name_byte}
use Rattle.bc_lex.specs.Gaps.{Holds, breaks, begins, opens_block, IsGap}
use Rattle.bc_lex.specs.Lexemes.{Ends, IsLexeme, Word}
use Rattle.bc_lex.specs.Faults.{IsFaulty}
use Rattle.bc_lex.specs.Files.{File, text_of}
use Rattle.bc_lex.specs.Search.{source_from}
use Rattle.bc_lex.specs.Errors.{error_of}
use Rattle.bc_lex.specs.Reading.{fault_at, string_of}
use Rattle.bc_lex.specs.Blank.{gap_of}
use Rattle.bc_lex.specs.Lexeme.{◌>>=◌, lexeme_in_front}
use Rattle.bc_lex.specs.Lexing as lexing
use Rattle.bc_lex.specs.Lexing.{Found, located, found_or, skipped, string_end_of, lexeme_at, part, named_on, target_on, target_of, is_get, item_by, item_on, item_of, pushed, place_at, Deeper, found_on, rest_of, file_to_end, deeper_of, read_of}
use Rattle.bc_lex.specs.Tokens.{IsFirstNamed, IsUnnamed, IsNoString, IsFaultyString, IsGet, Ending, Whole, Faulty, token, Reads, End, Next, TooMany, Fault as FaultHere, Get, GetFault, GetTooDeep, GetUnnamed, GetNoString, GetFaulty, HasTokens, HasFault}
use Rattle.bc_lex.proofs.Runs.{length-append_ℕ}
use Rattle.bc_lex.proofs.Gapping.{NoBlank, gap_whole, gap_cut}
use Rattle.bc_lex.proofs.LexemicBack.{lexeme_no_blank, lexeme_found, Refused, refused, string_whole, string_faulty}
use Rattle.bc_lex.proofs.Naming.{Names, string_names, source_first, source_unnamed}
use Rattle.bc_lex.proofs.Sound.{drop_after, part_is, text_positive, append-none, length-append_ℕ', append-nil}

-- blanks

skip_whole : (file : ℕ) (text : List ℕ) (at : ℕ) (gap rest : List ℕ) → drop at text ≡ gap ++ rest → IsGap gap rest → NoBlank rest → skipped file text at ≡ Ok (at + length gap)
unfolding skipped
skip_whole file text at gap rest e g no_blank =
    ap (λ ys. located file at (gap_of ys) >>= λ n. Ok (at + n)) e ∙ ap (λ r. located file at r >>= λ n. Ok (at + n)) (gap_whole gap rest g no_blank)

skip_cut : (file : ℕ) (text : List ℕ) (at : ℕ) (gap rest : List ℕ) → drop at text ≡ gap ++ (codes "/*" ++ rest) → IsGap gap (codes "/*" ++ rest) → (Holds (codes "*/") rest → ⊥) → skipped file text at ≡ Err (errors.Unterminated file (at + length gap))
unfolding skipped
skip_cut file text at gap rest e g unclosed =
    ap (λ ys. located file at (gap_of ys) >>= λ n. Ok (at + n)) e ∙ ap (λ r. located file at r >>= λ n. Ok (at + n)) (gap_cut gap rest g unclosed)

-- lexemes

word_at : (file : ℕ) (text : List ℕ) (at : ℕ) (bytes : List ℕ) (kind : Kind) (n : ℕ) → drop at text ≡ bytes → lexeme_in_front bytes ≡ Ok (kind, n) → lexeme_at file text at ≡ Ok (kind, at + n)
unfolding lexeme_at
word_at file text at bytes kind n e h = rw (e, h) refl

fault_in : (file : ℕ) (text : List ℕ) (at : ℕ) (bytes : List ℕ) (kind : FaultKind) (n : ℕ) → drop at text ≡ bytes → lexeme_in_front bytes ≡ Err (fault_at kind n) → lexeme_at file text at ≡ Err (error_of kind file (at + n))
unfolding lexeme_at
fault_in file text at bytes kind n e h = rw (e, h) refl

-- an offset of a file, and the bytes from it on
record At (files : List File) (file at : ℕ) (bytes : List ℕ) : Type 0 where
  there : drop at (text_of files file) ≡ bytes
  sum : at + length bytes ≡ length (text_of files file)

after_at : (files : List File) (file at : ℕ) (front rest : List ℕ) → At files file at (front ++ rest) → At files file (at + length front) rest
after_at files file at front rest h =
    let l : length (front ++ rest) ≡ length front + length rest = length-append_ℕ front rest in
    let s : at + length (front ++ rest) ≡ length (text_of files file) = h.sum in
    record { there = drop_after (text_of files file) front rest at (length front) h.there refl; sum = omega arith }

-- the item after blanks
item_after : (files : List File) (file at : ℕ) (line : Bool) (gap rest : List ℕ) → At files file at (gap ++ rest) → IsGap gap rest → NoBlank rest → 1 ≤ length rest → item_of files file (place_at at line) ≡ (lexeme_at file (text_of files file) (at + length gap) >>= item_by files file (text_of files file) (place_at at line) (at + length gap))
unfolding item_of
item_after files file at line gap rest h g no_blank some =
    let text = text_of files file in
    let l : length (gap ++ rest) ≡ length gap + length rest = length-append_ℕ gap rest in
    let s : at + length (gap ++ rest) ≡ length (text_of files file) = h.sum in
    let ne : nat_eq (at + length gap) (length text) ≡ false = ne_eqb (at + length gap) (length text) (λ e. omega arith) in
    ap (λ r. r >>= item_on files file text (place_at at line)) (skip_whole file text at gap rest h.there g no_blank)
    ∙ cond-false (nat_eq (at + length gap) (length text)) _ _ ne

apart_symbol : (s : Symbol) → s ≢ symbol.Get → is_get (Sign s) ≡ false
apart_symbol symbol.Get ne = absurd (ne refl)
apart_symbol _ ne = refl

apart_get : (kind : Kind) → kind ≢ Sign symbol.Get → is_get kind ≡ false
apart_get (Sign s) ne = apart_symbol s (λ e. ne (ap Sign e))
apart_get (Name text) ne = refl
apart_get (Number n) ne = refl
apart_get (Character c) ne = refl
apart_get (String text) ne = refl

item_token : (files : List File) (file at : ℕ) (line : Bool) (gap text after : List ℕ) (kind : Kind) → At files file at (gap ++ (text ++ after)) → IsGap gap (text ++ after) → IsLexeme text after kind → kind ≢ Sign symbol.Get → item_of files file (place_at at line) ≡ Ok (lexing.Token (token file (at + length gap) (line || breaks gap) kind text))
unfolding item_by
item_token files file at line gap text after kind h g lex ne =
    let whole = text_of files file in
    let start = at + length gap in
    let following = after_at files file at gap (text ++ after) h in
    let l : length (text ++ after) ≡ length text + length after = length-append_ℕ text after in
    let some : 1 ≤ length text = text_positive text after kind lex in
    let word : part whole start (start + length text) ≡ text = part_is whole text after start (start + length text) following.there refl in
    let space : part whole at start ≡ gap = part_is whole gap (text ++ after) at start h.there refl in
    item_after files file at line gap (text ++ after) h g (lexeme_no_blank text after kind lex) (omega arith)
    ∙ ap (λ r. r >>= item_by files file whole (place_at at line) start) (word_at file whole start (text ++ after) kind (length text) following.there (lexeme_found text after kind lex))
    ∙ cond-false (is_get kind) _ _ (apart_get kind ne)
    ∙ rw (word, space) refl

get_spelling : symbol_of (codes "GET") ≡ Some symbol.Get
unfolding symbol_of
get_spelling = refl

item_get : (files : List File) (file at : ℕ) (line : Bool) (gap after : List ℕ) → At files file at (gap ++ (codes "GET" ++ after)) → IsGap gap (codes "GET" ++ after) → Ends is_name_byte after → item_of files file (place_at at line) ≡ (target_of files file (text_of files file) (at + length gap) (at + length gap + 3) >>= λ t. Ok (lexing.Get (at + length gap) t.0 t.1))
unfolding item_by
item_get files file at line gap after h g end =
    let whole = text_of files file in
    let start = at + length gap in
    let following = after_at files file at gap (codes "GET" ++ after) h in
    let lex : IsLexeme (codes "GET") after (Sign symbol.Get) = Word (codes "GET") after symbol.Get (refl, refl) end get_spelling in
    item_after files file at line gap (codes "GET" ++ after) h g (refl, refl, refl) (omega arith)
    ∙ ap (λ r. r >>= item_by files file whole (place_at at line) start) (word_at file whole start (codes "GET" ++ after) (Sign symbol.Get) 3 following.there (lexeme_found (codes "GET") after (Sign symbol.Get) lex))

item_cut : (files : List File) (file at : ℕ) (line : Bool) (gap rest : List ℕ) → At files file at (gap ++ (codes "/*" ++ rest)) → IsGap gap (codes "/*" ++ rest) → (Holds (codes "*/") rest → ⊥) → item_of files file (place_at at line) ≡ Err (errors.Unterminated file (at + length gap))
unfolding item_of
item_cut files file at line gap rest h g unclosed = ap (λ r. r >>= item_on files file (text_of files file) (place_at at line)) (skip_cut file (text_of files file) at gap rest h.there g unclosed)

item_fault : (files : List File) (file at : ℕ) (line : Bool) (gap bytes : List ℕ) (kind : FaultKind) (n : ℕ) → At files file at (gap ++ bytes) → IsGap gap bytes → IsFaulty bytes kind n → item_of files file (place_at at line) ≡ Err (error_of kind file (at + length gap + n))
item_fault files file at line gap bytes kind n h g faulty =
    elim (refused bytes kind n faulty) [
      | inl p ↦
          let z : at + length gap ≡ at + length gap + n = let n_is : n ≡ 0 = p.4 in omega arith in
          let e : errors.Unterminated file (at + length gap) ≡ error_of kind file (at + length gap + n) = rw (p.3, ← z) refl in
          item_cut files file at line gap p.0 (rw p.1 at h) (rw p.1 at g) p.2 ∙ ap Err e
      | inr r ↦
          let following = after_at files file at gap bytes h in
          item_after files file at line gap bytes h g r.no_blank r.some
          ∙ ap (λ q. q >>= item_by files file (text_of files file) (place_at at line) (at + length gap)) (fault_in file (text_of files file) (at + length gap) bytes kind n following.there r.read)
    ]

-- the file that a GET names

target_skips : (files : List File) (file start at : ℕ) (space rest : List ℕ) → At files file at (space ++ rest) → IsGap space rest → NoBlank rest → target_of files file (text_of files file) start at ≡ target_on files file (text_of files file) start (at + length space)
unfolding target_of
target_skips files file start at space rest h g no_blank =
    ap (λ r. r >>= target_on files file (text_of files file) start) (skip_whole file (text_of files file) at space rest h.there g no_blank)

string_ends : (files : List File) (file start quote : ℕ) (bs : List ℕ) (n : ℕ) → drop quote (text_of files file) ≡ 34 ∷ bs → string_of (34 ∷ bs) ≡ Ok n → target_on files file (text_of files file) start quote ≡ named_on files file (text_of files file) start quote (quote + n)
unfolding string_end_of
string_ends files file start quote bs n e h =
    let whole = text_of files file in
    let begin : begins 34 (drop quote whole) ≡ true = ap (begins 34) e in
    cond-true (begins 34 (drop quote whole)) _ _ begin
    ∙ ap (λ ys. located file quote (string_of ys) >>= (λ m. Ok (quote + m)) >>= named_on files file whole start quote) e
    ∙ ap (λ r. located file quote r >>= (λ m. Ok (quote + m)) >>= named_on files file whole start quote) h

string_fails : (files : List File) (file start quote : ℕ) (bs : List ℕ) (kind : FaultKind) (n : ℕ) → drop quote (text_of files file) ≡ 34 ∷ bs → string_of (34 ∷ bs) ≡ Err (fault_at kind n) → target_on files file (text_of files file) start quote ≡ Err (error_of kind file (quote + n))
unfolding string_end_of
string_fails files file start quote bs kind n e h =
    let whole = text_of files file in
    let begin : begins 34 (drop quote whole) ≡ true = ap (begins 34) e in
    cond-true (begins 34 (drop quote whole)) _ _ begin
    ∙ ap (λ ys. located file quote (string_of ys) >>= (λ m. Ok (quote + m)) >>= named_on files file whole start quote) e
    ∙ ap (λ r. located file quote r >>= (λ m. Ok (quote + m)) >>= named_on files file whole start quote) h

-- by the string that was read
target_string : (files : List File) (file start at : ℕ) (space string after name : List ℕ) → At files file at (space ++ (string ++ after)) → IsGet space string after name → target_of files file (text_of files file) start at ≡ (found_or (errors.GetMissing file start) (source_from string 0 files) >>= λ named. Ok (named, at + length space + length string))
target_string files file start at space string after name h get =
    let whole = text_of files file in
    let quote = at + length space in
    let front : string ++ after ≡ 34 ∷ (get.text ++ 34 ∷ after) = ap (λ ys. ys ++ after) get.quotes ∙ ap (λ ys. 34 ∷ ys) (append_assoc get.text (34 ∷ []) after) in
    let no_blank : NoBlank (string ++ after) = rw front (refl, refl, refl) in
    let following = after_at files file at space (string ++ after) h in
    let n : length (34 ∷ (get.text ++ 34 ∷ [])) ≡ length string = ap length (sym get.quotes) in
    let piece : part whole quote (quote + length string) ≡ string = part_is whole string after quote (quote + length string) following.there refl in
    target_skips files file start at space (string ++ after) h get.space no_blank
    ∙ string_ends files file start quote (get.text ++ 34 ∷ after) (length (34 ∷ (get.text ++ 34 ∷ []))) (following.there ∙ front) (string_whole get.text name after get.spelled get.short)
    ∙ ap (λ m. named_on files file whole start quote (quote + m)) n
    ∙ ap (λ ys. found_or (errors.GetMissing file start) (source_from ys 0 files) >>= λ named. Ok (named, quote + length string)) piece

get_names : (space string after name : List ℕ) → IsGet space string after name → Names string name
get_names space string after name get = rw get.quotes (string_names get.text name get.spelled)

abbrev target_of_found : ℕ → ℕ → ℕ → Option ℕ → Result (ℕ × ℕ) LexError
target_of_found file start following o = found_or (errors.GetMissing file start) o >>= λ named. Ok (named, following)

target_first : (files : List File) (file start at : ℕ) (space string after name : List ℕ) (named : ℕ) → At files file at (space ++ (string ++ after)) → IsGet space string after name → IsFirstNamed files name named → target_of files file (text_of files file) start at ≡ Ok (named, at + length space + length string)
target_first files file start at space string after name named h get first =
    let z : 0 + named ≡ named = omega arith in
    target_string files file start at space string after name h get
    ∙ ap (target_of_found file start (at + length space + length string)) (source_first string name (get_names space string after name get) 0 files named first ∙ ap Some z)

target_unnamed : (files : List File) (file start at : ℕ) (space string after name : List ℕ) → At files file at (space ++ (string ++ after)) → IsGet space string after name → IsUnnamed files name → target_of files file (text_of files file) start at ≡ Err (errors.GetMissing file start)
target_unnamed files file start at space string after name h get unnamed =
    target_string files file start at space string after name h get
    ∙ ap (target_of_found file start (at + length space + length string)) (source_unnamed string name (get_names space string after name get) 0 files unnamed)

no_string : (bytes : List ℕ) → IsNoString bytes → NoBlank bytes × (begins 34 bytes ≡ false)
no_string [] h = (tt, refl)
no_string (b ∷ bs) h = ((h.0, h.1, h.2), ne_eqb b 34 h.3)

target_none : (files : List File) (file start at : ℕ) (space rest : List ℕ) → At files file at (space ++ rest) → IsGap space rest → IsNoString rest → target_of files file (text_of files file) start at ≡ Err (errors.GetMissing file start)
target_none files file start at space rest h g none =
    let following = after_at files file at space rest h in
    let p = no_string rest none in
    let begin : begins 34 (drop (at + length space) (text_of files file)) ≡ false = ap (begins 34) following.there ∙ p.1 in
    target_skips files file start at space rest h g p.0 ∙ cond-false (begins 34 (drop (at + length space) (text_of files file))) _ _ begin

target_cut : (files : List File) (file start at : ℕ) (space rest : List ℕ) → At files file at (space ++ (codes "/*" ++ rest)) → IsGap space (codes "/*" ++ rest) → (Holds (codes "*/") rest → ⊥) → target_of files file (text_of files file) start at ≡ Err (errors.Unterminated file (at + length space))
unfolding target_of
target_cut files file start at space rest h g unclosed =
    ap (λ r. r >>= target_on files file (text_of files file) start) (skip_cut file (text_of files file) at space rest h.there g unclosed)

target_bad : (files : List File) (file start at : ℕ) (space bytes : List ℕ) (kind : FaultKind) (n : ℕ) → At files file at (space ++ bytes) → IsGap space bytes → begins 34 bytes ≡ true → Refused bytes kind n → target_of files file (text_of files file) start at ≡ Err (error_of kind file (at + length space + n))
target_bad files file start at space [] kind n h g begin r = let m : false ≡ true = begin in cc
target_bad files file start at space (b ∷ bs) kind n h g begin r =
    let b_is : b ≡ 34 = eqb-true b 34 begin in
    let following = after_at files file at space (b ∷ bs) h in
    let read : lexeme_in_front (34 ∷ bs) ≡ Err (fault_at kind n) = ap (λ c. lexeme_in_front (c ∷ bs)) (sym b_is) ∙ r.read in
    target_skips files file start at space (b ∷ bs) h g r.no_blank
    ∙ string_fails files file start (at + length space) bs kind n (following.there ∙ ap (λ c. c ∷ bs) b_is) (string_faulty bs (fault_at kind n) read)

blocks_apart : (bytes : List ℕ) → NoBlank bytes → opens_block bytes ≡ true → ⊥
blocks_apart [] h e = let n : false ≡ true = e in cc
blocks_apart (b ∷ bs) h e = both_ways (opens_block (b ∷ bs)) h.2 e

target_faulty : (files : List File) (file start at : ℕ) (space bytes : List ℕ) (kind : FaultKind) (n : ℕ) → At files file at (space ++ bytes) → IsGap space bytes → IsFaultyString bytes kind n → target_of files file (text_of files file) start at ≡ Err (error_of kind file (at + length space + n))
target_faulty files file start at space bytes kind n h g faulty =
    elim (refused bytes kind n faulty.1) [
      | inl p ↦
          let z : at + length space ≡ at + length space + n = let n_is : n ≡ 0 = p.4 in omega arith in
          let e : errors.Unterminated file (at + length space) ≡ error_of kind file (at + length space + n) = rw (p.3, ← z) refl in
          target_cut files file start at space p.0 (rw p.1 at h) (rw p.1 at g) p.2 ∙ ap Err e
      | inr r ↦ elim faulty.0 [
        | inl begin ↦ target_bad files file start at space bytes kind n h g begin r
        | inr block ↦ absurd (blocks_apart bytes r.no_blank block)
      ]
    ]

-- iterations

turn_is : (deeper : Deeper) (files : List File) (file k : ℕ) (place : Position) (before : List Lexeme) (x : Found) → 1 ≤ k → item_of files file place ≡ Ok x → rest_of deeper files file k place before ≡ found_on (rest_of deeper files file (k - 1)) deeper file before x
turn_is deeper files file k place before x some e =
    let s : k ≡ suc (k - 1) = omega arith in
    ap (λ n. rest_of deeper files file n place before) s ∙ ap (λ r. r >>= found_on (rest_of deeper files file (k - 1)) deeper file before) e

turn_fails : (deeper : Deeper) (files : List File) (file k : ℕ) (place : Position) (before : List Lexeme) (x : LexError) → 1 ≤ k → item_of files file place ≡ Err x → rest_of deeper files file k place before ≡ Err x
turn_fails deeper files file k place before x some e =
    let s : k ≡ suc (k - 1) = omega arith in
    ap (λ n. rest_of deeper files file n place before) s ∙ ap (λ r. r >>= found_on (rest_of deeper files file (k - 1)) deeper file before) e

-- the end of a reading, after tokens
abbrev outcome : List Lexeme → List Lexeme → Ending → Result (List Lexeme) LexError
outcome before tokens Whole = Ok (before ++ tokens)
outcome before tokens (Faulty e) = Err e

outcome_more : (before middle tokens : List Lexeme) (ending : Ending) → outcome (before ++ middle) tokens ending ≡ outcome before (middle ++ tokens) ending
outcome_more before middle tokens Whole = ap Ok (append_assoc before middle tokens)
outcome_more before middle tokens (Faulty e) = refl

end_item : (files : List File) (file at : ℕ) (line : Bool) (gap : List ℕ) → IsGap gap [] → At files file at gap → item_of files file (place_at at line) ≡ Ok lexing.End
unfolding item_of
end_item files file at line gap g h =
    let s : at + length gap ≡ length (text_of files file) = h.sum in
    let same : nat_eq (at + length gap) (length (text_of files file)) ≡ true = eq-eqb (at + length gap) (length (text_of files file)) s in
    ap (λ r. r >>= item_on files file (text_of files file) (place_at at line)) (skip_whole file (text_of files file) at gap [] (h.there ∙ sym (append-nil gap)) g tt)
    ∙ cond-true (nat_eq (at + length gap) (length (text_of files file))) _ _ same

end_rest : (deeper : Deeper) (files : List File) (file at : ℕ) (line : Bool) (gap : List ℕ) (before : List Lexeme) (k : ℕ) → IsGap gap [] → At files file at gap → rest_of deeper files file k (place_at at line) before ≡ Ok (before ++ [])
end_rest deeper files file at line gap before zero g h = ap Ok (sym (append-none before))
end_rest deeper files file at line gap before (suc k) g h =
    turn_is deeper files file (suc k) (place_at at line) before lexing.End (omega arith) (end_item files file at line gap g h) ∙ ap Ok (sym (append-none before))

pushed_some : (t : Lexeme) (before : List Lexeme) → length before < 60000 → pushed t before ≡ Ok (before ++ t ∷ [])
pushed_some t before h = cond-true (nat_lt (length before) 60000) _ _ (lt-ltb (length before) 60000 h)

pushed_none : (t : Lexeme) (before : List Lexeme) → 60000 ≤ length before → pushed t before ≡ Err (errors.TooManyTokens t.file t.start)
pushed_none t before h = cond-false (nat_lt (length before) 60000) _ _ (le-ltb (length before) 60000 h)

-- the item of a GET, by the file that it names
get_item : (files : List File) (file at : ℕ) (line : Bool) (gap after : List ℕ) (target : Result (ℕ × ℕ) LexError) → At files file at (gap ++ (codes "GET" ++ after)) → IsGap gap (codes "GET" ++ after) → Ends is_name_byte after → target_of files file (text_of files file) (at + length gap) (at + length gap + 3) ≡ target → item_of files file (place_at at line) ≡ (target >>= λ t. Ok (lexing.Get (at + length gap) t.0 t.1))
get_item files file at line gap after target h g end e =
    item_get files file at line gap after h g end ∙ ap (λ r. r >>= λ t. Ok (lexing.Get (at + length gap) t.0 t.1)) e

-- after the word GET
after_word : (files : List File) (file at : ℕ) (gap after : List ℕ) → At files file at (gap ++ (codes "GET" ++ after)) → At files file (at + length gap + 3) after
after_word files file at gap after h = after_at files file (at + length gap) (codes "GET") after (after_at files file at gap (codes "GET" ++ after) h)

word_short : (gap after : List ℕ) (k : ℕ) → length (gap ++ (codes "GET" ++ after)) ≤ k → (1 ≤ k) × (length after + 1 ≤ k)
word_short gap after k h =
    let l : length (gap ++ (codes "GET" ++ after)) ≡ length gap + length (codes "GET" ++ after) = length-append_ℕ gap (codes "GET" ++ after) in
    (omega arith, omega arith)

first_item : (files : List File) (file at : ℕ) (line : Bool) (gap space string after name : List ℕ) (named : ℕ) → At files file at (gap ++ (codes "GET" ++ (space ++ (string ++ after)))) → IsGap gap (codes "GET" ++ (space ++ (string ++ after))) → IsGet space string after name → IsFirstNamed files name named → item_of files file (place_at at line) ≡ Ok (lexing.Get (at + length gap) named (at + length gap + 3 + length space + length string))
first_item files file at line gap space string after name named h g get first =
    get_item files file at line gap (space ++ (string ++ after)) (Ok (named, at + length gap + 3 + length space + length string)) h g get.word (target_first files file (at + length gap) (at + length gap + 3) space string after name named (after_word files file at gap (space ++ (string ++ after)) h) get first)

deeper_suc : (files : List File) (levels file start named : ℕ) (before : List Lexeme) → deeper_of files (suc levels) file start named before ≡ rest_of (deeper_of files levels) files named (length (text_of files named)) (place_at 0 true) before
unfolding deeper_of file_to_end
deeper_suc files levels file start named before = refl

deeper_zero : (files : List File) (file start named : ℕ) (before : List Lexeme) → deeper_of files zero file start named before ≡ Err (errors.GetTooDeep file start)
unfolding deeper_of
deeper_zero files file start named before = refl

whole_at : (files : List File) (file : ℕ) → At files file 0 (text_of files file)
whole_at files file = record { there = refl; sum = omega arith }

faulty_some : (bytes : List ℕ) (kind : FaultKind) (n : ℕ) → IsFaulty bytes kind n → 1 ≤ length bytes
faulty_some bytes kind n faulty = elim (refused bytes kind n faulty) [
  | inl p ↦ (let l : length bytes ≡ length (codes "/*" ++ p.0) = ap length p.1 in omega arith)
  | inr r ↦ r.some
]

complete : (files : List File) (levels file before at : ℕ) (line : Bool) (bytes : List ℕ) (tokens : List Lexeme) (ending : Ending) → Reads files levels file before at line bytes tokens ending → (acc : List Lexeme) → length acc ≡ before → (k : ℕ) → length bytes ≤ k → At files file at bytes → rest_of (deeper_of files levels) files file k (place_at at line) acc ≡ outcome acc tokens ending
complete files levels file before at line bytes tokens ending (End levels' file' before' at' line' gap g) acc n k few here =
    end_rest (deeper_of files levels') files file' at' line' gap acc k g here
complete files levels file before at line bytes tokens ending (Next levels' file' before' at' line' gap text after kind others ending' g lex ne room h) acc n k few here =
    let t = token file' (at' + length gap) (line' || breaks gap) kind text in
    let l : length (gap ++ (text ++ after)) ≡ length gap + length (text ++ after) = length-append_ℕ gap (text ++ after) in
    let m : length (text ++ after) ≡ length text + length after = length-append_ℕ text after in
    let some : 1 ≤ length text = text_positive text after kind lex in
    let one : length (acc ++ t ∷ []) ≡ before' + 1 = let s : length (acc ++ t ∷ []) ≡ length acc + 1 = length-append_ℕ' acc (t ∷ []) in omega arith in
    let following = after_at files file' (at' + length gap) text after (after_at files file' at' gap (text ++ after) here) in
    turn_is (deeper_of files levels') files file' k (place_at at' line') acc (lexing.Token t) (omega arith) (item_token files file' at' line' gap text after kind here g lex ne)
    ∙ ap (λ r. r >>= rest_of (deeper_of files levels') files file' (k - 1) (place_at t.end false)) (pushed_some t acc (omega arith))
    ∙ complete files levels' file' (before' + 1) (at' + length gap + length text) false after others ending' h (acc ++ t ∷ []) one (k - 1) (omega arith) following
    ∙ outcome_more acc (t ∷ []) others ending'
complete files levels file before at line bytes tokens ending (TooMany levels' file' before' at' line' gap text after kind g lex ne full) acc n k few here =
    let t = token file' (at' + length gap) (line' || breaks gap) kind text in
    let l : length (gap ++ (text ++ after)) ≡ length gap + length (text ++ after) = length-append_ℕ gap (text ++ after) in
    let m : length (text ++ after) ≡ length text + length after = length-append_ℕ text after in
    let some : 1 ≤ length text = text_positive text after kind lex in
    turn_is (deeper_of files levels') files file' k (place_at at' line') acc (lexing.Token t) (omega arith) (item_token files file' at' line' gap text after kind here g lex ne)
    ∙ ap (λ r. r >>= rest_of (deeper_of files levels') files file' (k - 1) (place_at t.end false)) (pushed_none t acc (omega arith))
complete files levels file before at line bytes tokens ending (FaultHere levels' file' before' at' line' gap rest kind following g faulty) acc n k few here =
    let l : length (gap ++ rest) ≡ length gap + length rest = length-append_ℕ gap rest in
    let some : 1 ≤ length rest = faulty_some rest kind following faulty in
    turn_fails (deeper_of files levels') files file' k (place_at at' line') acc _ (omega arith) (item_fault files file' at' line' gap rest kind following here g faulty)
complete files levels file before at line bytes tokens ending (Get levels' file' before' at' line' gap space string after name named inner others ending' g get first deep h) acc n k few here =
    let start = at' + length gap in
    let end = start + 3 + length space + length string in
    let w = word_short gap (space ++ (string ++ after)) k few in
    let s : length (space ++ (string ++ after)) ≡ length space + length (string ++ after) = length-append_ℕ space (string ++ after) in
    let m : length (string ++ after) ≡ length string + length after = length-append_ℕ string after in
    let following = after_at files file' (start + 3 + length space) string after (after_at files file' (start + 3) space (string ++ after) (after_word files file' at' gap (space ++ (string ++ after)) here)) in
    let sum : length (acc ++ inner) ≡ before' + length inner = let q : length (acc ++ inner) ≡ length acc + length inner = length-append_ℕ' acc inner in omega arith in
    let below : deeper_of files (suc levels') file' start named acc ≡ Ok (acc ++ inner) =
    deeper_suc files levels' file' start named acc ∙ complete files levels' named before' 0 true (text_of files named) inner Whole deep acc n (length (text_of files named)) (omega arith) (whole_at files named) in
    turn_is (deeper_of files (suc levels')) files file' k (place_at at' line') acc (lexing.Get start named end) w.0 (first_item files file' at' line' gap space string after name named here g get first)
    ∙ ap (λ r. r >>= rest_of (deeper_of files (suc levels')) files file' (k - 1) (place_at end true)) below
    ∙ complete files (suc levels') file' (before' + length inner) end true after others ending' h (acc ++ inner) sum (k - 1) (omega arith) following
    ∙ outcome_more acc inner others ending'
complete files levels file before at line bytes tokens ending (GetFault levels' file' before' at' line' gap space string after name named inner e g get first deep) acc n k few here =
    let start = at' + length gap in
    let end = start + 3 + length space + length string in
    let w = word_short gap (space ++ (string ++ after)) k few in
    let below : deeper_of files (suc levels') file' start named acc ≡ Err e =
    deeper_suc files levels' file' start named acc ∙ complete files levels' named before' 0 true (text_of files named) inner (Faulty e) deep acc n (length (text_of files named)) (omega arith) (whole_at files named) in
    turn_is (deeper_of files (suc levels')) files file' k (place_at at' line') acc (lexing.Get start named end) w.0 (first_item files file' at' line' gap space string after name named here g get first)
    ∙ ap (λ r. r >>= rest_of (deeper_of files (suc levels')) files file' (k - 1) (place_at end true)) below
complete files levels file before at line bytes tokens ending (GetTooDeep file' before' at' line' gap space string after name named g get first) acc n k few here =
    let start = at' + length gap in
    let end = start + 3 + length space + length string in
    let w = word_short gap (space ++ (string ++ after)) k few in
    turn_is (deeper_of files zero) files file' k (place_at at' line') acc (lexing.Get start named end) w.0 (first_item files file' at' line' gap space string after name named here g get first)
    ∙ ap (λ r. r >>= rest_of (deeper_of files zero) files file' (k - 1) (place_at end true)) (deeper_zero files file' start named acc)
complete files levels file before at line bytes tokens ending (GetUnnamed levels' file' before' at' line' gap space string after name g get unnamed) acc n k few here =
    let w = word_short gap (space ++ (string ++ after)) k few in
    turn_fails (deeper_of files levels') files file' k (place_at at' line') acc _ w.0 (get_item files file' at' line' gap (space ++ (string ++ after)) _ here g get.word (target_unnamed files file' (at' + length gap) (at' + length gap + 3) space string after name (after_word files file' at' gap (space ++ (string ++ after)) here) get unnamed))
complete files levels file before at line bytes tokens ending (GetNoString levels' file' before' at' line' gap space after g end space_gap none) acc n k few here =
    let w = word_short gap (space ++ after) k few in
    turn_fails (deeper_of files levels') files file' k (place_at at' line') acc _ w.0 (get_item files file' at' line' gap (space ++ after) _ here g end (target_none files file' (at' + length gap) (at' + length gap + 3) space after (after_word files file' at' gap (space ++ after) here) space_gap none))
complete files levels file before at line bytes tokens ending (GetFaulty levels' file' before' at' line' gap space rest kind following g end space_gap faulty) acc n k few here =
    let w = word_short gap (space ++ rest) k few in
    turn_fails (deeper_of files levels') files file' k (place_at at' line') acc _ w.0 (get_item files file' at' line' gap (space ++ rest) _ here g end (target_faulty files file' (at' + length gap) (at' + length gap + 3) space rest kind following (after_word files file' at' gap (space ++ rest) here) space_gap faulty))

-- a whole source

read_whole : (files : List File) (main : ℕ) (tokens : List Lexeme) (ending : Ending) → Reads files 8 main 0 0 false (text_of files main) tokens ending → read_of files main ≡ outcome [] tokens ending
unfolding read_of file_to_end
read_whole files main tokens ending h = complete files 8 main 0 0 false (text_of files main) tokens ending h [] refl (length (text_of files main)) (omega arith) (whole_at files main)

pub tokens_read : (files : List File) (main : ℕ) (tokens : List Lexeme) → HasTokens files main tokens → read_of files main ≡ Ok tokens
tokens_read files main tokens h = read_whole files main tokens Whole h

pub fault_read : (files : List File) (main : ℕ) (e : LexError) → HasFault files main e → read_of files main ≡ Err e
fault_read files main e h = read_whole files main h.0 (Faulty e) h.1
