-- From the reader to the definition: what is read of a source are its tokens by definition, or its first fault.
use Rattle.std.proofs.Common.{◌≡◌, ◌≢◌, ◌∙◌, refl, sym, ap, subst, arith, ℕ, zero, suc, ◌+◌, ◌-◌, ◌≤◌, ◌<◌, inl, inr, Bool, true, false, ◌||◌, List, [], ◌∷◌, ◌++◌, length, take, drop, drop-drop, length-drop, Option, Some, None, Result, Ok, Err, cond, nat_eq, nat_lt, append_assoc}
use Rattle.std.specs.Prelude.{codes}
use Rattle.std.proofs.lemmas.Bool.{eqb-true, eqb-false, ltb-true, ltb-false}
use Rattle.bc_lex_tokens.specs.declared.symbol.Symbol.{Symbol}
use Rattle.bc_lex_tokens.specs.declared.symbol.Symbol.TheVariants as symbol
use Rattle.bc_lex_tokens.specs.Token.{Kind, Sign, Name, Number, Character, String, Lexeme}
use Rattle.bc_lex.specs.declared.fault.Fault.{Fault}
use Rattle.bc_lex.specs.declared.fault.FaultKind.{FaultKind}
use Rattle.bc_lex.specs.declared.fault.FaultKind.TheVariants as faults
use Rattle.bc_lex.specs.declared.error.LexError.{LexError}
use Rattle.bc_lex.specs.declared.error.LexError.TheVariants as errors
use Rattle.bc_lex.specs.declared.reading.Position.{Position}
use Rattle.bc_lex.specs.Bytes.{is_name_byte}
use Rattle.bc_lex.specs.Tags.{has_tag}
use Rattle.bc_lex.specs.Gaps.{Holds, breaks, begins, IsGap, Nothing}
use Rattle.bc_lex.specs.Lexemes.{Ends, NoLetter, IsLexeme, Word, Named, Numeral, Constant, Literal, Marked, Bracket, Decimal, Octal, Hexadecimal}
use Rattle.bc_lex.specs.Faults.{OpenComment, LongString, OpenString, BadString}
use Rattle.bc_lex.specs.Files.{File, text_of}
use Rattle.bc_lex.specs.Search.{source_from}
use Rattle.bc_lex.specs.Errors.{error_of}
use Rattle.bc_lex.specs.Reading.{string_of, string_from}
use Rattle.bc_lex.specs.Blank.{gap_of}
use Rattle.bc_lex.specs.Lexeme.{◌>>=◌, lexeme_in_front}
use Rattle.bc_lex.specs.Lexing as lexing
use Rattle.bc_lex.specs.Lexing.{Found, located, found_or, skipped, string_end_of, lexeme_at, part, named_on, target_on, target_of, is_get, item_by, item_on, item_of, pushed, place_at, Deeper, found_on, rest_of, file_to_end, deeper_of, read_of}
use Rattle.bc_lex.specs.Tokens.{IsFirstNamed, IsUnnamed, IsNoString, IsFaultyString, IsGet, Whole, Faulty, token, Reads, End, Next, TooMany, Fault as FaultHere, Get, GetFault, GetTooDeep, GetUnnamed, GetNoString, GetFaulty, HasTokens, HasFault}
use Rattle.bc_lex.proofs.Runs.{take-front, drop-front, length-append_ℕ}
use Rattle.bc_lex.proofs.Gapping.{NoBlank, GapRead, Whole as GapWhole, Cut as GapCut, gap_reads}
use Rattle.bc_lex.proofs.Quoting.{StringRead, Closed, Cut, Spoiled, Long, string_reads}
use Rattle.bc_lex.proofs.Shapes.{Shape, Letters, One, Two, shape, get_spelled}
use Rattle.bc_lex.proofs.Lexemic.{LexemeRead, Found as LexemeFound, Faulty as LexemeFaulty, lexeme_reads}
use Rattle.bc_lex.proofs.Naming.{Names, string_names, source_some, source_none}

-- what follows a first part
pub drop_after : (text front rest : List ℕ) (at n : ℕ) → drop at text ≡ front ++ rest → n ≡ length front → drop (at + n) text ≡ rest
drop_after text front rest at n e n_is = sym (drop-drop n at text) ∙ ap (drop n) e ∙ ap (λ k. drop k (front ++ rest)) n_is ∙ drop-front front rest

-- the first part, by its offsets
pub part_is : (text front rest : List ℕ) (from to : ℕ) → drop from text ≡ front ++ rest → to ≡ from + length front → part text from to ≡ front
part_is text front rest from to e to_is =
    let n : to - from ≡ length front = omega arith in
    ap (λ k. take k (drop from text)) n ∙ ap (take (length front)) e ∙ take-front front rest

-- blanks

pub data SkipRead (file : ℕ) (text : List ℕ) (at : ℕ) : Result ℕ LexError → Type 0 where
  Skipped : (gap rest : List ℕ) (start : ℕ) → drop at text ≡ gap ++ rest → IsGap gap rest → NoBlank rest → start ≡ at + length gap → drop start text ≡ rest → SkipRead file text at (Ok start)
  Unclosed : (gap rest : List ℕ) (n : ℕ) → drop at text ≡ gap ++ (codes "/*" ++ rest) → IsGap gap (codes "/*" ++ rest) → (Holds (codes "*/") rest → ⊥) → n ≡ length gap → SkipRead file text at (Err (errors.Unterminated file (at + n)))

skip_by : (file : ℕ) (text : List ℕ) (at : ℕ) (read : Result ℕ Fault) → GapRead 0 (drop at text) read → SkipRead file text at (located file at read >>= λ n. Ok (at + n))
skip_by file text at read (GapWhole gap rest n e g no_blank n_is) =
    let m : n ≡ length gap = omega arith in
    Skipped gap rest (at + n) e g no_blank (omega arith) (drop_after text gap rest at n e m)
skip_by file text at read (GapCut gap rest n e g unclosed n_is) = Unclosed gap rest n e g unclosed (omega arith)

skip_reads : (file : ℕ) (text : List ℕ) (at : ℕ) → SkipRead file text at (skipped file text at)
unfolding skipped
skip_reads file text at = skip_by file text at (gap_of (drop at text)) (gap_reads (drop at text))

-- the file that a GET names

pub data TargetRead (files : List File) (file start : ℕ) (after : List ℕ) : Result (ℕ × ℕ) LexError → Type 0 where
  Target : (space string rest name : List ℕ) (named following : ℕ) → after ≡ space ++ (string ++ rest) → IsGet space string rest name → IsFirstNamed files name named → following ≡ start + 3 + length space + length string → TargetRead files file start after (Ok (named, following))
  Unnamed : (space string rest name : List ℕ) → after ≡ space ++ (string ++ rest) → IsGet space string rest name → IsUnnamed files name → TargetRead files file start after (Err (errors.GetMissing file start))
  NoString : (space rest : List ℕ) → after ≡ space ++ rest → IsGap space rest → IsNoString rest → TargetRead files file start after (Err (errors.GetMissing file start))
  BadString' : (space bytes : List ℕ) (kind : FaultKind) (following place : ℕ) → after ≡ space ++ bytes → IsGap space bytes → IsFaultyString bytes kind following → place ≡ start + 3 + length space + following → TargetRead files file start after (Err (error_of kind file place))

target_found : (files : List File) (file start : ℕ) (after space string rest name : List ℕ) (following : ℕ) (o : Option ℕ) → after ≡ space ++ (string ++ rest) → IsGet space string rest name → Names string name → following ≡ start + 3 + length space + length string → source_from string 0 files ≡ o → TargetRead files file start after (found_or (errors.GetMissing file start) o >>= λ named. Ok (named, following))
target_found files file start after space string rest name following (Some named) e get names b_is o =
    let found = source_some string name names 0 files named o in
    let k : named ≡ found.0 = let k' : named ≡ 0 + found.0 = found.1 in omega arith in
    Target space string rest name named following e get (rw k found.2) b_is
target_found files file start after space string rest name following None e get names b_is o =
    Unnamed space string rest name e get (source_none string name names 0 files o)

target_string : (files : List File) (file : ℕ) (text : List ℕ) (start quote : ℕ) (after space bs : List ℕ) (read : Result ℕ Fault) → after ≡ space ++ (34 ∷ bs) → IsGap space (34 ∷ bs) → Ends is_name_byte after → quote ≡ start + 3 + length space → drop quote text ≡ 34 ∷ bs → StringRead 256 1 bs read → TargetRead files file start after (located file quote read >>= (λ n. Ok (quote + n)) >>= named_on files file text start quote)
target_string files file text start quote after space bs read e g end q_is there (Closed spelled rest cs n bs_is sp short n_is) =
    let string = 34 ∷ (spelled ++ 34 ∷ []) in
    let l : length (spelled ++ 34 ∷ []) ≡ length spelled + 1 = length-append_ℕ spelled (34 ∷ []) in
    let whole : 34 ∷ bs ≡ string ++ rest = ap (λ ys. 34 ∷ ys) (bs_is ∙ sym (append_assoc spelled (34 ∷ []) rest)) in
    let n_whole : quote + n ≡ quote + length string = omega arith in
    let piece : part text quote (quote + n) ≡ string = part_is text string rest quote (quote + n) (there ∙ whole) n_whole in
    let e' : after ≡ space ++ (string ++ rest) = e ∙ ap (λ ys. space ++ ys) whole in
    let get : IsGet space string rest cs = record { text = spelled; quotes = refl; spelled = sp; short = short; space = rw whole at g; word = rw e' at end } in
    let found = target_found files file start after space string rest cs (quote + n) (source_from string 0 files) e' get (string_names spelled cs sp) (omega arith) refl in
    let P : List ℕ → Type 0 = λ ys. TargetRead files file start after (found_or (errors.GetMissing file start) (source_from ys 0 files) >>= λ named. Ok (named, quote + n)) in
    subst P (sym piece) found
target_string files file text start quote after space bs read e g end q_is there (Cut spelled rest cs bs_is sp short cut) =
    BadString' space (34 ∷ bs) faults.Unterminated 0 (quote + 0) e g (inl refl, rw bs_is (OpenString spelled rest cs sp short cut)) (omega arith)
target_string files file text start quote after space bs read e g end q_is there (Spoiled spelled rest cs n bs_is sp short bad n_is) =
    BadString' space (34 ∷ bs) faults.BadEscape (1 + length spelled) (quote + n) e g (inl refl, rw bs_is (BadString spelled rest cs sp short bad)) (omega arith)
target_string files file text start quote after space bs read e g end q_is there (Long spelled rest cs bs_is sp long) =
    BadString' space (34 ∷ bs) faults.StringTooLong 0 (quote + 0) e g (inl refl, rw bs_is (LongString spelled rest cs sp long)) (omega arith)

target_end : (files : List File) (file : ℕ) (text : List ℕ) (start quote : ℕ) (after space bs : List ℕ) → after ≡ space ++ (34 ∷ bs) → IsGap space (34 ∷ bs) → Ends is_name_byte after → quote ≡ start + 3 + length space → drop quote text ≡ 34 ∷ bs → TargetRead files file start after (string_end_of file text quote >>= named_on files file text start quote)
unfolding string_end_of string_of
target_end files file text start quote after space bs e g end q_is there =
    let read = target_string files file text start quote after space bs (string_from 256 1 bs) e g end q_is there (string_reads 256 1 bs) in
    let P : List ℕ → Type 0 = λ ys. TargetRead files file start after (located file quote (string_from 256 1 (drop 1 ys)) >>= (λ n. Ok (quote + n)) >>= named_on files file text start quote) in
    subst P (sym there) read

target_quote : (files : List File) (file : ℕ) (text : List ℕ) (start quote : ℕ) (after space rest : List ℕ) (t : Bool) → begins 34 rest ≡ t → after ≡ space ++ rest → IsGap space rest → NoBlank rest → Ends is_name_byte after → quote ≡ start + 3 + length space → drop quote text ≡ rest → TargetRead files file start after (cond t (string_end_of file text quote >>= named_on files file text start quote) (Err (errors.GetMissing file start)))
target_quote files file text start quote after space [] true t e g no_blank end q_is there = let n : false ≡ true = t in cc
target_quote files file text start quote after space (b ∷ bs) true t e g no_blank end q_is there =
    let b_is : b ≡ 34 = eqb-true b 34 t in
    target_end files file text start quote after space bs (rw b_is at e) (rw b_is at g) end q_is (rw b_is at there)
target_quote files file text start quote after space [] false t e g no_blank end q_is there = NoString space [] e g tt
target_quote files file text start quote after space (b ∷ bs) false t e g no_blank end q_is there = NoString space (b ∷ bs) e g (no_blank.0, no_blank.1, no_blank.2, eqb-false b 34 t)

target_by : (files : List File) (file : ℕ) (text : List ℕ) (start end : ℕ) (after : List ℕ) (read : Result ℕ LexError) → drop end text ≡ after → end ≡ start + 3 → Ends is_name_byte after → SkipRead file text end read → TargetRead files file start after (read >>= target_on files file text start)
target_by files file text start end after read there end_is ends (Skipped space rest quote e g no_blank q_is at_quote) =
    let e' : after ≡ space ++ rest = sym there ∙ e in
    let cut : begins 34 (drop quote text) ≡ begins 34 rest = ap (begins 34) at_quote in
    let P : Bool → Type 0 = λ t. TargetRead files file start after (cond t (string_end_of file text quote >>= named_on files file text start quote) (Err (errors.GetMissing file start))) in
    subst P (sym cut) (target_quote files file text start quote after space rest (begins 34 rest) refl e' g no_blank ends (omega arith) at_quote)
target_by files file text start end after read there end_is ends (Unclosed space rest n e g unclosed n_is) =
    BadString' space (codes "/*" ++ rest) faults.Unterminated 0 (end + n) (sym there ∙ e) g (inr refl, OpenComment rest unclosed) (omega arith)

target_reads : (files : List File) (file : ℕ) (text : List ℕ) (start end : ℕ) (after : List ℕ) → drop end text ≡ after → end ≡ start + 3 → Ends is_name_byte after → TargetRead files file start after (target_of files file text start end)
unfolding target_of
target_reads files file text start end after there end_is ends = target_by files file text start end after (skipped file text end) there end_is ends (skip_reads file text end)

-- what comes next in a file

pub data ItemRead (files : List File) (file at : ℕ) (line : Bool) (bytes : List ℕ) : Result Found LexError → Type 0 where
  AtEnd : IsGap bytes [] → ItemRead files file at line bytes (Ok lexing.End)
  AToken : (gap text after : List ℕ) (kind : Kind) (t : Lexeme) → bytes ≡ gap ++ (text ++ after) → IsGap gap (text ++ after) → IsLexeme text after kind → kind ≢ Sign symbol.Get → t ≡ token file (at + length gap) (line || breaks gap) kind text → ItemRead files file at line bytes (Ok (lexing.Token t))
  AGet : (gap space string after name : List ℕ) (start named following : ℕ) → bytes ≡ gap ++ (codes "GET" ++ (space ++ (string ++ after))) → IsGap gap (codes "GET" ++ (space ++ (string ++ after))) → IsGet space string after name → IsFirstNamed files name named → start ≡ at + length gap → following ≡ at + length gap + 3 + length space + length string → ItemRead files file at line bytes (Ok (lexing.Get start named following))
  Wrong : (e : LexError) → ((levels before : ℕ) → Reads files levels file before at line bytes [] (Faulty e)) → ItemRead files file at line bytes (Err e)

-- the text of a GET, and what follows it
get_word : (text after : List ℕ) (kind : Kind) → IsLexeme text after kind → kind ≡ Sign symbol.Get → (text ≡ codes "GET") × Ends is_name_byte after
get_word text after kind (Word word rest s name end spelled) e =
    let s_is : s ≡ symbol.Get = cc in
    (get_spelled word (rw s_is at spelled), end)
get_word text after kind (Named word rest name end spelled) e = cc
get_word text after kind (Numeral digits rest n number small) e = cc
get_word text after kind (Constant spelled rest c ch) e = cc
get_word text after kind (Literal spelled rest cs sp short) e = cc
get_word text after kind (Marked sign rest s is_sign tag) e =
    let s_is : s ≡ symbol.Get = cc in
    let text_is : sign ≡ codes "GET" = get_spelled sign (rw s_is at is_sign.spelled) in
    let letter : NoLetter (codes "GET") = rw text_is at is_sign.sign in
    let n : true ≡ false = letter in cc
get_word text after kind (Bracket bracket tag rest s spelled has all end) e =
    let s_is : s ≡ symbol.Get = cc in
    let n : false ≡ true = ap has_tag (sym s_is) ∙ has in cc

item_get : (files : List File) (file at : ℕ) (line : Bool) (bytes gap after : List ℕ) (start : ℕ) (read : Result (ℕ × ℕ) LexError) → bytes ≡ gap ++ (codes "GET" ++ after) → IsGap gap (codes "GET" ++ after) → Ends is_name_byte after → start ≡ at + length gap → TargetRead files file start after read → ItemRead files file at line bytes (read >>= λ t. Ok (lexing.Get start t.0 t.1))
item_get files file at line bytes gap after start read e g end s_is (Target space string rest name named following after_is get first b_is) =
    AGet gap space string rest name start named following (e ∙ ap (λ ys. gap ++ (codes "GET" ++ ys)) after_is) (rw after_is at g) get first s_is (omega arith)
item_get files file at line bytes gap after start read e g end s_is (Unnamed space string rest name after_is get unnamed) =
    Wrong (errors.GetMissing file start) (λ levels before. rw (e, after_is, s_is) (GetUnnamed levels file before at line gap space string rest name (rw after_is at g) get unnamed))
item_get files file at line bytes gap after start read e g end s_is (NoString space rest after_is space_gap none) =
    Wrong (errors.GetMissing file start) (λ levels before. rw (e, after_is, s_is) (GetNoString levels file before at line gap space rest (rw after_is at g) (rw after_is at end) space_gap none))
item_get files file at line bytes gap after start read e g end s_is (BadString' space rest kind following place after_is space_gap faulty place_is) =
    let p : place ≡ at + length gap + 3 + length space + following = omega arith in
    Wrong (error_of kind file place) (λ levels before. rw (e, after_is, p) (GetFaulty levels file before at line gap space rest kind following (rw after_is at g) (rw after_is at end) space_gap faulty))

pub no_get : (kind : Kind) → is_get kind ≡ false → kind ≢ Sign symbol.Get
no_get kind h e = let n : is_get (Sign symbol.Get) ≡ false = rw e at h in let m : true ≡ false = n in cc

item_kind : (files : List File) (file : ℕ) (whole : List ℕ) (place : Position) (bytes gap text after : List ℕ) (kind : Kind) (start end : ℕ) (t : Bool) → is_get kind ≡ t → (is_get kind ≡ true → kind ≡ Sign symbol.Get) → drop place.at whole ≡ bytes → bytes ≡ gap ++ (text ++ after) → IsGap gap (text ++ after) → IsLexeme text after kind → start ≡ place.at + length gap → end ≡ start + length text → drop start whole ≡ text ++ after → ItemRead files file place.at place.line bytes (cond t (target_of files file whole start end >>= (λ u. Ok (lexing.Get start u.0 u.1))) (Ok (lexing.Token (record { kind = kind; text = part whole start end; file = file; start = start; end = end; line_before = place.line || breaks (part whole place.at start) }))))
item_kind files file whole place bytes gap text after kind start end true is is_kind there e g lex s_is end_is at_start =
    let w = get_word text after kind lex (is_kind is) in
    let end_three : end ≡ start + 3 = end_is ∙ ap (λ ys. start + length ys) w.0 in
    let following : drop end whole ≡ after = ap (λ k. drop k whole) end_is ∙ drop_after whole text after start (length text) at_start refl in
    item_get files file place.at place.line bytes gap after start (target_of files file whole start end) (e ∙ ap (λ ys. gap ++ (ys ++ after)) w.0) (rw w.0 at g) w.1 s_is (target_reads files file whole start end after following end_three w.1)
item_kind files file whole place bytes gap text after kind start end false is is_kind there e g lex s_is end_is at_start =
    let word : part whole start end ≡ text = part_is whole text after start end at_start end_is in
    let space : part whole place.at start ≡ gap = part_is whole gap (text ++ after) place.at start (there ∙ e) s_is in
    AToken gap text after kind _ e g lex (no_get kind is) (rw (word, space, end_is, s_is) refl)

get_symbol : (s : Symbol) → is_get (Sign s) ≡ true → s ≡ symbol.Get
get_symbol symbol.Get h = refl
get_symbol _ h = let n : false ≡ true = h in cc

get_kind : (kind : Kind) → is_get kind ≡ true → kind ≡ Sign symbol.Get
get_kind (Sign s) h = ap Sign (get_symbol s h)
get_kind (Name text) h = let n : false ≡ true = h in cc
get_kind (Number k) h = let n : false ≡ true = h in cc
get_kind (Character c) h = let n : false ≡ true = h in cc
get_kind (String text) h = let n : false ≡ true = h in cc

pub append-nil : (xs : List ℕ) → xs ++ [] ≡ xs
append-nil [] = refl
append-nil (x ∷ xs) = ap (λ ys. x ∷ ys) (append-nil xs)

item_lexeme : (files : List File) (file : ℕ) (whole : List ℕ) (place : Position) (bytes gap rest : List ℕ) (start : ℕ) (read : Result (Kind × ℕ) Fault) → drop place.at whole ≡ bytes → bytes ≡ gap ++ rest → IsGap gap rest → start ≡ place.at + length gap → drop start whole ≡ rest → LexemeRead rest read → ItemRead files file place.at place.line bytes (located file start read >>= (λ x. Ok (x.0, start + x.1)) >>= item_by files file whole place start)
unfolding item_by
item_lexeme files file whole place bytes gap rest start read there e g s_is at_start (LexemeFound text after kind n rest_is lex n_is) =
    let e' : bytes ≡ gap ++ (text ++ after) = e ∙ ap (λ ys. gap ++ ys) rest_is in
    let end_is : start + n ≡ start + length text = omega arith in
    item_kind files file whole place bytes gap text after kind start (start + n) (is_get kind) refl (get_kind kind) there e' (rw rest_is at g) lex s_is end_is (at_start ∙ rest_is)
item_lexeme files file whole place bytes gap rest start read there e g s_is at_start (LexemeFaulty kind at faulty) =
    Wrong (error_of kind file (start + at)) (λ levels before. rw (e, s_is) (FaultHere levels file before place.at place.line gap rest kind at g faulty))

item_there : (files : List File) (file : ℕ) (whole : List ℕ) (place : Position) (bytes gap : List ℕ) (b : ℕ) (bs : List ℕ) (start : ℕ) → drop place.at whole ≡ bytes → bytes ≡ gap ++ (b ∷ bs) → IsGap gap (b ∷ bs) → NoBlank (b ∷ bs) → start ≡ place.at + length gap → drop start whole ≡ b ∷ bs → ItemRead files file place.at place.line bytes (lexeme_at file whole start >>= item_by files file whole place start)
unfolding lexeme_at
item_there files file whole place bytes gap b bs start there e g no_blank s_is at_start =
    let read = item_lexeme files file whole place bytes gap (b ∷ bs) start (lexeme_in_front (b ∷ bs)) there e g s_is at_start (lexeme_reads b bs no_blank.0 no_blank.1 no_blank.2) in
    let P : List ℕ → Type 0 = λ ys. ItemRead files file place.at place.line bytes (located file start (lexeme_in_front ys) >>= (λ x. Ok (x.0, start + x.1)) >>= item_by files file whole place start) in
    subst P (sym at_start) read

item_rest : (files : List File) (file : ℕ) (whole : List ℕ) (place : Position) (bytes gap rest : List ℕ) (start : ℕ) (t : Bool) → nat_eq start (length whole) ≡ t → drop place.at whole ≡ bytes → bytes ≡ gap ++ rest → IsGap gap rest → NoBlank rest → start ≡ place.at + length gap → drop start whole ≡ rest → start + length rest ≡ length whole → ItemRead files file place.at place.line bytes (cond t (Ok lexing.End) (lexeme_at file whole start >>= item_by files file whole place start))
item_rest files file whole place bytes gap [] start true t there e g no_blank s_is at_start sum =
    AtEnd (let same : bytes ≡ gap = e ∙ append-nil gap in rw same g)
item_rest files file whole place bytes gap (b ∷ bs) start true t there e g no_blank s_is at_start sum =
    let same : start ≡ length whole = eqb-true start (length whole) t in absurd (omega arith)
item_rest files file whole place bytes gap [] start false t there e g no_blank s_is at_start sum =
    absurd (eqb-false start (length whole) t (omega arith))
item_rest files file whole place bytes gap (b ∷ bs) start false t there e g no_blank s_is at_start sum =
    item_there files file whole place bytes gap b bs start there e g no_blank s_is at_start

item_start : (files : List File) (file : ℕ) (whole : List ℕ) (place : Position) (read : Result ℕ LexError) → place.at ≤ length whole → SkipRead file whole place.at read → ItemRead files file place.at place.line (drop place.at whole) (read >>= item_on files file whole place)
item_start files file whole place read within (Skipped gap rest start e g no_blank s_is at_start) =
    let l : length (drop place.at whole) ≡ length whole - place.at = length-drop place.at whole in
    let m : length (drop place.at whole) ≡ length gap + length rest = ap length e ∙ length-append_ℕ gap rest in
    item_rest files file whole place (drop place.at whole) gap rest start (nat_eq start (length whole)) refl refl e g no_blank s_is at_start (omega arith)
item_start files file whole place read within (Unclosed gap rest n e g unclosed n_is) =
    let p : place.at + n ≡ place.at + length gap + 0 = omega arith in
    Wrong (errors.Unterminated file (place.at + n)) (λ levels before. rw (e, p) (FaultHere levels file before place.at place.line gap (codes "/*" ++ rest) faults.Unterminated 0 g (OpenComment rest unclosed)))

item_reads : (files : List File) (file : ℕ) (place : Position) → place.at ≤ length (text_of files file) → ItemRead files file place.at place.line (drop place.at (text_of files file)) (item_of files file place)
unfolding item_of
item_reads files file place within = item_start files file (text_of files file) place (skipped file (text_of files file) place.at) within (skip_reads file (text_of files file) place.at)

-- the rest of a file, from some offset

pub data RestRead (files : List File) (levels file : ℕ) (before : List Lexeme) (at : ℕ) (line : Bool) (bytes : List ℕ) : Result (List Lexeme) LexError → Type 0 where
  All : (tokens all : List Lexeme) → all ≡ before ++ tokens → Reads files levels file (length before) at line bytes tokens Whole → RestRead files levels file before at line bytes (Ok all)
  Fails : (tokens : List Lexeme) (e : LexError) → Reads files levels file (length before) at line bytes tokens (Faulty e) → RestRead files levels file before at line bytes (Err e)

-- reading the file that a GET names
pub data DeepRead (files : List File) (levels file start named : ℕ) (before : List Lexeme) : Result (List Lexeme) LexError → Type 0 where
  TooDeep : levels ≡ 0 → DeepRead files levels file start named before (Err (errors.GetTooDeep file start))
  Deeper' : (l : ℕ) (read : Result (List Lexeme) LexError) → levels ≡ suc l → RestRead files l named before 0 true (text_of files named) read → DeepRead files levels file start named before read

abbrev Deep : List File → ℕ → Type 0
Deep files levels = (file start named : ℕ) (before : List Lexeme) → DeepRead files levels file start named before (deeper_of files levels file start named before)

-- the rest of a file from any offset, if it is right for fewer iterations
abbrev Again : List File → ℕ → ℕ → (Position → List Lexeme → Result (List Lexeme) LexError) → ℕ → Type 0
Again files levels file again k = (place : Position) (before : List Lexeme) → place.at ≤ length (text_of files file) → length (drop place.at (text_of files file)) ≤ k → RestRead files levels file before place.at place.line (drop place.at (text_of files file)) (again place before)

shape_positive : (text : List ℕ) (s : Symbol) → Shape text s → 1 ≤ length text
shape_positive text s (Letters b bs s' letter tag) = omega arith
shape_positive text s (One b s' sign tag) = omega arith
shape_positive text s (Two b c s' sign dollar) = omega arith

pub length-append_ℕ' : (xs ys : List Lexeme) → length (xs ++ ys) ≡ length xs + length ys
length-append_ℕ' [] ys = omega arith
length-append_ℕ' (x ∷ xs) ys = let ih : length (xs ++ ys) ≡ length xs + length ys = length-append_ℕ' xs ys in omega arith

pub text_positive : (text after : List ℕ) (kind : Kind) → IsLexeme text after kind → 1 ≤ length text
text_positive text after kind (Word [] rest s name end spelled) = absurd name
text_positive text after kind (Word (b ∷ bs) rest s name end spelled) = omega arith
text_positive text after kind (Named [] rest name end spelled) = absurd name
text_positive text after kind (Named (b ∷ bs) rest name end spelled) = omega arith
text_positive text after kind (Numeral digits rest n (Decimal b bs r all end) small) = omega arith
text_positive text after kind (Numeral digits rest n (Octal b bs r all end) small) = omega arith
text_positive text after kind (Numeral digits rest n (Hexadecimal b bs r all end) small) = omega arith
text_positive text after kind (Constant spelled rest c ch) = omega arith
text_positive text after kind (Literal spelled rest cs sp short) = omega arith
text_positive text after kind (Marked sign rest s is_sign tag) = shape_positive sign s (shape sign s is_sign.spelled)
text_positive text after kind (Bracket bracket tag rest s spelled has all end) =
    let p = shape_positive bracket s (shape bracket s spelled) in
    let l : length (bracket ++ tag) ≡ length bracket + length tag = length-append_ℕ bracket tag in
    omega arith

token_all : (files : List File) (levels file at : ℕ) (line : Bool) (before : List Lexeme) (bytes gap text after : List ℕ) (kind : Kind) (t : Lexeme) (read : Result (List Lexeme) LexError) → length before < 60000 → bytes ≡ gap ++ (text ++ after) → IsGap gap (text ++ after) → IsLexeme text after kind → kind ≢ Sign symbol.Get → t ≡ token file (at + length gap) (line || breaks gap) kind text → RestRead files levels file (before ++ t ∷ []) t.end false after read → RestRead files levels file before at line bytes read
token_all files levels file at line before bytes gap text after kind t read room e g lex ne t_is (All tokens all all_is h) =
    let n : length (before ++ t ∷ []) ≡ length before + 1 = length-append_ℕ' before (t ∷ []) in
    let end : t.end ≡ at + length gap + length text = ap (λ x. x.end) t_is in
    let h' : Reads files levels file (length before + 1) (at + length gap + length text) false after tokens Whole = rw (n, end) at h in
    let step = Next levels file (length before) at line gap text after kind tokens Whole g lex ne room h' in
    let P : Lexeme → Type 0 = λ x. Reads files levels file (length before) at line (gap ++ (text ++ after)) (x ∷ tokens) Whole in
    All (t ∷ tokens) all (all_is ∙ append_assoc before (t ∷ []) tokens) (rw e (subst P (sym t_is) step))
token_all files levels file at line before bytes gap text after kind t read room e g lex ne t_is (Fails tokens x h) =
    let n : length (before ++ t ∷ []) ≡ length before + 1 = length-append_ℕ' before (t ∷ []) in
    let end : t.end ≡ at + length gap + length text = ap (λ y. y.end) t_is in
    let h' : Reads files levels file (length before + 1) (at + length gap + length text) false after tokens (Faulty x) = rw (n, end) at h in
    let step = Next levels file (length before) at line gap text after kind tokens (Faulty x) g lex ne room h' in
    let P : Lexeme → Type 0 = λ y. Reads files levels file (length before) at line (gap ++ (text ++ after)) (y ∷ tokens) (Faulty x) in
    Fails (t ∷ tokens) x (rw e (subst P (sym t_is) step))

get_all : (files : List File) (l file at : ℕ) (line : Bool) (before inner middle : List Lexeme) (bytes gap space string after name : List ℕ) (named following : ℕ) (read : Result (List Lexeme) LexError) → bytes ≡ gap ++ (codes "GET" ++ (space ++ (string ++ after))) → IsGap gap (codes "GET" ++ (space ++ (string ++ after))) → IsGet space string after name → IsFirstNamed files name named → following ≡ at + length gap + 3 + length space + length string → middle ≡ before ++ inner → Reads files l named (length before) 0 true (text_of files named) inner Whole → RestRead files (suc l) file middle following true after read → RestRead files (suc l) file before at line bytes read
get_all files l file at line before inner middle bytes gap space string after name named following read e g get first b_is m_is deep (All tokens all all_is h) =
    let n : length middle ≡ length before + length inner = ap length m_is ∙ length-append_ℕ' before inner in
    let h' : Reads files (suc l) file (length before + length inner) (at + length gap + 3 + length space + length string) true after tokens Whole = rw (n, b_is) at h in
    let step = Get l file (length before) at line gap space string after name named inner tokens Whole g get first deep h' in
    All (inner ++ tokens) all (all_is ∙ ap (λ ys. ys ++ tokens) m_is ∙ append_assoc before inner tokens) (rw e step)
get_all files l file at line before inner middle bytes gap space string after name named following read e g get first b_is m_is deep (Fails tokens x h) =
    let n : length middle ≡ length before + length inner = ap length m_is ∙ length-append_ℕ' before inner in
    let h' : Reads files (suc l) file (length before + length inner) (at + length gap + 3 + length space + length string) true after tokens (Faulty x) = rw (n, b_is) at h in
    let step = Get l file (length before) at line gap space string after name named inner tokens (Faulty x) g get first deep h' in
    Fails (inner ++ tokens) x (rw e step)

pub append-none : (xs : List Lexeme) → xs ++ [] ≡ xs
append-none [] = refl
append-none (x ∷ xs) = ap (λ ys. x ∷ ys) (append-none xs)

no_bytes : (xs : List ℕ) → length xs ≤ 0 → xs ≡ []
no_bytes [] h = refl
no_bytes (x ∷ xs) h = absurd (omega arith)

-- the offset of an item in the file
record Stands (files : List File) (file k : ℕ) (place : Position) (bytes : List ℕ) : Type 0 where
  there : drop place.at (text_of files file) ≡ bytes
  sum : place.at + length bytes ≡ length (text_of files file)
  few : length bytes ≤ suc k

again_at : (files : List File) (levels file : ℕ) (again : Position → List Lexeme → Result (List Lexeme) LexError) (k : ℕ) (place : Position) (bytes : List ℕ) → Again files levels file again k → Stands files file k place bytes → (front after : List ℕ) (at : ℕ) (line : Bool) (before : List Lexeme) → bytes ≡ front ++ after → 1 ≤ length front → at ≡ place.at + length front → RestRead files levels file before at line after (again (place_at at line) before)
again_at files levels file again k place bytes go here front after at line before e some at_is =
    let following : drop at (text_of files file) ≡ after = ap (λ n. drop n (text_of files file)) at_is ∙ drop_after (text_of files file) front after place.at (length front) (here.there ∙ e) refl in
    let l : length bytes ≡ length front + length after = ap length e ∙ length-append_ℕ front after in
    let sum : place.at + length bytes ≡ length (text_of files file) = here.sum in
    let few : length bytes ≤ suc k = here.few in
    let n : length (drop at (text_of files file)) ≡ length after = ap length following in
    rw following at (go (place_at at line) before (omega arith) (omega arith))

push_read : (files : List File) (levels file : ℕ) (again : Position → List Lexeme → Result (List Lexeme) LexError) (k : ℕ) (place : Position) (bytes : List ℕ) (before : List Lexeme) (gap text after : List ℕ) (kind : Kind) (t : Lexeme) (b : Bool) → nat_lt (length before) 60000 ≡ b → Again files levels file again k → Stands files file k place bytes → bytes ≡ gap ++ (text ++ after) → IsGap gap (text ++ after) → IsLexeme text after kind → kind ≢ Sign symbol.Get → t ≡ token file (place.at + length gap) (place.line || breaks gap) kind text → RestRead files levels file before place.at place.line bytes (cond b (Ok (before ++ t ∷ [])) (Err (errors.TooManyTokens t.file t.start)) >>= again (place_at t.end false))
push_read files levels file again k place bytes before gap text after kind t true room go here e g lex ne t_is =
    let n : length before < 60000 = ltb-true (length before) 60000 room in
    let some : 1 ≤ length text = text_positive text after kind lex in
    let l : length (gap ++ text) ≡ length gap + length text = length-append_ℕ gap text in
    let end : t.end ≡ place.at + length gap + length text = ap (λ x. x.end) t_is in
    let next_read = again_at files levels file again k place bytes go here (gap ++ text) after t.end false (before ++ t ∷ []) (e ∙ sym (append_assoc gap text after)) (omega arith) (omega arith) in
    token_all files levels file place.at place.line before bytes gap text after kind t (again (place_at t.end false) (before ++ t ∷ [])) n e g lex ne t_is next_read
push_read files levels file again k place bytes before gap text after kind t false full go here e g lex ne t_is =
    let n : 60000 ≤ length before = ltb-false (length before) 60000 full in
    let x : errors.TooManyTokens t.file t.start ≡ errors.TooManyTokens file (place.at + length gap) = ap (λ y. errors.TooManyTokens y.file y.start) t_is in
    Fails [] (errors.TooManyTokens t.file t.start) (rw (e, x) (TooMany levels file (length before) place.at place.line gap text after kind g lex ne n))

deep_read : (files : List File) (levels file : ℕ) (again : Position → List Lexeme → Result (List Lexeme) LexError) (k : ℕ) (place : Position) (bytes : List ℕ) (before : List Lexeme) (gap space string after name : List ℕ) (start named following : ℕ) (read : Result (List Lexeme) LexError) → Again files levels file again k → Stands files file k place bytes → bytes ≡ gap ++ (codes "GET" ++ (space ++ (string ++ after))) → IsGap gap (codes "GET" ++ (space ++ (string ++ after))) → IsGet space string after name → IsFirstNamed files name named → start ≡ place.at + length gap → following ≡ place.at + length gap + 3 + length space + length string → DeepRead files levels file start named before read → RestRead files levels file before place.at place.line bytes (read >>= again (place_at following true))
deep_read files levels file again k place bytes before gap space string after name start named following read go here e g get first s_is b_is (TooDeep zero_is) =
    Fails [] (errors.GetTooDeep file start) (rw (e, zero_is, s_is) (GetTooDeep file (length before) place.at place.line gap space string after name named g get first))
deep_read files levels file again k place bytes before gap space string after name start named following read go here e g get first s_is b_is (Deeper' l inner_read l_is (All inner middle m_is deep)) =
    let front = gap ++ (codes "GET" ++ (space ++ string)) in
    let e' : bytes ≡ front ++ after = e ∙ sym (append_assoc gap (codes "GET" ++ (space ++ string)) after ∙ ap (λ ys. gap ++ (codes "GET" ++ ys)) (append_assoc space string after)) in
    let n : length front ≡ length gap + length (codes "GET" ++ (space ++ string)) = length-append_ℕ gap (codes "GET" ++ (space ++ string)) in
    let m : length (space ++ string) ≡ length space + length string = length-append_ℕ space string in
    let next_read = again_at files levels file again k place bytes go here front after following true middle e' (omega arith) (omega arith) in
    let P : ℕ → Type 0 = λ x. RestRead files x file middle following true after (again (place_at following true) middle) → RestRead files x file before place.at place.line bytes (again (place_at following true) middle) in
    let go_on : P (suc l) = λ h. get_all files l file place.at place.line before inner middle bytes gap space string after name named following (again (place_at following true) middle) e g get first b_is m_is deep h in
    subst P (sym l_is) go_on next_read
deep_read files levels file again k place bytes before gap space string after name start named following read go here e g get first s_is b_is (Deeper' l inner_read l_is (Fails inner x deep)) =
    Fails inner x (rw (e, l_is) (GetFault l file (length before) place.at place.line gap space string after name named inner x g get first deep))

turn_read : (files : List File) (levels file : ℕ) (again : Position → List Lexeme → Result (List Lexeme) LexError) (k : ℕ) (place : Position) (bytes : List ℕ) (before : List Lexeme) (read : Result Found LexError) → Deep files levels → Again files levels file again k → Stands files file k place bytes → ItemRead files file place.at place.line bytes read → RestRead files levels file before place.at place.line bytes (read >>= found_on again (deeper_of files levels) file before)
turn_read files levels file again k place bytes before read deep go here (AtEnd g) = All [] before (sym (append-none before)) (End levels file (length before) place.at place.line bytes g)
turn_read files levels file again k place bytes before read deep go here (AToken gap text after kind t e g lex ne t_is) =
    push_read files levels file again k place bytes before gap text after kind t (nat_lt (length before) 60000) refl go here e g lex ne t_is
turn_read files levels file again k place bytes before read deep go here (AGet gap space string after name start named following e g get first s_is b_is) =
    deep_read files levels file again k place bytes before gap space string after name start named following (deeper_of files levels file start named before) go here e g get first s_is b_is (deep file start named before)
turn_read files levels file again k place bytes before read deep go here (Wrong e h) = Fails [] e (h levels (length before))

rest_reads : (files : List File) (levels file : ℕ) → Deep files levels → (k : ℕ) → Again files levels file (rest_of (deeper_of files levels) files file k) k
rest_reads files levels file deep zero place before within few =
    let none : drop place.at (text_of files file) ≡ [] = no_bytes (drop place.at (text_of files file)) few in
    rw none (All [] before (sym (append-none before)) (End levels file (length before) place.at place.line [] (Nothing [])))
rest_reads files levels file deep (suc k) place before within few =
    let bytes = drop place.at (text_of files file) in
    let l : length bytes ≡ length (text_of files file) - place.at = length-drop place.at (text_of files file) in
    let here : Stands files file k place bytes = record { there = refl; sum = omega arith; few = few } in
    turn_read files levels file (rest_of (deeper_of files levels) files file k) k place bytes before (item_of files file place) deep (rest_reads files levels file deep k) here (item_reads files file place within)

file_reads : (files : List File) (levels : ℕ) → Deep files levels → (file : ℕ) (line : Bool) (before : List Lexeme) → RestRead files levels file before 0 line (text_of files file) (file_to_end (deeper_of files levels) files file line before)
unfolding file_to_end
file_reads files levels deep file line before = rest_reads files levels file deep (length (text_of files file)) (place_at 0 line) before (omega arith) (omega arith)

deep_reads : (files : List File) (levels : ℕ) → Deep files levels
unfolding deeper_of
deep_reads files zero file start named before = TooDeep refl
deep_reads files (suc l) file start named before = Deeper' l _ refl (file_reads files l (deep_reads files l) named true before)

-- a whole source
pub data SourceRead (files : List File) (main : ℕ) : Result (List Lexeme) LexError → Type 0 where
  HasAll : (tokens : List Lexeme) → HasTokens files main tokens → SourceRead files main (Ok tokens)
  HasFirst : (e : LexError) → HasFault files main e → SourceRead files main (Err e)

source_read : (files : List File) (main : ℕ) (read : Result (List Lexeme) LexError) → RestRead files 8 main [] 0 false (text_of files main) read → SourceRead files main read
source_read files main read (All tokens all all_is h) = rw all_is (HasAll tokens h)
source_read files main read (Fails tokens e h) = HasFirst e (tokens, h)

pub source_reads : (files : List File) (main : ℕ) → SourceRead files main (read_of files main)
unfolding read_of
source_reads files main = source_read files main (file_to_end (deeper_of files 8) files main false []) (file_reads files 8 (deep_reads files 8) main false [])
