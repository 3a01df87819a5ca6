-- From the two laws (Sound and Complete) to the clauses of `lex`.
use Rattle.std.proofs.Common.{◌≡◌, refl, arith, ℕ, ◌+◌, ◌≤◌, ◌⊎◌, inl, inr, Bool, false, true, List, ◌++◌, length, Result, Ok, Err, IfOk}
use Rattle.std.specs.Prelude.{IfErr, MatchResult}
use Rattle.bc_lex_tokens.specs.Token.{Lexeme}
use Rattle.bc_lex.specs.declared.error.LexError.{LexError}
use Rattle.bc_lex.specs.declared.error.LexError.TheVariants as errors
use Rattle.bc_lex.specs.Files.{File}
use Rattle.bc_lex.specs.Lexing.{Fails, read_of}
use Rattle.bc_lex.specs.Lexing as lexing
use Rattle.bc_lex.specs.Tokens.{Ending, Reads, End, Next, TooMany, Fault, Get, GetFault, GetTooDeep, GetUnnamed, GetNoString, GetFaulty, HasTokens, HasFault}
use Rattle.bc_lex.proofs.Sound.{SourceRead, HasAll, HasFirst, source_reads, length-append_ℕ'}
use Rattle.bc_lex.proofs.Complete.{tokens_read, fault_read}

has_tokens : (files : List File) (main : ℕ) (read : Result (List Lexeme) LexError) (tokens : List Lexeme) → SourceRead files main read → read ≡ Ok tokens → HasTokens files main tokens
has_tokens files main read tokens (HasAll all h) e = let same : all ≡ tokens = cc in rw same at h
has_tokens files main read tokens (HasFirst x h) e = cc

has_fault : (files : List File) (main : ℕ) (read : Result (List Lexeme) LexError) (x : LexError) → SourceRead files main read → read ≡ Err x → HasFault files main x
has_fault files main read x (HasAll all h) e = cc
has_fault files main read x (HasFirst y h) e = let same : y ≡ x = cc in rw same at h

fails_is : {Y : Type 0} (e : LexError) (read : Result Y LexError) → Fails e read → (e ≡ errors.Memory) ⊎ (read ≡ Err e)
fails_is errors.Memory read h = inl refl
fails_is (errors.BadCharacter file at) read h = inr h
fails_is (errors.NumberTooLarge file at) read h = inr h
fails_is (errors.StringTooLong file at) read h = inr h
fails_is (errors.Unterminated file at) read h = inr h
fails_is (errors.BadEscape file at) read h = inr h
fails_is (errors.GetMissing file at) read h = inr h
fails_is (errors.GetTooDeep file at) read h = inr h
fails_is (errors.TooManyTokens file at) read h = inr h

pub answers_tokens : {X : Type 0} (files : List File) (main : ℕ) (view : X → List Lexeme) (r : Result X LexError) → lexing.ReadsAs view r (read_of files main) → IfOk r (λ v. HasTokens files main (view v))
answers_tokens files main view (Ok v) h = has_tokens files main (read_of files main) (view v) (source_reads files main) h
answers_tokens files main view (Err e) h = tt

pub answers_fault : {X : Type 0} (files : List File) (main : ℕ) (view : X → List Lexeme) (r : Result X LexError) → lexing.ReadsAs view r (read_of files main) → IfErr r (λ e. (e ≡ errors.Memory) ⊎ HasFault files main e)
answers_fault files main view (Ok v) h = tt
answers_fault files main view (Err e) h = elim (fails_is e (read_of files main) h) [
  | inl memory ↦ inl memory
  | inr read ↦ inr (has_fault files main (read_of files main) e (source_reads files main) read)
]

pub answers_only_tokens : {X : Type 0} (files : List File) (main : ℕ) (view : X → List Lexeme) (r : Result X LexError) → lexing.ReadsAs view r (read_of files main) → (tokens : List Lexeme) → HasTokens files main tokens → MatchResult r (λ v. view v ≡ tokens) (λ e. e ≡ errors.Memory)
answers_only_tokens files main view (Ok v) h tokens has = let read : read_of files main ≡ Ok tokens = tokens_read files main tokens has in cc
answers_only_tokens files main view (Err e) h tokens has =
    let read : read_of files main ≡ Ok tokens = tokens_read files main tokens has in
    elim (fails_is e (read_of files main) h) [ inl memory ↦ memory | inr other ↦ cc ]

pub answers_only_fault : {X : Type 0} (files : List File) (main : ℕ) (view : X → List Lexeme) (r : Result X LexError) → lexing.ReadsAs view r (read_of files main) → (x : LexError) → HasFault files main x → MatchResult r (λ v. ⊥) (λ e. (e ≡ x) ⊎ (e ≡ errors.Memory))
answers_only_fault files main view (Ok v) h x has = let read : read_of files main ≡ Err x = fault_read files main x has in cc
answers_only_fault files main view (Err e) h x has =
    let read : read_of files main ≡ Err x = fault_read files main x has in
    elim (fails_is e (read_of files main) h) [ inl memory ↦ inr memory | inr other ↦ (let same : e ≡ x = cc in inl same) ]

-- no list has more than 60,000 tokens
at_most : (files : List File) (levels file before at : ℕ) (line : Bool) (bytes : List ℕ) (tokens : List Lexeme) (ending : Ending) → Reads files levels file before at line bytes tokens ending → before ≤ 60000 → before + length tokens ≤ 60000
at_most files levels file before at line bytes tokens ending (End l f b a i gap g) h = omega arith
at_most files levels file before at line bytes tokens ending (Next l f b a i gap text after kind others e g lex ne room next_read) h =
    let ih : b + 1 + length others ≤ 60000 = at_most files l f (b + 1) (a + length gap + length text) false after others e next_read (omega arith) in
    omega arith
at_most files levels file before at line bytes tokens ending (TooMany l f b a i gap text after kind g lex ne full) h = omega arith
at_most files levels file before at line bytes tokens ending (Fault l f b a i gap rest kind following g faulty) h = omega arith
at_most files levels file before at line bytes tokens ending (Get l f b a i gap space string after name named inner others e g get first deep next_read) h =
    let below : b + length inner ≤ 60000 = at_most files l named b 0 true _ inner _ deep h in
    let ih : b + length inner + length others ≤ 60000 = at_most files _ f (b + length inner) _ true after others e next_read below in
    let s : length (inner ++ others) ≡ length inner + length others = length-append_ℕ' inner others in
    omega arith
at_most files levels file before at line bytes tokens ending (GetFault l f b a i gap space string after name named inner e g get first deep) h =
    at_most files l named b 0 true _ inner _ deep h
at_most files levels file before at line bytes tokens ending (GetTooDeep f b a i gap space string after name named g get first) h = omega arith
at_most files levels file before at line bytes tokens ending (GetUnnamed l f b a i gap space string after name g get unnamed) h = omega arith
at_most files levels file before at line bytes tokens ending (GetNoString l f b a i gap space after g end space_gap none) h = omega arith
at_most files levels file before at line bytes tokens ending (GetFaulty l f b a i gap space rest kind following g end space_gap faulty) h = omega arith

pub answers_few : {X : Type 0} (files : List File) (main : ℕ) (view : X → List Lexeme) (r : Result X LexError) → lexing.ReadsAs view r (read_of files main) → IfOk r (λ v. length (view v) ≤ 60000)
answers_few files main view (Ok v) h =
    let some : 0 + length (view v) ≤ 60000 = at_most files 8 main 0 0 false _ (view v) _ (answers_tokens files main view (Ok v) h) (omega arith) in
    omega arith
answers_few files main view (Err e) h = tt
