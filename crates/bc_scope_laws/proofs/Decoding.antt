-- The bytes that a string has in the meaning are those that its text spells.
use Rattle.std.proofs.Common.{◌≡◌, ◌≢◌, ◌<◌, ◌+◌, ◌==◌, ◌||◌, ℕ, suc, Bool, true, false, if◌then◌else◌, List, [], ◌∷◌, ◌++◌, length, take, Some, None, refl, ap, sym, ◌∙◌, subst, arith, All}
use Rattle.std.proofs.lemmas.Bool.Decides.{nat_tests}
use Rattle.std.proofs.lemmas.List.{append_assoc, take_all}
use Rattle.std.proofs.lemmas.List.Elements.{All-nil, All-cons, All-append}
use Rattle.bc_lex_tokens.specs.Token.{Kind, Lexeme}
use Rattle.bc_lex.specs.Files.{File, text_of}
use Rattle.bc_lex.specs.Bytes as lex
use Rattle.bc_lex.specs.Quotes.{IsCharacter, Plain, Escape, Spells, Empty, More}
use Rattle.bc_lex.specs.Lexemes.{IsLexeme, Word, Named, Numeral, Constant, Literal, Marked, Bracket}
use Rattle.bc_lex.specs.Tokens.{Reads, End, Next, TooMany, Fault as FaultHere, Get, GetFault, GetTooDeep, GetUnnamed, GetNoString, GetFaulty, Ending, Whole, Faulty, token, HasTokens}
use Rattle.bc_lex.specs.Gaps.{breaks}
use Rattle.bc_scope_defs.specs.Characters as scoping
use Rattle.bc_scope_defs.specs.Characters.{characters, decoded}
use Rattle.bc_scope_laws.specs.StringLaws.{IsDecoded, IsDecodedKind}

escaped_same : (b c : ℕ) → lex.escaped b ≡ Some c → scoping.escaped b ≡ c
escaped_same b c e = go ((b == 78) || (b == 110)) ((b == 84) || (b == 116)) ((b == 83) || (b == 115)) ((b == 66) || (b == 98)) ((b == 80) || (b == 112)) ((b == 67) || (b == 99)) ((b == 34) || (b == 39) || (b == 42)) e
  where
    go : (n t s p f r o : Bool)
        → (if n then Some 10 else (if t then Some 9 else (if s then Some 32 else (if p then Some 8 else (if f then Some 12 else (if r then Some 13 else (if o then Some b else None))))))) ≡ Some c
        → (if n then 10 else (if t then 9 else (if s then 32 else (if p then 8 else (if f then 12 else (if r then 13 else b)))))) ≡ c
    go true t s p f r o h = cc
    go false true s p f r o h = cc
    go false false true p f r o h = cc
    go false false false true f r o h = cc
    go false false false false true r o h = cc
    go false false false false false true o h = cc
    go false false false false false false true h = cc
    go false false false false false false false h = absurd cc

unequal : (x y : ℕ) → x ≢ y → (x == y) ≡ false
unequal x y h = grind (arith, nat_tests)

one_more : (first : List ℕ) (c : ℕ) (rest : List ℕ) → IsCharacter 34 first c → characters false (first ++ rest) ≡ c ∷ characters false rest
one_more _ _ rest (Plain b line sign star) = rw (unequal b 34 sign, unequal b 42 star) refl
one_more _ _ rest (Escape b c e) = ap (λ x. x ∷ characters false rest) (escaped_same b c e)

spelled_characters : (text cs : List ℕ) → Spells 34 text cs → characters false (text ++ 34 ∷ []) ≡ cs
spelled_characters _ _ Empty = refl
spelled_characters _ _ (More first rest c cs one more) =
    ap (characters false) (append_assoc first rest (34 ∷ [])) ∙ one_more first c (rest ++ 34 ∷ []) one ∙ ap (λ r. c ∷ r) (spelled_characters rest cs more)

string_decoded : (text cs : List ℕ) → Spells 34 text cs → length cs < 256 → IsDecoded (34 ∷ (text ++ 34 ∷ []))
string_decoded text cs spelled short =
    let same : decoded (34 ∷ (text ++ 34 ∷ [])) ≡ cs = ap (take 255) (spelled_characters text cs spelled) ∙ take_all 255 cs (omega arith) in
    record { text = text; signs = refl; spelled = subst (Spells 34 text) (sym same) spelled; short = omega (arith, ap length same) }

kind_decoded : (text after : List ℕ) (k : Kind) → IsLexeme text after k → IsDecodedKind k
kind_decoded text after k (Word text' after' w name ends is) = tt
kind_decoded text after k (Named text' after' name ends is) = tt
kind_decoded text after k (Numeral text' after' n number small) = tt
kind_decoded text after k (Constant text' after' c one) = tt
kind_decoded text after k (Literal text' after' cs spelled short) = string_decoded text' cs spelled short
kind_decoded text after k (Marked text' after' w sign tagless) = tt
kind_decoded text after k (Bracket text' tag after' w is tagged all ends) = tt

abbrev AllDecoded : List Lexeme → Type 0
AllDecoded tokens = All (λ (t : Lexeme). IsDecodedKind t.kind) tokens

tokens_decoded : (files : List File) (levels file before at : ℕ) (line : Bool) (bytes : List ℕ) (tokens : List Lexeme) (ending : Ending) → Reads files levels file before at line bytes tokens ending → AllDecoded tokens
tokens_decoded files levels file before at line bytes tokens ending (End levels' file' before' at' line' gap g) = All-nil (λ (t : Lexeme). IsDecodedKind t.kind)
tokens_decoded files levels file before at line bytes tokens ending (Next levels' file' before' at' line' gap text after kind others ending' g lexeme ne room h) =
    All-cons (λ (t : Lexeme). IsDecodedKind t.kind) (token file' (at' + length gap) (line' || breaks gap) kind text) others (kind_decoded text after kind lexeme)
    (tokens_decoded files levels' file' (before' + 1) (at' + length gap + length text) false after others ending' h)
tokens_decoded files levels file before at line bytes tokens ending (TooMany levels' file' before' at' line' gap text after kind g lexeme ne full) = All-nil (λ (t : Lexeme). IsDecodedKind t.kind)
tokens_decoded files levels file before at line bytes tokens ending (FaultHere levels' file' before' at' line' gap rest kind following g faulty) = All-nil (λ (t : Lexeme). IsDecodedKind t.kind)
tokens_decoded files levels file before at line bytes tokens ending (Get levels' file' before' at' line' gap space string after name named inner others ending' g get first deep h) =
    All-append (λ (t : Lexeme). IsDecodedKind t.kind) inner others
    (tokens_decoded files levels' named before' 0 true (text_of files named) inner Whole deep)
    (tokens_decoded files (suc levels') file' (before' + length inner) (at' + length gap + 3 + length space + length string) true after others ending' h)
tokens_decoded files levels file before at line bytes tokens ending (GetFault levels' file' before' at' line' gap space string after name named inner e g get first deep) =
    tokens_decoded files levels' named before' 0 true (text_of files named) inner (Faulty e) deep
tokens_decoded files levels file before at line bytes tokens ending (GetTooDeep file' before' at' line' gap space string after name named g get first) = All-nil (λ (t : Lexeme). IsDecodedKind t.kind)
tokens_decoded files levels file before at line bytes tokens ending (GetUnnamed levels' file' before' at' line' gap space string after name g get unnamed) = All-nil (λ (t : Lexeme). IsDecodedKind t.kind)
tokens_decoded files levels file before at line bytes tokens ending (GetNoString levels' file' before' at' line' gap space after g end space_gap none) = All-nil (λ (t : Lexeme). IsDecodedKind t.kind)
tokens_decoded files levels file before at line bytes tokens ending (GetFaulty levels' file' before' at' line' gap space rest kind following g end space_gap faulty) = All-nil (λ (t : Lexeme). IsDecodedKind t.kind)

pub source_decoded : (files : List File) (main : ℕ) (tokens : List Lexeme) → HasTokens files main tokens → All (λ t. IsDecodedKind t.kind) tokens
source_decoded files main tokens r = tokens_decoded files _ _ _ _ _ _ tokens _ r
