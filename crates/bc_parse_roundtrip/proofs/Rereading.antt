-- A text of tokens with one blank between neighbours is read as these tokens, one after another.
use Rattle.std.proofs.Common.{◌≡◌, ◌≢◌, ℕ, ◌+◌, ◌≤◌, ◌<◌, false, List, [], ◌∷◌, ◌++◌, length, map, All, Bool, refl, arith, lit<}
use Rattle.std.specs.List.{AllByRecursion, flat_map}
use Rattle.std.proofs.lemmas.List.Elements.{All-nil, All-cons}
use Rattle.bc_lex_tokens.specs.declared.symbol.Symbol.TheVariants as sign
use Rattle.bc_lex_tokens.specs.Token as token_kinds
use Rattle.bc_lex_tokens.specs.Token.{Kind, Lexeme}
use Rattle.bc_parse_tree.specs.Parts.{Part, A, Name, Number, Character, String, NewLine}
use Rattle.bc_lex.specs.Bytes.{is_name_byte}
use Rattle.bc_lex.specs.Files.{File}
use Rattle.bc_lex.specs.Gaps.{breaks, IsGap, Nothing, More, Space}
use Rattle.bc_lex.specs.Lexemes.{IsLexeme, Named, Numeral, Literal, is_digit_of}
use Rattle.bc_lex.specs.Tokens.{Reads, End, Next, Whole, token}
use Rattle.bc_parse_tree.specs.Rendered.{text_of, rendered}
use Rattle.bc_parse_defs.specs.Closing.{kind_part, tag_of}
use Rattle.bc_parse_laws.specs.Tokens.{IsBare}
use Rattle.bc_parse_roundtrip.specs.Rereads.{IsToken, quoted, IsReread}
use Rattle.bc_parse_roundtrip.proofs.Numerals.{decimal_number}
use Rattle.bc_parse_roundtrip.proofs.Constants.{constant_lexeme}
use Rattle.bc_parse_roundtrip.proofs.Symbols.{Spaced, nothing, blank, ends, symbol_lexeme}

abbrev kind : Part → Kind
kind (A s) = token_kinds.Sign s
kind (Name n) = token_kinds.Name n
kind (Number n) = token_kinds.Number n
kind (Character c) = token_kinds.Character c
kind (String s) = token_kinds.String s
kind NewLine = token_kinds.Sign sign.Semicolon

lexeme : (t : Part) → IsToken t → (after : List ℕ) → Spaced after → IsLexeme (text_of t) after (kind t)
lexeme (A s) h after sp = symbol_lexeme s after sp
lexeme (Name n) h after sp = Named n after h.0 (ends is_name_byte refl after sp) h.1
lexeme (Number n) h after sp = Numeral (text_of (Number n)) after n (decimal_number n after h (ends (is_digit_of 10) refl after sp)) h
lexeme (Character c) h after sp = constant_lexeme c after h
lexeme (String s) (quoted text cs spelled short) after sp = Literal text after cs spelled short
lexeme NewLine h after sp = absurd h

no_get : (t : Part) → IsToken t → kind t ≢ token_kinds.Sign sign.Get
no_get (A s) h e = h cc
no_get (Name n) h e = cc
no_get (Number n) h e = cc
no_get (Character c) h e = cc
no_get (String s) h e = cc
no_get NewLine h e = absurd h

same_part : (t : Part) → IsToken t → kind_part (kind t) ≡ t
same_part (A s) h = refl
same_part (Name n) h = refl
same_part (Number n) h = refl
same_part (Character c) h = refl
same_part (String s) h = refl
same_part NewLine h = absurd h

no_tag : (t : Part) → IsToken t → (file start : ℕ) (line : Bool) → kind t ≡ token_kinds.Sign sign.CloseSection → tag_of (token file start line (kind t) (text_of t)) ≡ []
no_tag (A s) h file start line e = let same : s ≡ sign.CloseSection = cc in rw same refl
no_tag (Name n) h file start line e = absurd cc
no_tag (Number n) h file start line e = absurd cc
no_tag (Character c) h file start line e = absurd cc
no_tag (String s) h file start line e = absurd cc
no_tag NewLine h file start line e = absurd h

-- tokens, each preceded by a blank
abbrev after_blanks : List Part → List ℕ
after_blanks = flat_map (λ t. 32 ∷ text_of t)

spaced : (ts : List Part) → Spaced (after_blanks ts)
spaced [] = nothing
spaced (t ∷ ts) = blank

-- the remaining text of a file has these tokens, after some others
record AreLeft (files : List File) (before at : ℕ) (bytes : List ℕ) (ts : List Part) : Type 0 where
  tokens : List Lexeme
  read : Reads files 8 0 before at false bytes tokens Whole
  same : map (λ t. kind_part t.kind) tokens ≡ ts
  bare : All IsBare tokens

-- one more token, after this gap
one_more : (files : List File) (before at : ℕ) (gap : List ℕ) (t : Part) (ts : List Part) → IsToken t → before < 60000 → IsGap gap (text_of t ++ after_blanks ts) → breaks gap ≡ false
    → AreLeft files (before + 1) (at + length gap + length (text_of t)) (after_blanks ts) ts
    → AreLeft files before at (gap ++ (text_of t ++ after_blanks ts)) (t ∷ ts)
one_more files before at gap t ts h few space line left = record {
  tokens = token 0 (at + length gap) (breaks gap) (kind t) (text_of t) ∷ left.tokens;
  read = Next 8 0 before at false gap (text_of t) (after_blanks ts) (kind t) left.tokens Whole space (lexeme t h (after_blanks ts) (spaced ts)) (no_get t h) few left.read;
  same = (let e : kind_part (kind t) ∷ map (λ u. kind_part u.kind) left.tokens ≡ t ∷ ts = rw (same_part t h, left.same) refl in e);
  bare = All-cons IsBare (token 0 (at + length gap) (breaks gap) (kind t) (text_of t)) left.tokens (record { no_line = line; no_tag = no_tag t h 0 (at + length gap) (breaks gap) }) left.bare;
}

left_over : (files : List File) (before at : ℕ) (ts : List Part) → AllByRecursion IsToken ts → before + length ts ≤ 60000 → AreLeft files before at (after_blanks ts) ts
left_over files before at [] all few = record { tokens = []; read = End 8 0 before at false [] (Nothing []); same = refl; bare = All-nil IsBare }
left_over files before at (t ∷ ts) all few =
    let space = More (32 ∷ []) [] (text_of t ++ after_blanks ts) (Space 32 (text_of t ++ after_blanks ts) refl) (Nothing (text_of t ++ after_blanks ts)) in
    one_more files before at (32 ∷ []) t ts all.0 (omega arith) space refl (left_over files (before + 1) (at + 1 + length (text_of t)) ts all.1 (omega arith))

all_left : (files : List File) (ts : List Part) → AllByRecursion IsToken ts → length ts ≤ 60000 → AreLeft files 0 0 (rendered ts) ts
all_left files [] all few = record { tokens = []; read = End 8 0 0 0 false [] (Nothing []); same = refl; bare = All-nil IsBare }
all_left files (t ∷ ts) all few =
    one_more files 0 0 [] t ts all.0 (lit< tt) (Nothing (text_of t ++ after_blanks ts)) refl (left_over files 1 (0 + 0 + length (text_of t)) ts all.1 (omega arith))

pub reread : (name : List ℕ) (ts : List Part) → AllByRecursion IsToken ts → length ts ≤ 60000 → IsReread name ts
reread name ts all few =
    let left = all_left (record { name = name; text = rendered ts } ∷ []) ts all few in
    record { tokens = left.tokens; read = left.read; same = left.same; bare = left.bare }
