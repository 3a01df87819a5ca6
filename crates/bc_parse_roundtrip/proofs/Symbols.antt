-- The spelling of each symbol, followed by a blank or by nothing, is read as that symbol.
use Rattle.std.proofs.Common.{◌≡◌, ◌≢◌, ℕ, Bool, true, false, not, List, [], ◌∷◌, ◌++◌, Option, Some, None, eqb, refl, sym}
use Rattle.std.specs.List.{list_all}
use Rattle.std.proofs.lemmas.Bool.{and_parts}
use Rattle.std.proofs.lemmas.List.{append-nil}
use Rattle.bc_lex_tokens.specs.declared.symbol.Symbol.{Symbol}
use Rattle.bc_lex_tokens.specs.declared.symbol.Symbol.TheVariants as sign
use Rattle.bc_lex_tokens.specs.Spelling.{spelling_of, symbol_of, spellings}
use Rattle.bc_lex_tokens.specs.Token.{Sign}
use Rattle.bc_lex.specs.Bytes.{is_name_byte}
use Rattle.bc_lex.specs.Gaps.{opens_line, opens_block}
use Rattle.bc_lex.specs.Lexemes.{Ends, IsName, NoLetter, IsLexeme, Word, Marked, Bracket}
use Rattle.bc_lex.specs.Tags.{has_tag}
use Rattle.bc_lex_tokens.proofs.Symbols.{symbol_of-spelling_of}
use Rattle.bc_lex.proofs.Shapes.{table_test}

-- nothing, or a blank
pub data Spaced : List ℕ → Type 0 where
  nothing : Spaced []
  blank : {bs : List ℕ} → Spaced (32 ∷ bs)

pub ends : (test : ℕ → Bool) → test 32 ≡ false → (after : List ℕ) → Spaced after → Ends test after
ends test h [] nothing = tt
ends test h (b ∷ bs) blank = h

-- no spelling has a blank in it
abbrev has_no_blank : List ℕ → Bool
has_no_blank = list_all (λ b. not (eqb b 32))

spelled_without_blank : (text : List ℕ) (s : Symbol) → symbol_of text ≡ Some s → has_no_blank text ≡ true
unfolding symbol_of
spelled_without_blank text s h = table_test (λ bs _. has_no_blank bs) spellings text s refl h

blank_within : (text bs : List ℕ) → has_no_blank (text ++ 32 ∷ bs) ≡ true → ⊥
blank_within [] bs h = let n : false ≡ true = h in cc
blank_within (b ∷ text) bs h = blank_within text bs (and_parts (not (eqb b 32)) (has_no_blank (text ++ 32 ∷ bs)) h).1

no_symbol : (text bs : List ℕ) (o : Option Symbol) → symbol_of (text ++ 32 ∷ bs) ≡ o → o ≡ None
no_symbol text bs None e = refl
no_symbol text bs (Some s) e = absurd (blank_within text bs (spelled_without_blank (text ++ 32 ∷ bs) s e))

-- so none continues after a blank
longest : (text after : List ℕ) → Spaced after → (more rest : List ℕ) → more ≢ [] → after ≡ more ++ rest → symbol_of (text ++ more) ≡ None
longest text after sp [] rest ne e = absurd (ne refl)
longest text [] nothing (b ∷ bs) rest ne e = let h : [] ≡ b ∷ (bs ++ rest) = e in cc
longest text (c ∷ cs) blank (b ∷ bs) rest ne e =
    let h : 32 ∷ cs ≡ b ∷ (bs ++ rest) = e in
    let same : 32 ≡ b = cc in
    rw (sym same) (no_symbol text bs (symbol_of (text ++ 32 ∷ bs)) refl)

spells : (s : Symbol) → symbol_of (spelling_of s) ≡ Some s
spells = symbol_of-spelling_of

word : (s : Symbol) → IsName (spelling_of s) → (after : List ℕ) → Spaced after → IsLexeme (spelling_of s) after (Sign s)
word s name after sp = Word (spelling_of s) after s name (ends is_name_byte refl after sp) (spells s)

bracket : (s : Symbol) → has_tag s ≡ true → (after : List ℕ) → Spaced after → IsLexeme (spelling_of s) after (Sign s)
bracket s tagged after sp = rw append-nil at (Bracket (spelling_of s) [] after s (spells s) tagged refl (ends is_name_byte refl after sp))

mark : (s : Symbol) → NoLetter (spelling_of s) → has_tag s ≡ false
    → opens_line (spelling_of s ++ []) ≡ false → ((bs : List ℕ) → opens_line (spelling_of s ++ 32 ∷ bs) ≡ false)
    → opens_block (spelling_of s ++ []) ≡ false → ((bs : List ℕ) → opens_block (spelling_of s ++ 32 ∷ bs) ≡ false)
    → (after : List ℕ) → Spaced after → IsLexeme (spelling_of s) after (Sign s)
mark s letter tag line line_blank block block_blank [] nothing =
    Marked (spelling_of s) [] s (record { spelled = spells s; sign = letter; longest = longest (spelling_of s) [] nothing; line = line; block = block }) tag
mark s letter tag line line_blank block block_blank (b ∷ bs) blank =
    Marked (spelling_of s) (32 ∷ bs) s (record { spelled = spells s; sign = letter; longest = longest (spelling_of s) (32 ∷ bs) blank; line = line_blank bs; block = block_blank bs }) tag

pub symbol_lexeme : (s : Symbol) (after : List ℕ) → Spaced after → IsLexeme (spelling_of s) after (Sign s)
symbol_lexeme sign.And after sp = word sign.And (refl, refl) after sp
symbol_lexeme sign.Be after sp = word sign.Be (refl, refl) after sp
symbol_lexeme sign.Break after sp = word sign.Break (refl, refl) after sp
symbol_lexeme sign.By after sp = word sign.By (refl, refl) after sp
symbol_lexeme sign.Case after sp = word sign.Case (refl, refl) after sp
symbol_lexeme sign.Default after sp = word sign.Default (refl, refl) after sp
symbol_lexeme sign.Do after sp = word sign.Do (refl, refl) after sp
symbol_lexeme sign.Else after sp = word sign.Else (refl, refl) after sp
symbol_lexeme sign.EndCase after sp = word sign.EndCase (refl, refl) after sp
symbol_lexeme sign.Equivalent after sp = word sign.Equivalent (refl, refl) after sp
symbol_lexeme sign.False after sp = word sign.False (refl, refl) after sp
symbol_lexeme sign.Finish after sp = word sign.Finish (refl, refl) after sp
symbol_lexeme sign.For after sp = word sign.For (refl, refl) after sp
symbol_lexeme sign.Get after sp = word sign.Get (refl, refl) after sp
symbol_lexeme sign.Global after sp = word sign.Global (refl, refl) after sp
symbol_lexeme sign.Goto after sp = word sign.Goto (refl, refl) after sp
symbol_lexeme sign.If after sp = word sign.If (refl, refl) after sp
symbol_lexeme sign.Into after sp = word sign.Into (refl, refl) after sp
symbol_lexeme sign.Let after sp = word sign.Let (refl, refl) after sp
symbol_lexeme sign.Loop after sp = word sign.Loop (refl, refl) after sp
symbol_lexeme sign.Manifest after sp = word sign.Manifest (refl, refl) after sp
symbol_lexeme sign.NotEquivalent after sp = word sign.NotEquivalent (refl, refl) after sp
symbol_lexeme sign.Not after sp = word sign.Not (refl, refl) after sp
symbol_lexeme sign.Remainder after sp = word sign.Remainder (refl, refl) after sp
symbol_lexeme sign.Repeat after sp = word sign.Repeat (refl, refl) after sp
symbol_lexeme sign.RepeatUntil after sp = word sign.RepeatUntil (refl, refl) after sp
symbol_lexeme sign.RepeatWhile after sp = word sign.RepeatWhile (refl, refl) after sp
symbol_lexeme sign.ResultIs after sp = word sign.ResultIs (refl, refl) after sp
symbol_lexeme sign.Return after sp = word sign.Return (refl, refl) after sp
symbol_lexeme sign.Static after sp = word sign.Static (refl, refl) after sp
symbol_lexeme sign.SwitchOn after sp = word sign.SwitchOn (refl, refl) after sp
symbol_lexeme sign.Table after sp = word sign.Table (refl, refl) after sp
symbol_lexeme sign.Test after sp = word sign.Test (refl, refl) after sp
symbol_lexeme sign.To after sp = word sign.To (refl, refl) after sp
symbol_lexeme sign.True after sp = word sign.True (refl, refl) after sp
symbol_lexeme sign.Unless after sp = word sign.Unless (refl, refl) after sp
symbol_lexeme sign.Until after sp = word sign.Until (refl, refl) after sp
symbol_lexeme sign.ValueOf after sp = word sign.ValueOf (refl, refl) after sp
symbol_lexeme sign.Vector after sp = word sign.Vector (refl, refl) after sp
symbol_lexeme sign.While after sp = word sign.While (refl, refl) after sp
symbol_lexeme sign.Assign after sp = mark sign.Assign refl refl refl (λ bs. refl) refl (λ bs. refl) after sp
symbol_lexeme sign.NotEqual after sp = mark sign.NotEqual refl refl refl (λ bs. refl) refl (λ bs. refl) after sp
symbol_lexeme sign.LessEqual after sp = mark sign.LessEqual refl refl refl (λ bs. refl) refl (λ bs. refl) after sp
symbol_lexeme sign.GreaterEqual after sp = mark sign.GreaterEqual refl refl refl (λ bs. refl) refl (λ bs. refl) after sp
symbol_lexeme sign.ShiftLeft after sp = mark sign.ShiftLeft refl refl refl (λ bs. refl) refl (λ bs. refl) after sp
symbol_lexeme sign.ShiftRight after sp = mark sign.ShiftRight refl refl refl (λ bs. refl) refl (λ bs. refl) after sp
symbol_lexeme sign.Arrow after sp = mark sign.Arrow refl refl refl (λ bs. refl) refl (λ bs. refl) after sp
symbol_lexeme sign.OpenSection after sp = bracket sign.OpenSection refl after sp
symbol_lexeme sign.CloseSection after sp = bracket sign.CloseSection refl after sp
symbol_lexeme sign.OpenBracket after sp = mark sign.OpenBracket refl refl refl (λ bs. refl) refl (λ bs. refl) after sp
symbol_lexeme sign.CloseBracket after sp = mark sign.CloseBracket refl refl refl (λ bs. refl) refl (λ bs. refl) after sp
symbol_lexeme sign.Comma after sp = mark sign.Comma refl refl refl (λ bs. refl) refl (λ bs. refl) after sp
symbol_lexeme sign.Semicolon after sp = mark sign.Semicolon refl refl refl (λ bs. refl) refl (λ bs. refl) after sp
symbol_lexeme sign.Colon after sp = mark sign.Colon refl refl refl (λ bs. refl) refl (λ bs. refl) after sp
symbol_lexeme sign.Indirection after sp = mark sign.Indirection refl refl refl (λ bs. refl) refl (λ bs. refl) after sp
symbol_lexeme sign.AddressOf after sp = mark sign.AddressOf refl refl refl (λ bs. refl) refl (λ bs. refl) after sp
symbol_lexeme sign.Plus after sp = mark sign.Plus refl refl refl (λ bs. refl) refl (λ bs. refl) after sp
symbol_lexeme sign.Minus after sp = mark sign.Minus refl refl refl (λ bs. refl) refl (λ bs. refl) after sp
symbol_lexeme sign.Multiply after sp = mark sign.Multiply refl refl refl (λ bs. refl) refl (λ bs. refl) after sp
symbol_lexeme sign.Divide after sp = mark sign.Divide refl refl refl (λ bs. refl) refl (λ bs. refl) after sp
symbol_lexeme sign.Equal after sp = mark sign.Equal refl refl refl (λ bs. refl) refl (λ bs. refl) after sp
symbol_lexeme sign.Less after sp = mark sign.Less refl refl refl (λ bs. refl) refl (λ bs. refl) after sp
symbol_lexeme sign.Greater after sp = mark sign.Greater refl refl refl (λ bs. refl) refl (λ bs. refl) after sp
symbol_lexeme sign.LogicalAnd after sp = mark sign.LogicalAnd refl refl refl (λ bs. refl) refl (λ bs. refl) after sp
symbol_lexeme sign.LogicalOr after sp = mark sign.LogicalOr refl refl refl (λ bs. refl) refl (λ bs. refl) after sp
