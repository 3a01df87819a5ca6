-- Worked examples of tokens, of plain texts and of spans that meet at most one token.
use Rattle.std.specs.Prelude.{◌≡◌, ◌≤◌, true, false, [], ◌∷◌, ◌++◌, Some, None, codes}
use Rattle.std.proofs.Common.{refl, arith, inl, inr}
use Rattle.bc_convert.specs.declared.quotes.Place.TheVariants.{Ordinary}
use Rattle.bc_convert.specs.declared.replacement.Replacement.{Replacement}
use Rattle.bc_convert.specs.declared.source.Token.{Token}
use Rattle.bc_convert.specs.Confined.{meets, MeetsAtMostOne, is_confined}
use Rattle.bc_convert.specs.Plain.{has_line, has_sign, is_plain}
use Rattle.bc_convert.specs.Tokens.{after_quote, IsSolid, IsConstant, IsUnclosed, IsToken, HasNoGap}

-- two bytes without blanks are a token
solid : IsToken (codes "<= b") 2
solid = inl (omega arith, omega arith)

-- two names with a blank between them are none
not_solid : IsToken (codes "a b") 3 → ⊥
not_solid (inl solid) = omega (arith, solid.0)
not_solid (inr (inl constant)) = let no : false ≡ true = constant.0 in cc
not_solid (inr (inr comment)) = let no : false ≡ true = comment.0 in cc

-- nor are two names with a sign of five bytes
too_long : IsSolid (codes "a:=b+c") 6 → ⊥
too_long solid = omega (arith, solid.1)

-- a string may have blanks, up to its closing quote
string : IsToken (34 ∷ codes "a b" ++ (34 ∷ codes " c")) 5
string = inr (inl (refl, refl))

-- but not go past it
past_quote : IsConstant (34 ∷ codes "a b" ++ (34 ∷ codes " c")) 7 → ⊥
past_quote constant = let no : codes " c" ≡ [] = constant.1 in cc

-- an escaped quote doesn't close a constant
escaped : after_quote 34 Ordinary (codes "a*" ++ (34 ∷ codes "b" ++ (34 ∷ codes "c"))) ≡ Some (codes "c")
escaped = refl

-- a constant continues after an escaped line break and blanks
continued : after_quote 34 Ordinary (codes "a*" ++ (10 ∷ codes "  *b" ++ (34 ∷ []))) ≡ Some []
continued = refl

-- not after another line break
broken : after_quote 34 Ordinary (codes "a" ++ (10 ∷ codes "b" ++ (34 ∷ []))) ≡ None
broken = refl

-- one that isn't closed ends with its line
unclosed_line : IsConstant (39 ∷ codes "ab" ++ (10 ∷ codes "c")) 3
unclosed_line = (refl, refl)

-- a block comment that isn't closed goes up to the end
unclosed : IsUnclosed (codes "/* a") 4
unclosed = (refl, refl, refl)

-- one that is closed is no token
closed : IsUnclosed (codes "/* a */") 7 → ⊥
closed comment = let no : Some [] ≡ None = comment.1 in cc

-- no gap begins at a name, but one begins at a blank
name_first : HasNoGap (codes "a b")
name_first = (refl, refl, λ e. let no : false ≡ true = e in cc)

blank_first : HasNoGap (codes " b") → ⊥
blank_first h = let no : true ≡ false = h.0 in cc

-- a token and the gap before it: the span meets one token
with_gap : (t u : Token) (r : Replacement) → t.start ≡ 0 → t.end ≡ 1 → u.start ≡ 2 → u.end ≡ 3 → r.start ≡ 1 → r.end ≡ 3 → MeetsAtMostOne (t ∷ u ∷ []) r
with_gap t u r a b c d e f = rw (a, b, c, d, e, f) (omega arith)

-- both tokens: it meets two
both_tokens : (t u : Token) (r : Replacement) → t.start ≡ 0 → t.end ≡ 1 → u.start ≡ 2 → u.end ≡ 3 → r.start ≡ 0 → r.end ≡ 3 → MeetsAtMostOne (t ∷ u ∷ []) r → ⊥
both_tokens t u r a b c d e f one = let two : 2 ≤ 1 = rw (a, b, c, d, e, f) at one in omega (arith, two)

-- an empty span at the end of a token meets none
after_token : (t : Token) (r : Replacement) → t.start ≡ 0 → t.end ≡ 2 → r.start ≡ 2 → r.end ≡ 2 → meets r t ≡ false
after_token t r a b c d = rw (a, b, c, d) refl

-- one within it meets it
within_token : (t : Token) (r : Replacement) → t.start ≡ 0 → t.end ≡ 2 → r.start ≡ 1 → r.end ≡ 1 → meets r t ≡ true
within_token t r a b c d = rw (a, b, c, d) refl

-- what the code computes says the same of two tokens
both_refused : (t u : Token) (r : Replacement) → t.end ≡ 1 → u.start ≡ 2 → r.start ≡ 0 → r.end ≡ 3 → is_confined (t ∷ u ∷ []) r ≡ false
both_refused t u r b c e f = rw (b, c, e, f) refl

-- two lines
plain : is_plain (codes "a $( b" ++ (10 ∷ codes "c")) ≡ true
plain = refl

-- a carriage return, or a sign of conditional compilation
old_break : is_plain (codes "a" ++ (13 ∷ codes "b")) ≡ false
old_break = refl

sign : has_sign (codes "a $<TAG") ≡ true
sign = refl

-- the second line has three bytes, and none has two
second_line : has_line 3 (codes "a" ++ (10 ∷ codes "bcd")) ≡ true
second_line = refl

no_line : has_line 2 (codes "a" ++ (10 ∷ codes "bcd")) ≡ false
no_line = refl
