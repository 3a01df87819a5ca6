-- Worked examples of gaps, and of tokens with gaps between them.
use Rattle.std.specs.Prelude.{◌≡◌, ℕ, false, true, List, [], ◌∷◌, ◌++◌, Option, Some, None, codes}
use Rattle.std.proofs.Common.{refl, arith, inl, inr}
use Rattle.bc_convert.specs.declared.source.Token.{Token}
use Rattle.bc_convert.specs.Gaps.{after_line, after_comment, GapThen, Nothing, Space, Line, Block}
use Rattle.bc_convert.specs.Spans.{TokensFrom}
use Rattle.bc_convert.specs.Tokens.{HasNoGap, IsToken}

-- a line comment ends before its line break
line : after_line (codes " a" ++ (10 ∷ codes "B")) ≡ 10 ∷ codes "B"
line = refl

-- a block comment ends with the first */
block : after_comment (codes " a */ */") ≡ Some (codes " */")
block = refl

-- a blank, a line comment and its line break
spaced : GapThen (codes " // a" ++ (10 ∷ codes "B")) (codes "B")
spaced =
    Space 32 (codes "// a" ++ (10 ∷ codes "B")) (codes "B") refl
    (Line 47 (codes " a" ++ (10 ∷ codes "B")) (codes "B") refl (Space 10 (codes "B") (codes "B") refl (Nothing (codes "B"))))

-- a block comment
commented : GapThen (codes "/*a*/B") (codes "B")
commented = Block (codes "a*/B") (codes "B") (codes "B") refl (Nothing (codes "B"))

-- nothing but no bytes follows the end of the text
no_more : (text rest : List ℕ) → GapThen text rest → text ≡ [] → rest ≡ codes "B" → ⊥
no_more text rest (Nothing bs) e r = cc
no_more text rest (Space b bs r s g) e f = cc
no_more text rest (Line b bs r s g) e f = cc
no_more text rest (Block bs after r s g) e f = cc

-- a letter is no gap
letter_in : (text rest : List ℕ) → GapThen text rest → text ≡ codes "B" → rest ≡ [] → ⊥
letter_in text rest (Nothing bs) e r = cc
letter_in text rest (Space b bs r s g) e f = let is : b ≡ 66 = cc in let no : false ≡ true = rw is at s in cc
letter_in text rest (Line b bs r s g) e f = cc
letter_in text rest (Block bs after r s g) e f = cc

letter : GapThen (codes "B") [] → ⊥
letter gap = letter_in (codes "B") [] gap refl refl

-- a line comment doesn't end within its line
within_in : (text rest : List ℕ) → GapThen text rest → text ≡ codes "//B" → rest ≡ codes "B" → ⊥
within_in text rest (Nothing bs) e r = cc
within_in text rest (Space b bs r s g) e f = let is : b ≡ 47 = cc in let no : false ≡ true = rw is at s in cc
within_in text rest (Line b bs r s g) e f = let is : bs ≡ 66 ∷ [] = cc in no_more (after_line bs) r g (rw is refl) f
within_in text rest (Block bs after r s g) e f = let is : ◌≡◌ {A = ℕ} 42 47 = cc in omega (arith, is)

within_line : GapThen (codes "//B") (codes "B") → ⊥
within_line gap = within_in (codes "//B") (codes "B") gap refl refl

-- an unclosed block comment is no gap
unclosed_in : (text rest : List ℕ) → GapThen text rest → text ≡ codes "/*B" → rest ≡ [] → ⊥
unclosed_in text rest (Nothing bs) e r = cc
unclosed_in text rest (Space b bs r s g) e f = let is : b ≡ 47 = cc in let no : false ≡ true = rw is at s in cc
unclosed_in text rest (Line b bs r s g) e f = let one : b ≡ 47 = cc in let other : b ≡ 42 = cc in omega (arith, one, other)
unclosed_in text rest (Block bs after r s g) e f = let is : bs ≡ 66 ∷ [] = cc in let no : None ≡ Some after = rw is at s in cc

unclosed : GapThen (codes "/*B") [] → ⊥
unclosed gap = unclosed_in (codes "/*B") [] gap refl refl

not_one : IsToken (codes "A B") 3 → ⊥
not_one (inl solid) = omega (arith, solid.0)
not_one (inr (inl constant)) = let no : false ≡ true = constant.0 in cc
not_one (inr (inr comment)) = let no : false ≡ true = comment.0 in cc

-- a blank and one token
one_token : (t : Token) → t.start ≡ 1 → t.end ≡ 3 → TokensFrom (codes " AB") 0 (t ∷ [])
one_token t start end =
    let begins : HasNoGap (codes "AB") = (refl, refl, λ e. let no : false ≡ true = e in cc) in
    let token : IsToken (codes "AB") 2 = inl (omega arith, omega arith) in
    let gap : GapThen (codes " AB") (codes "AB") = Space 32 (codes "AB") (codes "AB") refl (Nothing (codes "AB")) in
    rw (start, end) (omega arith, gap, (omega arith, omega arith, begins, token), Nothing [])

-- two names with a blank between them aren't one token
not_one_token : (t : Token) → t.start ≡ 0 → t.end ≡ 3 → TokensFrom (codes "A B") 0 (t ∷ []) → ⊥
not_one_token t start end tokens = let token = rw (start, end) at tokens.2.3 in not_one token

-- a text with a letter has a token
no_tokens : TokensFrom (codes "B") 0 [] → ⊥
no_tokens = letter

-- a token has a byte or more
empty_token : (t : Token) → t.start ≡ t.end → TokensFrom (codes "B") 0 (t ∷ []) → ⊥
empty_token t e tokens = omega (arith, tokens.2.0)

-- tokens don't overlap
overlapping : (t u : Token) → t.end ≡ 2 → u.start ≡ 1 → TokensFrom (codes "AB") 0 (t ∷ u ∷ []) → ⊥
overlapping t u e f tokens = omega (arith, tokens.3.0)
