-- Gaps: the blanks, line breaks and comments between the tokens of a text.
use Rattle.std.specs.Prelude.{◌≡◌, ℕ, Bool, true, false, not, ◌==◌, ◌&&◌, ◌||◌, List, [], ◌∷◌, ◌++◌, drop, Option, Some, None, if◌then◌else◌, codes}
use Rattle.std.specs.List.{prefix_len}

-- whether the byte is a blank, a tab, a carriage return, a form feed or a line feed
abbrev pub is_space : ℕ → Bool
is_space b = (b == 32) || (b == 9) || (b == 13) || (b == 12) || (b == 10)

-- whether this byte, twice, opens a comment to the end of the line: // || or \\
abbrev pub opens_line : ℕ → Bool
opens_line b = (b == 47) || (b == 124) || (b == 92)

-- the number of bytes before the first line feed, or of all
abbrev pub line_of : List ℕ → ℕ
line_of = prefix_len (λ b. not (b == 10))

-- what is left after the bytes before the first line feed
abbrev pub after_line : List ℕ → List ℕ
after_line bs = drop (line_of bs) bs

-- whether the bytes begin with these two
abbrev pub begins : ℕ → ℕ → List ℕ → Bool
begins x y [] = false
begins x y (b ∷ []) = false
begins x y (b ∷ c ∷ bs) = (b == x) && (c == y)

-- whether the bytes begin with */
abbrev pub ends_comment : List ℕ → Bool
ends_comment = begins 42 47

-- whether the bytes begin with a comment to the end of the line
abbrev pub begins_line : List ℕ → Bool
begins_line bs = (begins 47 47 bs || begins 124 124 bs) || begins 92 92 bs

-- whether the bytes begin with a blank or a line break
abbrev pub begins_space : List ℕ → Bool
begins_space [] = false
begins_space (b ∷ bs) = is_space b

-- what is left after the first */, or None if there is none
abbrev pub after_comment : List ℕ → Option (List ℕ)
after_comment [] = None
after_comment (b ∷ bs) = if ends_comment (b ∷ bs) then Some (drop 1 bs) else after_comment bs

-- GapThen text rest: the text is a sequence of blanks, line breaks and comments, and then the rest
pub data GapThen : List ℕ → List ℕ → Type 0 where
  Nothing : (rest : List ℕ) → GapThen rest rest
  -- a blank or a line break
  Space : (b : ℕ) (bs rest : List ℕ) → is_space b ≡ true → GapThen bs rest → GapThen (b ∷ bs) rest
  -- a comment to the end of its line
  Line : (b : ℕ) (bs rest : List ℕ) → opens_line b ≡ true → GapThen (after_line bs) rest → GapThen (b ∷ b ∷ bs) rest
  -- a comment to the next */
  Block : (bs after rest : List ℕ) → after_comment bs ≡ Some after → GapThen after rest → GapThen (codes "/*" ++ bs) rest
