-- Gaps: the blanks, line breaks and comments between tokens. Each definition takes a text and what follows it in its file.
use Rattle.std.specs.Prelude.{◌≡◌, ℕ, Bool, true, false, ◌==◌, ◌&&◌, ◌||◌, List, [], ◌∷◌, ◌++◌, codes}
use Rattle.std.specs.List.{list_any}
use Rattle.bc_lex.specs.Bytes.{is_space}

-- the text contains this part
abbrev pub Holds : List ℕ → List ℕ → Type 0
Holds part text = (front : List ℕ) × (back : List ℕ) × (text ≡ front ++ (part ++ back))

-- whether the text contains a line break
abbrev pub breaks : List ℕ → Bool
breaks = list_any (λ b. b == 10)

-- a line ends here: by a line break, or by the end of the file
abbrev pub AtLineEnd : List ℕ → Type 0
AtLineEnd [] = Unit {0}
AtLineEnd (b ∷ bs) = b ≡ 10

-- whether a list begins with this byte
abbrev pub begins : ℕ → List ℕ → Bool
begins b [] = false
begins b (c ∷ cs) = c == b

-- whether the text begins with // or ||, which open a comment to the end of the line
abbrev pub opens_line : List ℕ → Bool
opens_line [] = false
opens_line (b ∷ bs) = ((b == 47) && begins 47 bs) || ((b == 124) && begins 124 bs)

-- whether the text begins with /*, which opens a comment to the next */
abbrev pub opens_block : List ℕ → Bool
opens_block [] = false
opens_block (b ∷ bs) = (b == 47) && begins 42 bs

-- IsBlank text after: the text is a blank, a line break, or a whole comment
pub data IsBlank : List ℕ → List ℕ → Type 0 where
  -- a blank or a line break
  Space : (b : ℕ) (after : List ℕ) → is_space b ≡ true → IsBlank (b ∷ []) after
  -- a comment to the end of the line
  Line : (b c : ℕ) (text after : List ℕ) → opens_line (b ∷ c ∷ []) ≡ true → breaks text ≡ false → AtLineEnd after → IsBlank (b ∷ c ∷ text) after
  -- a comment to the next */
  Block : (text after : List ℕ) → (Holds (codes "*/") (text ++ codes "*") → ⊥) → IsBlank (codes "/*" ++ (text ++ codes "*/")) after

-- IsGap text after: the text is a sequence of blanks, line breaks and comments
pub data IsGap : List ℕ → List ℕ → Type 0 where
  Nothing : (after : List ℕ) → IsGap [] after
  More : (blank gap after : List ℕ) → IsBlank blank (gap ++ after) → IsGap gap after → IsGap (blank ++ gap) after
