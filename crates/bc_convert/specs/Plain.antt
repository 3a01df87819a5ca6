-- Plain texts: those that the converter's lexer reads as they are.
use Rattle.std.specs.Prelude.{ℕ, Bool, true, false, not, ◌==◌, ◌&&◌, ◌||◌, List, [], ◌∷◌}
use Rattle.std.specs.List.{list_any}
use Rattle.bc_convert.specs.Gaps.{line_of, begins}

-- whether the bytes begin like a sign of conditional compilation: $$, $<, $> or $~
abbrev pub begins_sign : List ℕ → Bool
begins_sign bs = (begins 36 36 bs || begins 36 60 bs) || (begins 36 62 bs || begins 36 126 bs)

-- whether there is such a sign
abbrev pub has_sign : List ℕ → Bool
has_sign [] = false
has_sign (b ∷ bs) = begins_sign (b ∷ bs) || has_sign bs

-- whether a line of n bytes comes after a line feed
abbrev pub has_later_line : ℕ → List ℕ → Bool
has_later_line n [] = false
has_later_line n (b ∷ bs) = ((b == 10) && (line_of bs == n)) || has_later_line n bs

-- whether a line has n bytes
abbrev pub has_line : ℕ → List ℕ → Bool
has_line n text = (line_of text == n) || has_later_line n text

-- whether there is a carriage return
abbrev pub has_return : List ℕ → Bool
has_return text = list_any (λ b. b == 13) text

-- whether a text has no carriage return, no line that is as long as a card, and no sign of conditional compilation
abbrev pub is_plain : List ℕ → Bool
is_plain text = not (has_return text) && (not (has_line 80 text) && not (has_sign text))
