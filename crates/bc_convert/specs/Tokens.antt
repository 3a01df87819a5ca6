-- Tokens: where they begin, and how far they go.
use Rattle.std.specs.Prelude.{◌≡◌, ℕ, ◌+◌, ◌≤◌, ◌⊎◌, Bool, true, false, not, ◌==◌, ◌&&◌, ◌||◌, List, [], ◌∷◌, length, drop, Option, Some, None, MatchOption, if◌then◌else◌}
use Rattle.std.specs.Char.{is_ascii_alphanumeric}
use Rattle.std.specs.List.{prefix_len}
use Rattle.bc_convert.specs.declared.quotes.Place.{Place}
use Rattle.bc_convert.specs.declared.quotes.Place.TheVariants.{Ordinary, Escaped, Continued}
use Rattle.bc_convert.specs.Gaps.{is_space, line_of, begins, begins_line, begins_space, after_comment}

-- whether the byte is " or '
abbrev pub is_quote : ℕ → Bool
is_quote b = (b == 34) || (b == 39)

-- whether the byte may be in a token other than a constant: it is no blank, no line break and no quote
abbrev pub is_solid : ℕ → Bool
is_solid b = not (is_space b || is_quote b)

-- whether the byte may be in a name or a tag: a letter, a digit, a dot or an underline
abbrev pub is_name : ℕ → Bool
is_name b = (is_ascii_alphanumeric b || (b == 46)) || (b == 95)

-- the number of bytes before the first blank, line break or quote, or of all
abbrev pub solid_of : List ℕ → ℕ
solid_of = prefix_len is_solid

-- the number of bytes before the first that can't be in a name, or of all
abbrev pub names_of : List ℕ → ℕ
names_of = prefix_len is_name

-- the first n bytes have no blank, no line break and no quote, and those after the fourth may be in a name
abbrev pub IsSolid : List ℕ → ℕ → Type 0
IsSolid bs n = (n ≤ solid_of bs) × (n ≤ 4 + names_of (drop 4 bs))

-- the place of the next byte of a constant: it is escaped after a *, and after an escaped line break the line is continued up to
-- and including the first byte that is no blank and no line break
abbrev pub next_place : Place → ℕ → Place
next_place Ordinary b = if b == 42 then Escaped else Ordinary
next_place Escaped b = if (b == 10) || (b == 13) then Continued else Ordinary
next_place Continued b = if is_space b then Continued else Ordinary

-- whether this byte closes a constant that began with this quote
abbrev pub closes : ℕ → Place → ℕ → Bool
closes quote Ordinary b = b == quote
closes quote Escaped b = false
closes quote Continued b = b == quote

-- whether this byte is a line break at which a constant ends without its quote
abbrev pub breaks : Place → ℕ → Bool
breaks Ordinary b = b == 10
breaks Escaped b = false
breaks Continued b = false

-- what is left after the quote that closes a constant, or None if the line or the text ends before
abbrev pub after_quote : ℕ → Place → List ℕ → Option (List ℕ)
after_quote quote place [] = None
after_quote quote place (b ∷ bs) =
    if closes quote place b then Some bs else (if breaks place b then None else after_quote quote (next_place place b) bs)

-- the first n bytes are a quote and all up to the quote that closes the constant, or up to the end of the line if none does
abbrev pub IsConstant : List ℕ → ℕ → Type 0
IsConstant [] n = ⊥
IsConstant (b ∷ bs) n = (is_quote b ≡ true) × MatchOption (after_quote b Ordinary bs) (n ≡ 1 + line_of bs) (λ rest. rest ≡ drop n (b ∷ bs))

-- the n bytes are all, and they begin with a comment that isn't closed
abbrev pub IsUnclosed : List ℕ → ℕ → Type 0
IsUnclosed bs n = (begins 47 42 bs ≡ true) × (after_comment (drop 2 bs) ≡ None) × (n ≡ length bs)

-- the first n bytes may be a token
abbrev pub IsToken : List ℕ → ℕ → Type 0
IsToken bs n = IsSolid bs n ⊎ (IsConstant bs n ⊎ IsUnclosed bs n)

-- neither a blank nor a line break nor a comment begins here, but for a block comment that isn't closed
abbrev pub HasNoGap : List ℕ → Type 0
HasNoGap bs = (begins_space bs ≡ false) × (begins_line bs ≡ false) × (begins 47 42 bs ≡ true → after_comment (drop 2 bs) ≡ None)
