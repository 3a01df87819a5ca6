-- Lines of a text, given as its bytes. A line ends at a line feed, the byte 10.
use Rattle.std.specs.Prelude.{ℕ, ◌≡◌, ◌∷◌, List, [], Bool, nat_eq, filter, length, refl}

-- How many line feeds these bytes have.
abbrev pub breaks : List ℕ → ℕ
breaks bytes = length (filter (λ byte. nat_eq byte 10) bytes)

-- Examples: a text of two lines, and one that ends with its line feed.
breaks_of_two : breaks (65 ∷ 10 ∷ 66 ∷ []) ≡ 1
breaks_of_two = refl

breaks_at_the_end : breaks (65 ∷ 10 ∷ []) ≡ 1
breaks_at_the_end = refl

-- A carriage return doesn't end a line.
breaks_of_a_return : breaks (65 ∷ 13 ∷ 66 ∷ []) ≡ 0
breaks_of_a_return = refl
