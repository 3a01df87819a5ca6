-- How many operators a pair of parentheses holds.
use Rattle.std.specs.Prelude.{ℕ, ◌+◌, List, [], ◌∷◌, max}
use Rattle.bc_lex_tokens.specs.declared.symbol.Symbol.TheVariants as sign
use Rattle.bc_parse_tree.specs.Parts.{Part, A}

-- 1 for an operator, 0 for any other part; the `,` of `->` isn't counted
abbrev pub operators : Part → ℕ
operators (A sign.Arrow) = 1
operators (A sign.Equivalent) = 1
operators (A sign.NotEquivalent) = 1
operators (A sign.LogicalOr) = 1
operators (A sign.LogicalAnd) = 1
operators (A sign.Not) = 1
operators (A sign.ShiftLeft) = 1
operators (A sign.ShiftRight) = 1
operators (A sign.Equal) = 1
operators (A sign.NotEqual) = 1
operators (A sign.Less) = 1
operators (A sign.GreaterEqual) = 1
operators (A sign.Greater) = 1
operators (A sign.LessEqual) = 1
operators (A sign.Plus) = 1
operators (A sign.Minus) = 1
operators (A sign.Multiply) = 1
operators (A sign.Divide) = 1
operators (A sign.Remainder) = 1
operators (A sign.Indirection) = 1
operators (A sign.AddressOf) = 1
operators _ = 0

-- How many operators each open bracket holds up to here, the innermost bracket first. Adds some to the innermost.
abbrev pub add_to : ℕ → List ℕ → List ℕ
add_to n [] = []
add_to n (k ∷ held) = (k + n) ∷ held

-- how many the innermost bracket holds
abbrev pub innermost : List ℕ → ℕ
innermost [] = 0
innermost (k ∷ held) = k

-- the brackets around the innermost
abbrev pub others : List ℕ → List ℕ
others [] = []
others (k ∷ held) = held

-- the most operators that a pair of parentheses holds, without those in its inner brackets
abbrev pub most_held : List ℕ → List Part → ℕ
most_held held [] = 0
most_held held (A sign.OpenBracket ∷ ts) = most_held (0 ∷ held) ts
most_held held (A sign.OpenSection ∷ ts) = most_held (0 ∷ held) ts
most_held held (A sign.CloseBracket ∷ ts) = max (innermost held) (most_held (others held) ts)
most_held held (A sign.CloseSection ∷ ts) = most_held (others held) ts
most_held held (p ∷ ts) = most_held (add_to (operators p) held) ts
