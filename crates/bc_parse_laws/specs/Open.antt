-- How many parentheses are open at once.
use Rattle.std.specs.Prelude.{ℕ, ◌+◌, ◌-◌, List, [], ◌∷◌, max}
use Rattle.bc_lex_tokens.specs.declared.symbol.Symbol.TheVariants as sign
use Rattle.bc_parse_tree.specs.Parts.{Part, A}

-- the most that are open at once, if `open_now` are open before these parts
abbrev pub most_open : ℕ → List Part → ℕ
most_open open_now [] = open_now
most_open open_now (A sign.OpenBracket ∷ ts) = most_open (open_now + 1) ts
most_open open_now (A sign.CloseBracket ∷ ts) = max open_now (most_open (open_now - 1) ts)
most_open open_now (p ∷ ts) = most_open open_now ts
