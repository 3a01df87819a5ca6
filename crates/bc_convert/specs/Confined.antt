-- Confined spans: those that meet at most one token.
use Rattle.std.specs.Prelude.{◌≡◌, ℕ, ◌≤◌, Bool, true, nat_le, nat_lt, ◌&&◌, List, [], ◌∷◌, length, if◌then◌else◌, All}
use Rattle.std.specs.List.{filter}
use Rattle.bc_convert.specs.declared.replacement.Replacement.{Replacement}
use Rattle.bc_convert.specs.declared.source.Token.{Token}
use Rattle.bc_convert.specs.Spans.{TokensFrom}

-- whether a span and a token have a byte in common, or the span is empty and within the token
abbrev pub meets : Replacement → Token → Bool
meets r t = nat_lt t.start r.end && nat_lt r.start t.end

-- of these tokens, a span meets at most one
abbrev pub MeetsAtMostOne : List Token → Replacement → Type 0
MeetsAtMostOne tokens r = length (filter (meets r) tokens) ≤ 1

-- the text has tokens of which each of these spans meets at most one
abbrev pub AreConfined : List ℕ → List Replacement → Type 0
AreConfined text rs = (tokens : List Token) × TokensFrom text 0 tokens × All (MeetsAtMostOne tokens) rs

-- these tokens without those at the start that end at this position or before it
abbrev pub tokens_after : ℕ → List Token → List Token
tokens_after at [] = []
tokens_after at (t ∷ ts) = if nat_le t.end at then tokens_after at ts else (t ∷ ts)

-- whether the second of these tokens, if there is one, begins at this position or after it
abbrev pub second_begins_after : ℕ → List Token → Bool
second_begins_after at [] = true
second_begins_after at (t ∷ []) = true
second_begins_after at (t ∷ u ∷ ts) = nat_le at u.start

-- whether a span meets at most one of these tokens, if they rise: all but the first of those that end after its start begin at its end
-- or after it
abbrev pub is_confined : List Token → Replacement → Bool
is_confined tokens r = second_begins_after r.end (tokens_after r.start tokens)
