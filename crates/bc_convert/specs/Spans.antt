-- Where the tokens of a text are, and what is between them.
use Rattle.std.specs.Prelude.{ℕ, ◌-◌, ◌<◌, ◌≤◌, List, [], ◌∷◌, length, drop}
use Rattle.bc_convert.specs.declared.source.Token.{Token}
use Rattle.bc_convert.specs.Gaps.{GapThen}
use Rattle.bc_convert.specs.Tokens.{HasNoGap, IsToken}

-- the bytes of a token: one or more, within the text, which begin with no gap
abbrev pub IsTokenAt : List ℕ → Token → Type 0
IsTokenAt text t =
    (t.start < t.end) × (t.end ≤ length text) × HasNoGap (drop t.start text) × IsToken (drop t.start text) (t.end - t.start)

-- from this position on, the text is these tokens and gaps: the tokens follow one another, and before, between and after them
-- are only blanks, line breaks and comments
abbrev pub TokensFrom : List ℕ → ℕ → List Token → Type 0
TokensFrom text at [] = GapThen (drop at text) []
TokensFrom text at (t ∷ ts) = (at ≤ t.start) × GapThen (drop at text) (drop t.start text) × IsTokenAt text t × TokensFrom text t.end ts
