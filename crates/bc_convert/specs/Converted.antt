-- A text with some of its spans replaced.
use Rattle.std.specs.Prelude.{◌≢◌, ℕ, ◌≤◌, List, [], ◌∷◌, ◌++◌, drop, slice_range, All}
use Rattle.bc_convert.specs.declared.replacement.Replacement.{Replacement}

-- the text from a position on, with each span replaced
abbrev pub converted_from : ℕ → List ℕ → List Replacement → List ℕ
converted_from at text [] = drop at text
converted_from at text (r ∷ rs) = slice_range text at r.start ++ (r.text.items ++ converted_from r.end text rs)

-- the text with each span replaced
abbrev pub converted : List ℕ → List Replacement → List ℕ
converted text rs = converted_from 0 text rs

-- the spans begin at this position or after it, rise, don't overlap, and end within a text of this length
abbrev pub RiseWithin : ℕ → ℕ → List Replacement → Type 0
RiseWithin at size [] = at ≤ size
RiseWithin at size (r ∷ rs) = (at ≤ r.start) × (r.start ≤ r.end) × (r.end ≤ size) × RiseWithin r.end size rs

-- a replacement changes its span
abbrev pub Changes : List ℕ → Replacement → Type 0
Changes text r = slice_range text r.start r.end ≢ r.text.items

-- each replacement changes its span
abbrev pub ChangesText : List ℕ → List Replacement → Type 0
ChangesText text rs = All (Changes text) rs
