-- Which of a list of candidates are carried out.
use Rattle.std.specs.Prelude.{ℕ, List, [], ◌∷◌, length, slice_range, Bool, cond, not, ◌&&◌, nat_le}
use Rattle.std.specs.Str.{bytes_eq}
use Rattle.bc_convert.specs.declared.replacement.Replacement.{Replacement}

-- whether a replacement changes its span
abbrev pub changes : List ℕ → Replacement → Bool
changes text r = not (bytes_eq (slice_range text r.start r.end) r.text.items)

-- whether a replacement begins at this position or after it, ends within the text, and changes its span
abbrev pub fits : ℕ → List ℕ → Replacement → Bool
fits at text r = nat_le at r.start && (nat_le r.start r.end && (nat_le r.end (length text) && changes text r))

-- those that fit, each after the one taken before it; the first one must begin at this position or after it
abbrev pub settled_from : ℕ → List ℕ → List Replacement → List Replacement
settled_from at text [] = []
settled_from at text (r ∷ rs) = cond (fits at text r) (r ∷ settled_from r.end text rs) (settled_from at text rs)

-- of these candidates, in order, each one that fits after those taken before it
abbrev pub settled : List ℕ → List Replacement → List Replacement
settled text rs = settled_from 0 text rs

-- the first list is the second one without some of its elements, in the same order
pub data IsSublist : List Replacement → List Replacement → Type 0 where
  none : IsSublist [] []
  kept : (r : Replacement) (rs all : List Replacement) → IsSublist rs all → IsSublist (r ∷ rs) (r ∷ all)
  left_out : (r : Replacement) (rs all : List Replacement) → IsSublist rs all → IsSublist rs (r ∷ all)
