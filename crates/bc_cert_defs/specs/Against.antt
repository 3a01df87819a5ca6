-- When a verdict fits the segments of a program: each entry's code is there, and the entries are in order.
use Rattle.std.specs.Prelude.{◌≡◌, ℕ, ◌+◌, ◌<◌, ◌≤◌, ◌⊎◌, List, [], ◌∷◌, ◌++◌, length, get_or, drop}
use Rattle.bc_text_items.specs.declared.item.Item.{Item}
use Rattle.bc_rules_defs.specs.declared.piece.Piece.{Piece}
use Rattle.bc_rules_defs.specs.declared.piece.Piece.TheVariants as pieces
use Rattle.bc_cert_defs.specs.declared.mismatch.Mismatch.{Mismatch}
use Rattle.bc_cert_defs.specs.declared.mismatch.Mismatch.TheVariants as faults
use Rattle.bc_cert_defs.specs.Verdict.{Judged}

-- the items begin with this piece, followed by the remaining ones: a piece that is an item is there itself, and as many
-- items are skipped as a body has
pub data Passes : Piece → (items following : List Item) → Type 0 where
  an_item : {i : Item} {items : List Item} → Passes (pieces.Item i) (i ∷ items) items
  a_body : {items : List Item} (body : List Item) → Passes (pieces.Body (length body)) (body ++ items) items

-- the items begin with this code
pub data Stands : List Piece → List Item → Type 0 where
  nothing_more : {items : List Item} → Stands [] items
  one_more : {p : Piece} {ps : List Piece} {items following : List Item} → Passes p items following → Stands ps following → Stands (p ∷ ps) items

-- the number of items of a piece, and of code
abbrev pub taken : Piece → ℕ
taken (pieces.Item i) = 1
taken (pieces.Body n) = n

abbrev pub extent : List Piece → ℕ
extent [] = 0
extent (p ∷ ps) = taken p + extent ps

-- the items of the entry's segment, from the entry's first item on
abbrev pub items_from : List (List Item) → Judged → List Item
items_from segments e = drop e.item (get_or segments e.segment [])

-- the entry's segment exists, and all of the entry's items are within it
pub record LiesIn (segments : List (List Item)) (e : Judged) : Type 0 where
  pub segment : e.segment < length segments
  pub items : e.item + extent e.code ≤ length (get_or segments e.segment [])

-- the entry's code is at its place in the segments
abbrev pub StandsIn : List (List Item) → Judged → Type 0
StandsIn segments e = Stands e.code (items_from segments e)

-- the entry's place is this segment and item, or a later one
abbrev pub IsAfter : (segment item : ℕ) → Judged → Type 0
IsAfter segment item e = (segment < e.segment) ⊎ ((segment ≡ e.segment) × (item ≤ e.item))

-- The entries fit the segments: none is before its predecessor, their items are within the segments, and the items are their
-- code. The first entry must not be before this segment and item.
abbrev pub Fit : List (List Item) → (segment item : ℕ) → List Judged → Type 0
Fit segments segment item [] = Unit {0}
Fit segments segment item (e ∷ es) = IsAfter segment item e × LiesIn segments e × StandsIn segments e × Fit segments e.segment e.item es

-- The first entry that doesn't fit, counted from n on, and why. If several causes apply, it is the first in this order.
pub data Misfit (segments : List (List Item)) : (segment item n : ℕ) → List Judged → Mismatch → Type 0 where
  order : {segment item n : ℕ} {e : Judged} {es : List Judged} → ¬ IsAfter segment item e → Misfit segments segment item n (e ∷ es) (faults.Order n)
  outside : {segment item n : ℕ} {e : Judged} {es : List Judged} → IsAfter segment item e → ¬ LiesIn segments e
      → Misfit segments segment item n (e ∷ es) (faults.OutsideText n)
  differs : {segment item n : ℕ} {e : Judged} {es : List Judged} → IsAfter segment item e → LiesIn segments e → ¬ StandsIn segments e
      → Misfit segments segment item n (e ∷ es) (faults.CodeDiffers n)
  later : {segment item n : ℕ} {e : Judged} {es : List Judged} {m : Mismatch} → IsAfter segment item e → LiesIn segments e → StandsIn segments e
      → Misfit segments e.segment e.item (n + 1) es m → Misfit segments segment item n (e ∷ es) m
