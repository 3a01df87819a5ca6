-- The addresses of segments.
use Rattle.std.specs.Prelude.{ℕ, ◌+◌, ◌≡◌, List, [], ◌∷◌, refl}
use Rattle.bc_text_items.specs.Sizes.{size_of_all}
use Rattle.bc_text_items.specs.Assembled.{label_places}
use Rattle.bc_text_items.specs.declared.item.Item.{Item}
use Rattle.bc_text_items.specs.declared.item.Item.TheVariants.{Label, Data, DataLabel}
use Rattle.bc_machine_defs.specs.declared.image.SegmentPlace.{SegmentPlace}

-- the number of words of all segments
abbrev pub size_of_segments : List (List Item) → ℕ
size_of_segments [] = 0
size_of_segments (segment ∷ segments) = size_of_all segment + size_of_segments segments

-- the first segment begins at 520, after the globals; the stack begins after the last segment
abbrev pub stack_base_of : List (List Item) → ℕ
stack_base_of segments = 520 + size_of_segments segments

-- the place of a segment that begins at `start`: its start, and each label with its address
abbrev pub place_at : ℕ → List Item → SegmentPlace
place_at start segment = record { start = start; labels = label_places start segment }

-- the places of segments that follow one another from `start` on
abbrev pub places_from : ℕ → List (List Item) → List SegmentPlace
places_from start [] = []
places_from start (segment ∷ segments) = place_at start segment ∷ places_from (start + size_of_all segment) segments

-- ---- Worked examples

-- two segments, `1 D7` and `D8 2 DL2`
pub two_places : places_from 520 ((Label 1 ∷ Data 7 ∷ []) ∷ (Data 8 ∷ Label 2 ∷ DataLabel 2 ∷ []) ∷ []) ≡ (record { start = 520; labels = (1, 520) ∷ [] })
    ∷ (record { start = 521; labels = (2, 522) ∷ [] }) ∷ []
two_places = refl

pub two_bases : stack_base_of ((Label 1 ∷ Data 7 ∷ []) ∷ (Data 8 ∷ Label 2 ∷ DataLabel 2 ∷ []) ∷ []) ≡ 523
two_bases = refl
