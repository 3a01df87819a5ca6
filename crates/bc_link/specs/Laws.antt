-- The laws of images.
use Rattle.std.specs.Prelude.{ℕ, ◌≡◌, ◌+◌, ◌<◌, ◌≤◌, List, Some, take, drop, slice_get, length}
use Rattle.bc_text_items.specs.Sizes.{size_of_all}
use Rattle.bc_text_items.specs.Assembled.{assembled, label_places}
use Rattle.bc_text_items.specs.declared.item.Item.{Item}
use Rattle.bc_link.specs.Labels.{label_address}
use Rattle.bc_link.specs.Layout.{stack_base_of, place_at, places_from}
use Rattle.bc_link.specs.Store.{boot, globals_of, store_of}

-- the start of the segment with this number: the address after the segments before it
abbrev pub start_of : List (List Item) → ℕ → ℕ
start_of segments k = stack_base_of (take k segments)

-- this is the segment with this number
abbrev pub IsSegment : List (List Item) → ℕ → List Item → Type 0
IsSegment segments k segment = slice_get segments k ≡ Some segment

-- that address is its start in the image's places
abbrev pub PlacesAreStarts : Type 0
PlacesAreStarts = (segments : List (List Item)) (k : ℕ) (segment : List Item) → IsSegment segments k segment → slice_get (places_from 520 segments) k
    ≡ Some (place_at (start_of segments k) segment)

-- every segment is after the globals and before the stack
abbrev pub RangesLieBetween : Type 0
RangesLieBetween = (segments : List (List Item)) (k : ℕ) (segment : List Item) → IsSegment segments k segment
    → (520 ≤ start_of segments k) × (start_of segments k + size_of_all segment ≤ stack_base_of segments)

-- every segment ends before the segments after it start
abbrev pub RangesAreDisjoint : Type 0
RangesAreDisjoint = (segments : List (List Item)) (j k : ℕ) (segment : List Item) → j < k → IsSegment segments j segment
    → start_of segments j + size_of_all segment ≤ start_of segments k

-- the words of a segment, with the addresses of its labels, begin at its start
abbrev pub WordsStandAtStarts : Type 0
WordsStandAtStarts = (segments : List (List Item)) (k : ℕ) (segment : List Item) → IsSegment segments k segment
    → take (size_of_all segment) (drop (start_of segments k) (store_of segments))
    ≡ assembled (label_address (label_places (start_of segments k) segment)) segment

-- the boot words are at 0 and the cells of the globals at 8, and the store has 65,536 words if the segments fit into it
abbrev pub StoreIsWhole : Type 0
StoreIsWhole = (segments : List (List Item)) → (take 3 (store_of segments) ≡ boot) × (take 512 (drop 8 (store_of segments)) ≡ globals_of segments)
    × (stack_base_of segments ≤ 65536 → length (store_of segments) ≡ 65536)
