-- For proofs: the addresses of labels, indexed by label.
use Rattle.std.specs.Prelude.{ℕ, ◌≡◌, List, map, slice_index_or}
use Rattle.std.specs.Global.{Vec}
use Rattle.bc_machine_defs.specs.declared.image.SegmentPlace.{SegmentPlace}
use Rattle.bc_link.specs.Labels.{label_address}

-- the list has the address of each label at the label's index
abbrev pub IsAddressed : List (ℕ × ℕ) → List ℕ → Type 0
IsAddressed pairs addresses = (l : ℕ) → slice_index_or addresses l 0 ≡ label_address pairs l

-- such lists as functions from labels to addresses
abbrev pub addresses_of : List (Vec ℕ) → List (ℕ → ℕ)
addresses_of all = map (λ (addresses : Vec ℕ) l. slice_index_or addresses.items l 0) all

-- the addresses of labels in these segments
abbrev pub label_addresses : List SegmentPlace → List (ℕ → ℕ)
label_addresses places = map (λ (place : SegmentPlace). label_address place.labels) places
