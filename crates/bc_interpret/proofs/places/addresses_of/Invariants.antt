use Rattle.std.proofs.Common.{◌≡◌, ℕ, length}
use Rattle.std.specs.Prelude.{unwrap_or, slice_index_or}
use Rattle.bc_machine_defs.specs.Places.{address_in}
use Rattle.bc_link.specs.Labels.{label_address}
use Rattle.bc_interpret.proofs.places.addresses_of.Given as goal

abbrev pub invariant-loop-pair : goal.invariant-loop-pair
invariant-loop-pair l = (k : ℕ) → label_address l.place.labels k ≡ unwrap_or (address_in k l.left) (slice_index_or l.addresses.items k 0)

abbrev pub decreases-loop-pair : goal.decreases-loop-pair
decreases-loop-pair l = length l.left
