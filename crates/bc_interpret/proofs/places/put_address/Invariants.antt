use Rattle.std.proofs.Common.{◌≡◌, ℕ, ◌+◌, ◌-◌, vec_len}
use Rattle.std.specs.Prelude.{slice_index}
use Rattle.bc_interpret.proofs.places.put_address.Given as goal

abbrev pub invariant-loop-addresses : goal.invariant-loop-addresses
invariant-loop-addresses l = (k : ℕ) → slice_index l.addresses.items k ≡ slice_index l.fn.addresses.items k

abbrev pub decreases-loop-addresses : goal.decreases-loop-addresses
decreases-loop-addresses l = l.index + 1 - vec_len l.addresses
