use Rattle.std.proofs.Common.{◌≡◌, ◌++◌, length}
use Rattle.bc_interpret.specs.Placing.{addresses_of, label_addresses}
use Rattle.bc_interpret.proofs.places.all_addresses.Given as goal

abbrev pub invariant-loop-left : goal.invariant-loop-left
invariant-loop-left l = addresses_of l.all.items ++ label_addresses l.left ≡ label_addresses l.places

abbrev pub decreases-loop-left : goal.decreases-loop-left
decreases-loop-left l = length l.left
