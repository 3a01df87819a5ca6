use Rattle.std.proofs.Common.{◌≡◌, drop}
use Rattle.bc_machine_defs.specs.Places.{address_in}
use Rattle.bc_machine_defs.proofs.image.Labels.address.Given as goal

abbrev pub invariant-loop-pair : goal.invariant-loop-pair
invariant-loop-pair l = address_in l.label (drop l.pair-index l.pair-items) ≡ address_in l.label l.pair-items
