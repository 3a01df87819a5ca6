use Rattle.std.proofs.Common.{◌≡◌, drop, find, is_none}
use Rattle.bc_machine_defs.specs.Places.{address_in}
use Rattle.bc_link.specs.Labels.{uses_of}
use Rattle.bc_link.proofs.draft.unset_label.Given as goal

abbrev pub invariant-loop-item : goal.invariant-loop-item
invariant-loop-item l = find (λ m. is_none (address_in m l.labels)) (uses_of (drop l.item-index l.items)) ≡ find (λ m. is_none (address_in m l.labels)) (uses_of l.items)
