use Rattle.std.proofs.Common.{◌≡◌, ℕ, take, nat_eq}
use Rattle.indexmap.specs.IndexMap.{get}
use Rattle.bc_machine_defs.specs.Places.{address_in}
use Rattle.bc_link.proofs.label_table.LabelTable.new.Given as goal

abbrev pub invariant-loop-pair : goal.invariant-loop-pair
invariant-loop-pair l = (label : ℕ) → get nat_eq l.addresses label ≡ address_in label (take l.pair-index l.pair-items)
