use Rattle.std.proofs.Common.{◌≡◌, take}
use Rattle.std.specs.Io.Iter.{u64_saturate}
use Rattle.bc_core.specs.View.{items}
use Rattle.bc_interpret_defs.specs.Trails.{roots_of_items}
use Rattle.bc_interpret_trace.proofs.roots.+roots.Given as goal

abbrev pub invariant-roots_of_items-loop-item : goal.invariant-roots_of_items-loop-item
invariant-roots_of_items-loop-item l = l.roots ≡ u64_saturate (roots_of_items (items (take l.item-index l.items)))
