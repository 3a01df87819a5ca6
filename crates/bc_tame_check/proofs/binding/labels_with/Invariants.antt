use Rattle.std.proofs.Common.{◌≡◌, ◌++◌, length}
use Rattle.bc_core.specs.View.{items}
use Rattle.bc_core.specs.WellFormed.{labels_of}
use Rattle.bc_tame_check.proofs.binding.labels_with.Given as goal

abbrev pub invariant-loop-left : goal.invariant-loop-left
invariant-loop-left l = l.labels.items ++ labels_of (items l.left) ≡ labels_of (items l.fn.list)

abbrev pub decreases-loop-left : goal.decreases-loop-left
decreases-loop-left l = length l.left
