use Rattle.std.proofs.Common.{◌≡◌, length}
use Rattle.bc_core.specs.View.{items}
use Rattle.bc_tame.specs.Tame.{has_no_entry}
use Rattle.bc_tame_check.proofs.learning.has_no_entry.Given as goal

abbrev pub invariant-loop-left : goal.invariant-loop-left
invariant-loop-left l = has_no_entry (items l.left) ≡ has_no_entry (items l.fn.list)

abbrev pub decreases-loop-left : goal.decreases-loop-left
decreases-loop-left l = length l.left
