use Rattle.std.proofs.Common.{◌≡◌, length}
use Rattle.bc_core.specs.View.{items}
use Rattle.bc_tame.specs.Tame.{are_assignments}
use Rattle.bc_tame_check.proofs.learning.are_assignments.Given as goal

abbrev pub invariant-loop-left : goal.invariant-loop-left
invariant-loop-left l = are_assignments (items l.left) ≡ are_assignments (items l.fn.list)

abbrev pub decreases-loop-left : goal.decreases-loop-left
decreases-loop-left l = length l.left
