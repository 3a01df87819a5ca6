use Rattle.std.proofs.Common.{◌≡◌, ◌+◌, map, length}
use Rattle.bc_core.specs.Level.{cells_of_all}
use Rattle.bc_core.specs.View.{variable}
use Rattle.bc_tame_check.proofs.binding.cells_of_all.Given as goal

abbrev pub invariant-loop-left : goal.invariant-loop-left
invariant-loop-left l = l.above + cells_of_all (map variable l.left) ≡ l.fn.level + cells_of_all (map variable l.fn.variables)

abbrev pub decreases-loop-left : goal.decreases-loop-left
decreases-loop-left l = length l.left
