use Rattle.std.proofs.Common.{◌≡◌, ◌+◌, length}
use Rattle.bc_core.specs.Level.{cells_declared}
use Rattle.bc_core.specs.View.{declarations}
use Rattle.bc_interpret_steps.proofs.commands.cells_declared.Given as goal

abbrev pub invariant-loop-left : goal.invariant-loop-left
invariant-loop-left l = l.cells + cells_declared (declarations l.left) ≡ cells_declared (declarations l.fn.declarations)

abbrev pub decreases-loop-left : goal.decreases-loop-left
decreases-loop-left l = length l.left
