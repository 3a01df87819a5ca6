use Rattle.std.proofs.Common.{◌≡◌, length}
use Rattle.bc_core.specs.Lists.{has_case}
use Rattle.bc_core.specs.View.{items}
use Rattle.bc_interpret_steps.proofs.lists.has_case.Given as goal

abbrev pub invariant-loop-left : goal.invariant-loop-left
invariant-loop-left l = has_case (items l.left) l.v ≡ has_case (items l.fn.items) l.v

abbrev pub decreases-loop-left : goal.decreases-loop-left
decreases-loop-left l = length l.left
