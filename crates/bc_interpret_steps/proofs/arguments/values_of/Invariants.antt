use Rattle.std.proofs.Common.{length}
use Rattle.bc_interpret_steps.specs.Code.{spot_of}
use Rattle.bc_interpret_steps.specs.Came.{sight}
use Rattle.bc_interpret_steps.specs.Arrived.{WorkedOut}
use Rattle.bc_interpret_steps.proofs.arguments.values_of.Given as goal

abbrev pub invariant-loop-last : goal.invariant-loop-last
invariant-loop-last l = WorkedOut (sight l.state (spot_of l.site)) l.arguments l.left l.values.items

abbrev pub decreases-loop-last : goal.decreases-loop-last
decreases-loop-last l = length l.left
