use Rattle.std.proofs.Common.{vec_len}
use Rattle.bc_interpret_steps.specs.Code.{exit_of, stack}
use Rattle.bc_interpret_steps.specs.Passing.{PassesOn}
use Rattle.bc_interpret_steps.proofs.exits.pass.Given as goal

abbrev pub invariant-loop-out : goal.invariant-loop-out
invariant-loop-out l = PassesOn (exit_of l.fn.exit) (stack l.fn.rests.items) (exit_of l.now) (stack l.rests.items)

abbrev pub decreases-loop-out : goal.decreases-loop-out
decreases-loop-out l = vec_len l.rests
