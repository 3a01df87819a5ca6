use Rattle.std.proofs.Common.{◌≡◌, vec_len}
use Rattle.bc_interpret_steps.specs.Code.{stack}
use Rattle.bc_interpret_steps.proofs.continuations.pop.Given as goal

abbrev pub invariant-loop-rest : goal.invariant-loop-rest
invariant-loop-rest l = stack l.rests.items ≡ stack l.fn.rests.items

abbrev pub decreases-loop-rest : goal.decreases-loop-rest
decreases-loop-rest l = vec_len l.rests
