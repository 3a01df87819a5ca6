use Rattle.std.proofs.Common.{◌≡◌}
use Rattle.bc_core.specs.Value.{has_call}
use Rattle.bc_core.specs.View.{exp}
use Rattle.bc_interpret_pure.specs.Waits.{any_call, weight_of_all}
use Rattle.bc_interpret_pure.proofs.calls.has_call.Given as goal

abbrev pub invariant-loop-next : goal.invariant-loop-next
invariant-loop-next l = any_call l.waiting.items ≡ has_call (exp l.e)

abbrev pub decreases-loop-next : goal.decreases-loop-next
decreases-loop-next l = weight_of_all l.waiting.items
