use Rattle.std.proofs.Common.{◌≡◌, take, length}
use Rattle.bc_scope_names.proofs.scope.Scope.leave.Given as goal

abbrev pub invariant-loop-mark : goal.invariant-loop-mark
invariant-loop-mark l = take l.mark.entries l.self ≡ take l.mark.entries l.fn.self

abbrev pub decreases-loop-mark : goal.decreases-loop-mark
decreases-loop-mark l = length l.self
