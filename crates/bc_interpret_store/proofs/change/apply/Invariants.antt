use Rattle.std.proofs.Common.{◌≡◌, length}
use Rattle.bc_interpret_store.specs.Changes.{applied}
use Rattle.bc_interpret_store.proofs.change.apply.Given as goal

abbrev pub invariant-loop-left : goal.invariant-loop-left
invariant-loop-left l = applied l.left l.cells.items ≡ applied l.changes l.fn.cells.items

abbrev pub decreases-loop-left : goal.decreases-loop-left
decreases-loop-left l = length l.left
