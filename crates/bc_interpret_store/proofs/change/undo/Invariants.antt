use Rattle.std.proofs.Common.{◌≡◌, length}
use Rattle.bc_interpret_store.specs.Changes.{undone}
use Rattle.bc_interpret_store.proofs.change.undo.Given as goal

abbrev pub invariant-loop-change : goal.invariant-loop-change
invariant-loop-change l = undone l.left l.cells.items ≡ undone l.changes l.fn.cells.items

abbrev pub decreases-loop-change : goal.decreases-loop-change
decreases-loop-change l = length l.left
