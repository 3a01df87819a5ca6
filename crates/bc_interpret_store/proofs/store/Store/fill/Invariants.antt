use Rattle.std.proofs.Common.{◌≡◌}
use Rattle.bc_core.specs.Store.{filled}
use Rattle.bc_interpret_store.specs.Cells.{cell_view}
use Rattle.bc_interpret_store.proofs.store.Store.fill.Given as goal

abbrev pub invariant-loop-left : goal.invariant-loop-left
invariant-loop-left l = filled l.left l.address (cell_view l.cell) l.self ≡ filled l.fn.count l.fn.from (cell_view l.fn.cell) l.fn.self

abbrev pub decreases-loop-left : goal.decreases-loop-left
decreases-loop-left l = l.left
