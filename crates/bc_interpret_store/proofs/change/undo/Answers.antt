use Rattle.bc_interpret_store.proofs.Deltas.{undo_more}
use Rattle.bc_interpret_store.proofs.change.undo.Goals as goal

pub loop-change-preserved : goal.loop-change-preserved
loop-change-preserved c =
    undo_more c.loop-change.left.now c.in-Some.earlier.now c.in-Some.change.now c.loop-change.cells.items c.put.new.cells.items _ c.in-Some.ensures.cases.0 c.put.ensures
    c.loop-change.invariant
