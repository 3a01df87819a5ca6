use Rattle.bc_interpret_store.proofs.Deltas.{walk_on, walk_back}
use Rattle.std.proofs.Common.{arith}
use Rattle.bc_interpret_store.proofs.change.walk.Goals as goal

pub returns-then-from-to : goal.returns-then-from-to
returns-then-from-to c =
    walk_on c.args.changes.now c.between-made.result.now c.args.from c.args.to c.args.cells.now.items c.apply.new.cells.items (omega arith) c.between-made.ensures c.apply.ensures

pub returns : goal.returns
returns c =
    walk_back c.args.changes.now c.between-gone.result.now c.args.from c.args.to c.args.cells.now.items c.undo.new.cells.items (omega arith) c.between-gone.ensures c.undo.ensures
