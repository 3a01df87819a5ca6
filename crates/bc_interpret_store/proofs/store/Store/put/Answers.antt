use Rattle.bc_interpret_store.proofs.Watching.{put_differs}
use Rattle.bc_interpret_store.proofs.store.Store.put.Goals as goal

pub invariant_of-self : goal.invariant_of-self
invariant_of-self c = c.note_in.ensures c.self.inside.cells.items _ c.self.invariant (put_differs c.self.inside.cells.items c.args.address c.args.cell)
