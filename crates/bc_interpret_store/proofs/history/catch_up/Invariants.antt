use Rattle.std.proofs.Common.{◌≡◌, length}
use Rattle.bc_interpret_store.specs.Recorded.{Extends, Agrees}
use Rattle.bc_interpret_store.proofs.history.catch_up.Given as goal

abbrev pub invariant-loop-index : goal.invariant-loop-index
invariant-loop-index l = record {
  length_kept : length l.seen.items ≡ length l.fn.seen.items;
  extends : Extends l.fn.changes.items l.changes.items l.fn.seen.items l.seen.items;
  agrees : Agrees l.index l.seen.items l.cells.items;
}
