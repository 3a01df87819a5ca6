use Rattle.std.proofs.Common.{◌≡◌, length}
use Rattle.bc_interpret_store.specs.Recorded.{Extends, AgreesBut}
use Rattle.bc_interpret_store.proofs.history.catch_up_logged.Given as goal

abbrev pub invariant-loop-address : goal.invariant-loop-address
invariant-loop-address l = record {
  length_kept : length l.seen.items ≡ length l.fn.seen.items;
  extends : Extends l.fn.changes.items l.changes.items l.fn.seen.items l.seen.items;
  agrees : AgreesBut l.left l.seen.items l.cells.items;
}

abbrev pub decreases-loop-address : goal.decreases-loop-address
decreases-loop-address l = length l.left
