use Rattle.std.proofs.Common.{◌≡◌, ◌+◌, true}
use Rattle.std.specs.Prelude.{Some}
use Rattle.bc_tame.specs.Tame.{all_cells, all_between}
use Rattle.bc_tame_check.specs.Views.{bounds_in, test_of, reads_at}
use Rattle.bc_tame_check.proofs.knows.all_between.Given as goal

abbrev pub invariant-loop-left : goal.invariant-loop-left
invariant-loop-left l =
    (all_cells (test_of l.fn.test) (reads_at l.fn.at) l.left l.offset ≡ true → all_between (test_of l.fn.test) (reads_at l.fn.at) (Some (bounds_in l.fn.cells)) ≡ true)
    × (l.offset + l.left ≡ l.fn.cells.greatest + 1)

abbrev pub decreases-loop-left : goal.decreases-loop-left
decreases-loop-left l = l.left
