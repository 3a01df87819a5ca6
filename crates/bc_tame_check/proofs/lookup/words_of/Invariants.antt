use Rattle.std.proofs.Common.{◌≡◌, ◌+◌, map, length}
use Rattle.bc_core.specs.View.{place_of}
use Rattle.bc_tame.specs.Programs.{table_from}
use Rattle.bc_tame_check.proofs.lookup.words_of.Given as goal

abbrev pub invariant-loop-left : goal.invariant-loop-left
invariant-loop-left l =
    (table_from (map place_of l.left) (l.index + 1) l.fn.wanted ≡ table_from (map place_of l.fn.places) 1 l.fn.wanted) × (l.index + length l.left ≡ length l.fn.places)

abbrev pub decreases-loop-left : goal.decreases-loop-left
decreases-loop-left l = length l.left
