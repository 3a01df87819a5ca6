use Rattle.std.proofs.Common.{◌≡◌, ◌+◌, ◌-◌, map, drop, length}
use Rattle.bc_core.specs.View.{place_of}
use Rattle.bc_core.specs.Words.{data_words}
use Rattle.bc_interpret_store.specs.Cells.{cell_view}
use Rattle.bc_interpret.specs.Starting.{written}
use Rattle.bc_interpret.proofs.start.put_place.Given as goal

abbrev pub invariant-loop-word : goal.invariant-loop-word
invariant-loop-word l =
    written (drop l.index (data_words (place_of l.place))) (l.from + l.index) (map cell_view l.cells.items)
    ≡ written (data_words (place_of l.place)) l.from (map cell_view l.fn.cells.items)

abbrev pub decreases-loop-word : goal.decreases-loop-word
decreases-loop-word l = length (data_words (place_of l.place)) - l.index
