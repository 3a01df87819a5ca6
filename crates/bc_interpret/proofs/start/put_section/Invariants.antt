use Rattle.std.proofs.Common.{◌≡◌, map, length}
use Rattle.bc_core.specs.Map.{standing_from}
use Rattle.bc_core.specs.View.{place_of}
use Rattle.bc_interpret_store.specs.Cells.{cell_view}
use Rattle.bc_interpret_steps.specs.Sections.{placed_of}
use Rattle.bc_interpret.specs.Starting.{places_in, filled_with}
use Rattle.bc_interpret.proofs.start.put_section.Given as goal

abbrev pub invariant-loop-place : goal.invariant-loop-place
invariant-loop-place l =
    filled_with (standing_from (placed_of l.section).address 1 (map place_of l.left)) (map cell_view l.cells.items)
    ≡ filled_with (places_in (placed_of l.section)) (map cell_view l.fn.cells.items)

abbrev pub decreases-loop-place : goal.decreases-loop-place
decreases-loop-place l = length l.left
