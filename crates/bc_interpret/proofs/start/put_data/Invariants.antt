use Rattle.std.proofs.Common.{◌≡◌, ◌≤◌, map, length, take}
use Rattle.bc_core.specs.Map.{standing}
use Rattle.bc_interpret_store.specs.Cells.{cell_view}
use Rattle.bc_interpret_steps.specs.Sections.{program_of}
use Rattle.bc_interpret.specs.Starting.{filled_with}
use Rattle.bc_interpret.proofs.start.put_data.Given as goal

abbrev pub invariant-loop-left : goal.invariant-loop-left
invariant-loop-left l =
    (l.left ≤ length l.sections) × (filled_with (standing (program_of (take l.left l.sections))) (map cell_view l.cells.items)
    ≡ filled_with (standing (program_of l.sections)) (map cell_view l.fn.cells.items))

abbrev pub decreases-loop-left : goal.decreases-loop-left
decreases-loop-left l = l.left
