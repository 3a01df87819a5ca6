use Rattle.std.proofs.Common.{◌≡◌, ◌-◌, ◌++◌, map}
use Rattle.bc_core.specs.Map.{standing}
use Rattle.bc_core.specs.Start.{cells_from}
use Rattle.bc_interpret_store.specs.Cells.{cell_view}
use Rattle.bc_interpret_steps.specs.Sections.{program_of}
use Rattle.bc_interpret.proofs.start.start_cells.Given as goal

abbrev pub invariant-loop-number : goal.invariant-loop-number
invariant-loop-number l =
    map cell_view l.cells.items ++ cells_from (l.count - l.number) l.number (standing (program_of l.sections))
    ≡ cells_from l.count 0 (standing (program_of l.sections))
