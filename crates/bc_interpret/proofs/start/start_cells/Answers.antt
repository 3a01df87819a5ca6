use Rattle.std.proofs.Common.{◌≡◌, ◌+◌, ◌-◌, ◌++◌, map, sym, ap, subst, ◌∙◌}
use Rattle.bc_core.specs.Map.{standing}
use Rattle.bc_core.specs.Start.{cells_from, start_cell}
use Rattle.bc_interpret_store.specs.Cells.{cell_view}
use Rattle.bc_interpret_steps.specs.Sections.{program_of}
use Rattle.bc_interpret.proofs.Starting.{cell_more}
use Rattle.bc_interpret.proofs.start.start_cells.Goals as goal

pub loop-number-preserved : goal.loop-number-preserved
loop-number-preserved c =
    let all = standing (program_of c.args.sections.now) in
    let n = c.loop-number.number in
    let count = c.args.count in
    subst (λ cells. map cell_view cells ++ cells_from (count - (n + 1)) (n + 1) all ≡ cells_from count 0 all) (sym c.in_ok-push.ensures.items)
    (cell_more c.loop-number.cells.items c.in_ok-cell.cell count n all (cells_from count 0 all) c.loop-number-test.true (c.in_ok-cell.ensures ∙ ap (start_cell all) c.in_ok-address.ensures) c.loop-number.invariant)
