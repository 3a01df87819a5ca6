use Rattle.std.proofs.Common.{ap, map, ◌∙◌}
use Rattle.bc_core.specs.Map.{standing}
use Rattle.bc_core.specs.Store.{cell_at}
use Rattle.bc_interpret_store.specs.Cells.{cell_view}
use Rattle.bc_interpret_steps.specs.Sections.{program_of}
use Rattle.bc_interpret.proofs.Starting.{filled_at}
use Rattle.bc_interpret.proofs.start.data_of.Goals as goal

pub returns : goal.returns
returns c a l =
    ap (λ cs. cell_at cs a) c.in_ok-put_data.ensures
    ∙ filled_at (standing (program_of c.args.sections.now)) 65536 (map cell_view c.in_ok-cells.cells.items) a c.in_ok-cells.ensures l
