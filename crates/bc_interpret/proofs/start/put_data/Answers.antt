use Rattle.std.proofs.Common.{map, arith}
use Rattle.bc_interpret_store.specs.Cells.{cell_view}
use Rattle.bc_interpret.proofs.Starting.{section_put}
use Rattle.bc_interpret.proofs.start.put_data.Goals as goal

pub loop-left-preserved : goal.loop-left-preserved
loop-left-preserved c =
    let now = map cell_view c.loop-left.cells.items in
    let new = map cell_view c.put_section.new.cells.items in (
      omega arith,
      section_put c.args.sections.now c.loop-left.left c.index-sections-left.result now new _ c.loop-left-test.true c.loop-left.invariant.0
          c.index-sections-left.is c.in_ok-put_section.ensures c.loop-left.invariant.1,
    )
