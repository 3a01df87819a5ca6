use Rattle.bc_core.specs.View.{root}
use Rattle.bc_select.proofs.Vectors.{rows_of_root}
use Rattle.bc_select.proofs.selection.rows.Goals as goal

pub returns : goal.returns
returns c = rows_of_root (root c.args.root.now) _ _ c.into_rows.ensures c.in_ok-table.ensures
