use Rattle.std.proofs.Common.{◌≡◌, drop}
use Rattle.bc_parse_tree.specs.View.{exps_view}
use Rattle.bc_scope_defs.specs.Faults.{all_have_cells}
use Rattle.bc_scope_names.specs.View.{scope_view}
use Rattle.bc_scope_faults.proofs.judging.all_have_cells.Given as goal

abbrev pub invariant-loop-place : goal.invariant-loop-place
invariant-loop-place l =
    all_have_cells (scope_view l.scope) (exps_view (drop l.place-index l.places)) ≡ all_have_cells (scope_view l.scope) (exps_view l.places)
