use Rattle.std.proofs.Common.{◌≡◌, ◌++◌, drop}
use Rattle.bc_parse_tree.specs.View.{exps_view}
use Rattle.bc_scope_defs.specs.Sides.{side_levels}
use Rattle.bc_scope_names.specs.View.{scope_view}
use Rattle.bc_scope_names.proofs.sides.side_levels.Given as goal

abbrev pub invariant-loop-place : goal.invariant-loop-place
invariant-loop-place l =
    l.levels.items ++ side_levels (scope_view l.scope) (exps_view (drop l.place-index l.places)) l.level ≡ side_levels (scope_view l.scope) (exps_view l.places) l.level
