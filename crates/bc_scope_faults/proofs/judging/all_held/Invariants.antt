use Rattle.std.proofs.Common.{◌≡◌, ◌++◌, drop}
use Rattle.bc_parse_tree.specs.View.{exps_view}
use Rattle.bc_scope_defs.specs.FramesAlong.{all_held}
use Rattle.bc_scope_names.specs.View.{scope_view}
use Rattle.bc_scope_faults.proofs.judging.all_held.Given as goal

abbrev pub invariant-loop-place : goal.invariant-loop-place
invariant-loop-place l =
    l.held.items ++ all_held (scope_view l.scope) (exps_view (drop l.place-index l.places)) l.level ≡ all_held (scope_view l.scope) (exps_view l.places) l.level
