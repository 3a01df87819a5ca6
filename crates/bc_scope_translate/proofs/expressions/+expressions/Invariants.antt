use Rattle.std.proofs.Common.{◌≡◌, ◌++◌, drop, map}
use Rattle.bc_core.specs.View.{exp}
use Rattle.bc_parse_tree.specs.View.{exps_view}
use Rattle.bc_scope_defs.specs.Numbering.{after_all}
use Rattle.bc_scope_defs.specs.Translation.{core_arguments}
use Rattle.bc_scope_names.specs.View.{scope_view}
use Rattle.bc_scope_translate.specs.Next.{next_numbers}
use Rattle.bc_scope_translate.specs.Seen.{args_list}
use Rattle.bc_scope_translate.proofs.expressions.+expressions.Given as goal

abbrev pub invariant-arguments-loop-e : goal.invariant-arguments-loop-e
invariant-arguments-loop-e l =
    (map exp l.values.items ++ args_list (core_arguments (scope_view l.scope) (next_numbers l.at) (exps_view (drop l.e-index l.list))) ≡ args_list (core_arguments (scope_view l.scope) (next_numbers l.fn.at) (exps_view l.list)))
    × (after_all (next_numbers l.at) (exps_view (drop l.e-index l.list)) ≡ after_all (next_numbers l.fn.at) (exps_view l.list))
