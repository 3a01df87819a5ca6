use Rattle.std.proofs.Common.{◌≡◌, ◌++◌, drop}
use Rattle.bc_parse_tree.specs.View.{exps_view}
use Rattle.bc_scope_defs.specs.Numbering.{after_all}
use Rattle.bc_scope_defs.specs.Translation.{forms_of_all}
use Rattle.bc_scope_names.specs.View.{scope_view}
use Rattle.bc_scope_translate.specs.Next.{next_numbers}
use Rattle.bc_scope_translate.specs.Seen.{formed_list}
use Rattle.bc_scope_translate.proofs.assignments.side.Given as goal

abbrev pub invariant-loop-e : goal.invariant-loop-e
invariant-loop-e l =
    (formed_list l.formed.items ++ forms_of_all (scope_view l.scope) (next_numbers l.at) (exps_view (drop l.e-index l.list)) ≡ forms_of_all (scope_view l.scope) (next_numbers l.fn.at) (exps_view l.list))
    × (after_all (next_numbers l.at) (exps_view (drop l.e-index l.list)) ≡ after_all (next_numbers l.fn.at) (exps_view l.list))
