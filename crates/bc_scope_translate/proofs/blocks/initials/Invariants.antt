use Rattle.std.proofs.Common.{◌≡◌, ◌++◌, map, drop}
use Rattle.bc_core.specs.View.{variable}
use Rattle.bc_parse_tree.specs.View.{exps_view}
use Rattle.bc_scope_defs.specs.Numbering.{after_all}
use Rattle.bc_scope_defs.specs.Translation.{forms_of_all, initials}
use Rattle.bc_scope_names.specs.View.{scope_view}
use Rattle.bc_scope_translate.specs.Next.{next_numbers}
use Rattle.bc_scope_translate.proofs.blocks.initials.Given as goal

abbrev pub invariant-loop-e : goal.invariant-loop-e
invariant-loop-e l =
    (map variable l.variables.items ++ initials (forms_of_all (scope_view l.scope) (next_numbers l.at) (exps_view (drop l.e-index l.list))) ≡ map variable l.fn.variables.items ++ initials (forms_of_all (scope_view l.scope) (next_numbers l.fn.at) (exps_view l.list)))
    × (after_all (next_numbers l.at) (exps_view (drop l.e-index l.list)) ≡ after_all (next_numbers l.fn.at) (exps_view l.list))
