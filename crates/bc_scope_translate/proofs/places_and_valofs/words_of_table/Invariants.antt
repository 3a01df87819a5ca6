use Rattle.std.proofs.Common.{◌≡◌, ◌++◌, drop}
use Rattle.bc_parse_tree.specs.View.{exps_view}
use Rattle.bc_scope_defs.specs.Found.{words_of_table}
use Rattle.bc_scope_names.specs.View.{scope_view}
use Rattle.bc_scope_translate.proofs.places_and_valofs.words_of_table.Given as goal

abbrev pub invariant-loop-e : goal.invariant-loop-e
invariant-loop-e l =
    l.words.items ++ words_of_table (scope_view l.scope) (exps_view (drop l.e-index l.values)) ≡ words_of_table (scope_view l.scope) (exps_view l.values)
