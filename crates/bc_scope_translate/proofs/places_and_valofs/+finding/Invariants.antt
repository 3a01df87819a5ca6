use Rattle.std.proofs.Common.{◌≡◌, drop}
use Rattle.bc_parse_tree.specs.View.{exps_view, definitions_view, declarations_view, items_view}
use Rattle.bc_scope_defs.specs.Numbering.{after_all, after_definitions, after_declarations, after_items}
use Rattle.bc_scope_defs.specs.Scoping.{in_declarations, level_after}
use Rattle.bc_scope_defs.specs.Found.{found_in_arguments, found_in_sides, found_in_initials, found_in_declarations}
use Rattle.bc_scope_names.specs.View.{scope_view, numbers_view, Extends}
use Rattle.bc_scope_translate.specs.Definitions.{found_in_definitions_by}
use Rattle.bc_scope_translate.specs.Finding.{core_view, found_after, found_items}
use Rattle.bc_scope_translate.proofs.places_and_valofs.+finding.Given as goal

abbrev pub invariant-arguments-loop-e : goal.invariant-arguments-loop-e
invariant-arguments-loop-e l =
    (found_after (core_view l.found) (found_in_arguments (scope_view l.scope) (numbers_view l.found.at) (exps_view (drop l.e-index l.list)) l.above) ≡ found_after (core_view l.fn.found) (found_in_arguments (scope_view l.fn.scope) (numbers_view l.fn.found.at) (exps_view l.list) l.level))
    × (after_all (numbers_view l.found.at) (exps_view (drop l.e-index l.list)) ≡ after_all (numbers_view l.fn.found.at) (exps_view l.list))
    × (l.scope ≡ l.fn.scope)

abbrev pub invariant-sides-loop-e : goal.invariant-sides-loop-e
invariant-sides-loop-e l =
    (found_after (core_view l.found) (found_in_sides (scope_view l.scope) (numbers_view l.found.at) (exps_view (drop l.e-index l.list)) (drop l.i l.levels)) ≡ found_after (core_view l.fn.found) (found_in_sides (scope_view l.fn.scope) (numbers_view l.fn.found.at) (exps_view l.list) l.levels))
    × (after_all (numbers_view l.found.at) (exps_view (drop l.e-index l.list)) ≡ after_all (numbers_view l.fn.found.at) (exps_view l.list))
    × (l.scope ≡ l.fn.scope)

abbrev pub invariant-initials-loop-e : goal.invariant-initials-loop-e
invariant-initials-loop-e l =
    (found_after (core_view l.found) (found_in_initials (scope_view l.scope) (numbers_view l.found.at) (exps_view (drop l.e-index l.list)) l.level) ≡ found_after (core_view l.fn.found) (found_in_initials (scope_view l.fn.scope) (numbers_view l.fn.found.at) (exps_view l.list) l.level))
    × (after_all (numbers_view l.found.at) (exps_view (drop l.e-index l.list)) ≡ after_all (numbers_view l.fn.found.at) (exps_view l.list))
    × (l.scope ≡ l.fn.scope)

abbrev pub invariant-definitions-loop-tree : goal.invariant-definitions-loop-tree
invariant-definitions-loop-tree l =
    (found_after (core_view l.found) (found_in_definitions_by (drop l.i l.priors.globals.items) (scope_view l.scope) (numbers_view l.found.at) (definitions_view (drop l.tree-index l.list)) l.level) ≡ found_after (core_view l.fn.found) (found_in_definitions_by l.priors.globals.items (scope_view l.fn.scope) (numbers_view l.fn.found.at) (definitions_view l.list) l.level))
    × (after_definitions (numbers_view l.found.at) (definitions_view (drop l.tree-index l.list)) ≡ after_definitions (numbers_view l.fn.found.at) (definitions_view l.list))
    × (l.scope ≡ l.fn.scope)

abbrev pub invariant-declarations-loop-tree : goal.invariant-declarations-loop-tree
invariant-declarations-loop-tree l =
    (level_after (scope_view l.scope) (numbers_view l.found.at) l.following (declarations_view (drop l.tree-index l.list)) ≡ level_after (scope_view l.fn.scope) (numbers_view l.fn.found.at) l.level (declarations_view l.list))
    × (in_declarations (scope_view l.scope) (numbers_view l.found.at) l.following (declarations_view (drop l.tree-index l.list)) ≡ in_declarations (scope_view l.fn.scope) (numbers_view l.fn.found.at) l.level (declarations_view l.list))
    × (found_after (core_view l.found) (found_in_declarations (scope_view l.scope) (numbers_view l.found.at) (declarations_view (drop l.tree-index l.list)) l.following) ≡ found_after (core_view l.fn.found) (found_in_declarations (scope_view l.fn.scope) (numbers_view l.fn.found.at) (declarations_view l.list) l.level))
    × (after_declarations (numbers_view l.found.at) (declarations_view (drop l.tree-index l.list)) ≡ after_declarations (numbers_view l.fn.found.at) (declarations_view l.list))
    × Extends l.fn.scope l.scope

abbrev pub invariant-items-loop-tree : goal.invariant-items-loop-tree
invariant-items-loop-tree l =
    (found_after (core_view l.found) (found_items (scope_view l.scope) (numbers_view l.found.at) (items_view (drop l.tree-index l.trees)) l.level) ≡ found_after (core_view l.fn.found) (found_items (scope_view l.fn.scope) (numbers_view l.fn.found.at) (items_view l.trees) l.level))
    × (after_items (numbers_view l.found.at) (items_view (drop l.tree-index l.trees)) ≡ after_items (numbers_view l.fn.found.at) (items_view l.trees))
    × (l.scope ≡ l.fn.scope)
