use Rattle.std.proofs.Common.{◌≡◌, drop}
use Rattle.bc_parse_tree.specs.View.{exps_view, declarations_view, definitions_view, items_view}
use Rattle.bc_scope_defs.specs.Numbering.{after_all, after_declarations, after_definitions, after_items}
use Rattle.bc_scope_names.specs.View.{numbers_view}
use Rattle.bc_scope_names.proofs.numbering.+numbering.Given as goal

abbrev pub invariant-after_all-loop-e : goal.invariant-after_all-loop-e
invariant-after_all-loop-e l =
    after_all (numbers_view l.at) (exps_view (drop l.e-index l.list)) ≡ after_all (numbers_view l.fn.at) (exps_view l.list)

abbrev pub invariant-after_declarations-loop-declaration : goal.invariant-after_declarations-loop-declaration
invariant-after_declarations-loop-declaration l =
    after_declarations (numbers_view l.at) (declarations_view (drop l.declaration-index l.list)) ≡ after_declarations (numbers_view l.fn.at) (declarations_view l.list)

abbrev pub invariant-after_definitions-loop-definition : goal.invariant-after_definitions-loop-definition
invariant-after_definitions-loop-definition l =
    after_definitions (numbers_view l.at) (definitions_view (drop l.definition-index l.list)) ≡ after_definitions (numbers_view l.fn.at) (definitions_view l.list)

abbrev pub invariant-after_items-loop-item : goal.invariant-after_items-loop-item
invariant-after_items-loop-item l =
    after_items (numbers_view l.at) (items_view (drop l.item-index l.list)) ≡ after_items (numbers_view l.fn.at) (items_view l.list)
