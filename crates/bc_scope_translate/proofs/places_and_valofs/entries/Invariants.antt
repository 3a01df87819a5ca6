use Rattle.std.proofs.Common.{◌≡◌, drop}
use Rattle.bc_parse_tree.specs.View.{entries_view}
use Rattle.bc_scope_defs.specs.Numbering.{after_entries}
use Rattle.bc_scope_defs.specs.Scoping.{in_entries}
use Rattle.bc_scope_defs.specs.Found.{found_in_entries}
use Rattle.bc_scope_names.specs.View.{scope_view, numbers_view, Extends}
use Rattle.bc_scope_translate.specs.Finding.{core_view, found_after}
use Rattle.bc_scope_translate.proofs.places_and_valofs.entries.Given as goal

abbrev pub invariant-loop-tree : goal.invariant-loop-tree
invariant-loop-tree l =
    (found_after (core_view l.found) (found_in_entries l.storage (numbers_view l.found.at) (entries_view (drop l.tree-index l.list)) (scope_view l.scope)) ≡ found_after (core_view l.fn.found) (found_in_entries l.storage (numbers_view l.fn.found.at) (entries_view l.list) (scope_view l.fn.scope)))
    × (after_entries l.storage (numbers_view l.found.at) (entries_view (drop l.tree-index l.list)) ≡ after_entries l.storage (numbers_view l.fn.found.at) (entries_view l.list))
    × (in_entries l.storage (numbers_view l.found.at) (entries_view (drop l.tree-index l.list)) (scope_view l.scope) ≡ in_entries l.storage (numbers_view l.fn.found.at) (entries_view l.list) (scope_view l.fn.scope))
    × Extends l.fn.scope l.scope
