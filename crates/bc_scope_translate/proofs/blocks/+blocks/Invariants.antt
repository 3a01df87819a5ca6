use Rattle.std.proofs.Common.{◌≡◌, ◌++◌, map, drop}
use Rattle.bc_parse_tree.specs.View.{items_view}
use Rattle.bc_scope_defs.specs.Numbering.{after_items}
use Rattle.bc_scope_names.specs.View.{scope_view}
use Rattle.bc_scope_translate.specs.Next.{next_numbers}
use Rattle.bc_scope_translate.specs.Seen.{entry_view, items_entries}
use Rattle.bc_scope_translate.proofs.blocks.+blocks.Given as goal

abbrev pub invariant-items-loop-tree : goal.invariant-items-loop-tree
invariant-items-loop-tree l =
    (map entry_view l.list.items ++ items_entries (scope_view l.scope) l.number (next_numbers l.at) (items_view (drop l.tree-index l.trees)) l.level ≡ items_entries (scope_view l.fn.scope) l.fn.number (next_numbers l.fn.at) (items_view l.trees) l.level)
    × (after_items (next_numbers l.at) (items_view (drop l.tree-index l.trees)) ≡ after_items (next_numbers l.fn.at) (items_view l.trees))
    × (l.scope ≡ l.fn.scope)
