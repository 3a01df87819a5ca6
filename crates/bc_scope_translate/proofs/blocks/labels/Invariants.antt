use Rattle.std.proofs.Common.{◌≡◌, ◌+◌, ◌++◌, map, drop}
use Rattle.bc_parse_tree.specs.View.{labels_view}
use Rattle.bc_scope_defs.specs.Numbering.{labels_of}
use Rattle.bc_scope_names.specs.View.{scope_view}
use Rattle.bc_scope_translate.specs.Seen.{entry_view, label_entries}
use Rattle.bc_scope_translate.proofs.blocks.labels.Given as goal

abbrev pub invariant-loop-tree : goal.invariant-loop-tree
invariant-loop-tree l =
    (l.number + labels_of (labels_view (drop l.tree-index l.trees)) ≡ l.fn.number + labels_of (labels_view l.trees))
    × (map entry_view l.list.items ++ label_entries (scope_view l.scope) l.number (labels_view (drop l.tree-index l.trees)) ≡ map entry_view l.fn.list.items ++ label_entries (scope_view l.scope) l.fn.number (labels_view l.trees))
