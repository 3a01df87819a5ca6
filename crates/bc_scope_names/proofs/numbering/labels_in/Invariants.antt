use Rattle.std.proofs.Common.{◌≡◌, ◌+◌, drop}
use Rattle.bc_parse_tree.specs.View.{items_view}
use Rattle.bc_scope_defs.specs.Numbering.{labels_in}
use Rattle.bc_scope_names.proofs.numbering.labels_in.Given as goal

abbrev pub invariant-loop-item : goal.invariant-loop-item
invariant-loop-item l = l.count + labels_in (items_view (drop l.item-index l.items)) ≡ labels_in (items_view l.items)
