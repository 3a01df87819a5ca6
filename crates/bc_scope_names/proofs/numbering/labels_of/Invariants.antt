use Rattle.std.proofs.Common.{◌≡◌, ◌+◌, drop}
use Rattle.bc_parse_tree.specs.View.{labels_view}
use Rattle.bc_scope_defs.specs.Numbering.{labels_of}
use Rattle.bc_scope_names.proofs.numbering.labels_of.Given as goal

abbrev pub invariant-loop-label : goal.invariant-loop-label
invariant-loop-label l = l.count + labels_of (labels_view (drop l.label-index l.labels)) ≡ labels_of (labels_view l.labels)
