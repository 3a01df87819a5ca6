use Rattle.std.proofs.Common.{◌≡◌, ◌+◌, drop}
use Rattle.bc_parse_tree.specs.View.{labels_view}
use Rattle.bc_scope_defs.specs.Numbering.{labels_of}
use Rattle.bc_scope_defs.specs.Scoping.{in_labels}
use Rattle.bc_scope_names.specs.View.{scope_view, Extends}
use Rattle.bc_scope_names.proofs.declaring.declare_labels.Given as goal

abbrev pub invariant-loop-label : goal.invariant-loop-label
invariant-loop-label l =
    (in_labels l.number (labels_view (drop l.label-index l.labels)) (scope_view l.scope) ≡ in_labels l.fn.number (labels_view l.labels) (scope_view l.fn.scope))
    × (l.number + labels_of (labels_view (drop l.label-index l.labels)) ≡ l.fn.number + labels_of (labels_view l.labels))
    × Extends l.fn.scope l.scope
