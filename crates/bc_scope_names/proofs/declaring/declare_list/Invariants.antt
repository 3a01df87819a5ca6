use Rattle.std.proofs.Common.{◌≡◌, drop}
use Rattle.bc_parse_tree.specs.View.{items_view}
use Rattle.bc_scope_defs.specs.Scoping.{in_list}
use Rattle.bc_scope_names.specs.View.{scope_view, Extends}
use Rattle.bc_scope_names.proofs.declaring.declare_list.Given as goal

abbrev pub invariant-loop-item : goal.invariant-loop-item
invariant-loop-item l =
    (in_list l.number (items_view (drop l.item-index l.items)) (scope_view l.scope) ≡ in_list l.fn.number (items_view l.items) (scope_view l.fn.scope)) × Extends l.fn.scope l.scope
