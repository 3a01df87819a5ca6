use Rattle.std.proofs.Common.{◌≡◌, ◌+◌, drop}
use Rattle.bc_parse_tree.specs.View.{definitions_view}
use Rattle.bc_scope_names.specs.Priors.{all_cells_by, all_declared_by}
use Rattle.bc_scope_names.specs.View.{scope_view, numbers_view, Extends}
use Rattle.bc_scope_names.proofs.declaring.declare_let.Given as goal

abbrev pub invariant-loop-definition : goal.invariant-loop-definition
invariant-loop-definition l =
    (l.offset + all_cells_by (drop l.i l.priors.globals.items) (drop l.i l.priors.greatest.items) (definitions_view (drop l.definition-index l.definitions)) ≡ l.level + all_cells_by l.priors.globals.items l.priors.greatest.items (definitions_view l.definitions))
    × (all_declared_by (drop l.i l.priors.globals.items) (drop l.i l.priors.greatest.items) (numbers_view l.at) l.offset (definitions_view (drop l.definition-index l.definitions)) (scope_view l.scope)
    ≡ all_declared_by l.priors.globals.items l.priors.greatest.items (numbers_view l.fn.at) l.level (definitions_view l.definitions) (scope_view l.fn.scope))
    × Extends l.fn.scope l.scope
    × (l.i ≡ l.definition-index)
