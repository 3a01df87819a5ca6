use Rattle.std.proofs.Common.{◌≡◌, drop}
use Rattle.bc_parse_tree.specs.View.{definitions_view}
use Rattle.bc_scope_names.specs.Priors.{own_by}
use Rattle.bc_scope_names.specs.View.{scope_view, Extends}
use Rattle.bc_scope_names.proofs.declaring.declare_own.Given as goal

abbrev pub invariant-loop-definition : goal.invariant-loop-definition
invariant-loop-definition l =
    (own_by (drop l.i l.globals) (definitions_view (drop l.definition-index l.definitions)) (scope_view l.scope) ≡ own_by l.globals (definitions_view l.definitions) (scope_view l.fn.scope))
    × Extends l.fn.scope l.scope
    × (l.i ≡ l.definition-index)
