use Rattle.std.proofs.Common.{◌≡◌, map, drop}
use Rattle.bc_scope_defs.specs.Scoping.{variables}
use Rattle.bc_scope_names.specs.View.{scope_view, Extends}
use Rattle.bc_scope_names.proofs.declaring.declare_variables.Given as goal

abbrev pub invariant-loop-name : goal.invariant-loop-name
invariant-loop-name l =
    (variables (map (λ n. n.now) (drop l.name-index l.names)) l.offset (scope_view l.scope) ≡ variables (map (λ n. n.now) l.names) l.fn.offset (scope_view l.fn.scope)) × Extends l.fn.scope l.scope
