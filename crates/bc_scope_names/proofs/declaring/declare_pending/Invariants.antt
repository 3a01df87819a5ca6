use Rattle.std.proofs.Common.{◌≡◌, drop}
use Rattle.bc_parse_tree.specs.View.{entries_view}
use Rattle.bc_scope_defs.specs.Scoping.{pending}
use Rattle.bc_scope_names.specs.View.{scope_view, Extends}
use Rattle.bc_scope_names.proofs.declaring.declare_pending.Given as goal

abbrev pub invariant-loop-entry : goal.invariant-loop-entry
invariant-loop-entry l =
    (pending l.storage (entries_view (drop l.entry-index l.entries)) (scope_view l.scope) ≡ pending l.storage (entries_view l.entries) (scope_view l.fn.scope)) × Extends l.fn.scope l.scope
