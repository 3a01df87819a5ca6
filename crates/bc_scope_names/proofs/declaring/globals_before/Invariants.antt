use Rattle.std.proofs.Common.{◌≡◌, ◌++◌, drop}
use Rattle.bc_parse_tree.specs.View.{definitions_view}
use Rattle.bc_scope_names.specs.Priors.{globals_before}
use Rattle.bc_scope_names.specs.View.{scope_view}
use Rattle.bc_scope_names.proofs.declaring.globals_before.Given as goal

abbrev pub invariant-loop-definition : goal.invariant-loop-definition
invariant-loop-definition l =
    l.globals.items ++ globals_before (scope_view l.scope) (definitions_view (drop l.definition-index l.definitions)) ≡ globals_before (scope_view l.scope) (definitions_view l.definitions)
