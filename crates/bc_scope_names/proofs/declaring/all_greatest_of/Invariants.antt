use Rattle.std.proofs.Common.{◌≡◌, ◌++◌, drop}
use Rattle.bc_parse_tree.specs.View.{definitions_view}
use Rattle.bc_scope_names.specs.Priors.{all_greatest_of}
use Rattle.bc_scope_names.specs.View.{scope_view}
use Rattle.bc_scope_names.proofs.declaring.all_greatest_of.Given as goal

abbrev pub invariant-loop-definition : goal.invariant-loop-definition
invariant-loop-definition l =
    l.greatest.items ++ all_greatest_of (scope_view l.constants) (definitions_view (drop l.definition-index l.definitions)) ≡ all_greatest_of (scope_view l.constants) (definitions_view l.definitions)
