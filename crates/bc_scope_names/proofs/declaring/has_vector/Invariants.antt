use Rattle.std.proofs.Common.{◌≡◌, drop}
use Rattle.bc_parse_tree.specs.View.{definitions_view}
use Rattle.bc_scope_names.specs.Priors.{has_vector}
use Rattle.bc_scope_names.proofs.declaring.has_vector.Given as goal

abbrev pub invariant-loop-definition : goal.invariant-loop-definition
invariant-loop-definition l = has_vector (definitions_view (drop l.definition-index l.definitions)) ≡ has_vector (definitions_view l.definitions)
