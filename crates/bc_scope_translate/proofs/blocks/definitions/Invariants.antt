use Rattle.std.proofs.Common.{◌≡◌, ◌++◌, map, drop}
use Rattle.bc_core.specs.View.{variable}
use Rattle.bc_parse_tree.specs.View.{definitions_view}
use Rattle.bc_scope_defs.specs.Numbering.{after_definitions}
use Rattle.bc_scope_names.specs.View.{scope_view}
use Rattle.bc_scope_translate.specs.Next.{next_numbers}
use Rattle.bc_scope_translate.specs.Definitions.{core_definitions_by}
use Rattle.bc_scope_translate.proofs.blocks.definitions.Given as goal

abbrev pub invariant-loop-tree : goal.invariant-loop-tree
invariant-loop-tree l =
    (map variable l.variables.items ++ core_definitions_by (drop l.i l.priors.greatest.items) (scope_view l.scope) (next_numbers l.at) (definitions_view (drop l.tree-index l.list)) ≡ core_definitions_by l.priors.greatest.items (scope_view l.scope) (next_numbers l.fn.at) (definitions_view l.list))
    × (after_definitions (next_numbers l.at) (definitions_view (drop l.tree-index l.list)) ≡ after_definitions (next_numbers l.fn.at) (definitions_view l.list))
