use Rattle.std.proofs.Common.{◌≡◌, ◌++◌, drop}
use Rattle.bc_core.specs.View.{declarations}
use Rattle.bc_parse_tree.specs.View.{declarations_view}
use Rattle.bc_scope_defs.specs.Numbering.{after_declarations}
use Rattle.bc_scope_defs.specs.Scoping.{in_declarations, level_after}
use Rattle.bc_scope_defs.specs.Translation.{core_declarations}
use Rattle.bc_scope_names.specs.View.{scope_view, Extends}
use Rattle.bc_scope_translate.specs.Next.{next_numbers}
use Rattle.bc_scope_translate.proofs.blocks.declarations.Given as goal

abbrev pub invariant-loop-tree : goal.invariant-loop-tree
invariant-loop-tree l =
    (level_after (scope_view l.scope) (next_numbers l.at) l.following (declarations_view (drop l.tree-index l.list)) ≡ level_after (scope_view l.fn.scope) (next_numbers l.fn.at) l.level (declarations_view l.list))
    × (in_declarations (scope_view l.scope) (next_numbers l.at) l.following (declarations_view (drop l.tree-index l.list)) ≡ in_declarations (scope_view l.fn.scope) (next_numbers l.fn.at) l.level (declarations_view l.list))
    × (after_declarations (next_numbers l.at) (declarations_view (drop l.tree-index l.list)) ≡ after_declarations (next_numbers l.fn.at) (declarations_view l.list))
    × (declarations l.declarations.items ++ core_declarations (scope_view l.scope) (next_numbers l.at) l.following (declarations_view (drop l.tree-index l.list)) ≡ declarations l.fn.declarations.items ++ core_declarations (scope_view l.fn.scope) (next_numbers l.fn.at) l.level (declarations_view l.list))
    × Extends l.fn.scope l.scope
