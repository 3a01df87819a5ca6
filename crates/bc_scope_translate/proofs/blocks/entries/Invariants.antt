use Rattle.std.proofs.Common.{◌≡◌, drop}
use Rattle.bc_parse_tree.specs.View.{entries_view}
use Rattle.bc_scope_defs.specs.Numbering.{after_entries}
use Rattle.bc_scope_defs.specs.Scoping.{in_entries}
use Rattle.bc_scope_names.specs.View.{scope_view, Extends}
use Rattle.bc_scope_translate.specs.Next.{next_numbers}
use Rattle.bc_scope_translate.proofs.blocks.entries.Given as goal

abbrev pub invariant-loop-entry : goal.invariant-loop-entry
invariant-loop-entry l =
    (in_entries l.storage (next_numbers l.at) (entries_view (drop l.entry-index l.list)) (scope_view l.scope) ≡ in_entries l.storage (next_numbers l.fn.at) (entries_view l.list) (scope_view l.fn.scope))
    × (after_entries l.storage (next_numbers l.at) (entries_view (drop l.entry-index l.list)) ≡ after_entries l.storage (next_numbers l.fn.at) (entries_view l.list))
    × Extends l.fn.scope l.scope
