use Rattle.std.proofs.Common.{◌≡◌, drop}
use Rattle.bc_parse_tree.specs.View.{entries_view}
use Rattle.bc_scope_defs.specs.Numbering.{after_entries}
use Rattle.bc_scope_names.specs.View.{numbers_view}
use Rattle.bc_scope_names.proofs.numbering.after_entries.Given as goal

abbrev pub invariant-loop-each : goal.invariant-loop-each
invariant-loop-each l =
    after_entries l.storage (numbers_view l.at) (entries_view (drop l._each-index l.entries)) ≡ after_entries l.storage (numbers_view l.fn.at) (entries_view l.entries)
