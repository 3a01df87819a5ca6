use Rattle.std.proofs.Common.{◌≡◌, ◌++◌, map, length}
use Rattle.std.specs.List.{AllZip}
use Rattle.bc_rules_defs.specs.View.{entry as entry_view}
use Rattle.bc_cert_write.specs.Workings.{WorkedOut}
use Rattle.bc_gen_defs.specs.Entries.{plain_items, entries_from}
use Rattle.bc_gen.specs.Parts.{parts as parts_view}
use Rattle.bc_gen.proofs.marked_items.separated.Given as goal

abbrev pub invariant-loop-part : goal.invariant-loop-part
invariant-loop-part l =
    (l.items.items ++ plain_items (parts_view l.part-iterator.rest.items) ≡ plain_items (parts_view l.fn.parts.items))
    × (map entry_view l.entries.items ++ entries_from (length l.items.items) (parts_view l.part-iterator.rest.items) ≡ entries_from 0 (parts_view l.fn.parts.items))
    × AllZip WorkedOut (map entry_view l.entries.items) l.workings.items
