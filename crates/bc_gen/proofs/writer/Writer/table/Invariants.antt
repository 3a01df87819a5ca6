use Rattle.std.proofs.Common.{◌≡◌, ◌≤◌, ◌+◌, ◌++◌, drop}
use Rattle.bc_core.specs.View.{items}
use Rattle.bc_gen_defs.specs.Emit.{table_of, entries_in}
use Rattle.bc_gen_defs.specs.Entries.{Plain}
use Rattle.bc_gen.specs.Parts.{parts}
use Rattle.bc_gen.proofs.writer.Writer.table.Given as goal

abbrev pub invariant-loop-item : goal.invariant-loop-item
invariant-loop-item l =
    (parts l.self.parts.items ++ table_of Plain (items (drop l.item-index l.list)) l.entry ≡ parts l.fn.self.parts.items ++ table_of Plain (items l.list) l.first)
    × (l.self.next ≡ l.fn.self.next)
    × (l.entry + entries_in (items (drop l.item-index l.list)) ≤ 65535)
