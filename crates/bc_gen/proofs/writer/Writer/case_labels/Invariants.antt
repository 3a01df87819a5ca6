use Rattle.std.proofs.Common.{◌≡◌, ◌+◌, ◌≤◌, drop}
use Rattle.bc_core.specs.View.{items}
use Rattle.bc_gen_defs.specs.Emit.{defaulted, cases_in, entries_in}
use Rattle.bc_gen.proofs.Labels.{default_then}
use Rattle.bc_gen.proofs.writer.Writer.case_labels.Given as goal

abbrev pub invariant-loop-item : goal.invariant-loop-item
invariant-loop-item l =
    (l.first ≡ l.fn.self.next)
    × (default_then l.default (defaulted (items (drop l.item-index l.list)) l.self.next l.end) ≡ defaulted (items l.list) l.fn.self.next l.end)
    × (l.count + cases_in (items (drop l.item-index l.list)) ≡ cases_in (items l.list))
    × (l.self.next + entries_in (items (drop l.item-index l.list)) ≡ l.fn.self.next + entries_in (items l.list))
    × (l.count ≤ l.self.next)
    × (l.self.parts ≡ l.fn.self.parts)
