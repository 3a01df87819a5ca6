use Rattle.std.proofs.Common.{◌≡◌, ◌≤◌, ◌+◌, drop}
use Rattle.bc_gen_defs.specs.Entries.{count_items as count_of}
use Rattle.bc_gen.specs.Parts.{parts as parts_view}
use Rattle.bc_gen.proofs.marked_items.count_items.Given as goal

abbrev pub invariant-loop-part : goal.invariant-loop-part
invariant-loop-part l =
    (count_of (parts_view (drop l.part-index l.parts)) + l.count ≡ count_of (parts_view l.parts)) × (l.count ≤ l.part-index)
