use Rattle.std.proofs.Common.{◌≡◌, ◌+◌, ◌++◌, drop}
use Rattle.bc_core.specs.View.{items}
use Rattle.bc_gen_defs.specs.Emit.{labels_in}
use Rattle.bc_gen.specs.Surroundings.{label_pairs}
use Rattle.bc_gen.proofs.writer.Writer.list_labels.Given as goal

abbrev pub invariant-loop-item : goal.invariant-loop-item
invariant-loop-item l =
    (l.labels.items ++ label_pairs (items (drop l.item-index l.list)) l.self.next ≡ label_pairs (items l.list) l.fn.self.next)
    × (l.self.next + labels_in (items (drop l.item-index l.list)) ≡ l.fn.self.next + labels_in (items l.list))
    × (l.self.parts ≡ l.fn.self.parts)
