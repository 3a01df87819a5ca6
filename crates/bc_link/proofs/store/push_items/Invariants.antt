use Rattle.std.proofs.Common.{◌≡◌, ◌++◌, drop}
use Rattle.bc_text_items.specs.Assembled.{assembled}
use Rattle.bc_link.specs.Labels.{label_address}
use Rattle.bc_link.specs.Steps.{with_waiting}
use Rattle.bc_link.proofs.store.push_items.Given as goal

abbrev pub invariant-loop-item : goal.invariant-loop-item
invariant-loop-item l = l.words.items ++ assembled (label_address l.labels) (with_waiting l.waiting (drop l.item-index l.items)) ≡ l.initial.words.items ++ assembled (label_address l.labels) l.items
