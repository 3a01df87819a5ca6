use Rattle.std.proofs.Common.{◌≡◌, drop}
use Rattle.bc_link.specs.Labels.{labels_of}
use Rattle.bc_link.specs.Refusals.{repeated_after, first_repeated}
use Rattle.bc_link.proofs.repeats.repeated_label.Given as goal

abbrev pub invariant-loop-item : goal.invariant-loop-item
invariant-loop-item l = repeated_after l.seen.keys (labels_of (drop l.item-index l.items)) ≡ first_repeated (labels_of l.items)
