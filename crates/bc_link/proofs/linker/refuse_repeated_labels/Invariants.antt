use Rattle.std.proofs.Common.{◌≡◌, drop}
use Rattle.bc_link.specs.Refusals.{label_twice_from}
use Rattle.bc_link.proofs.linker.refuse_repeated_labels.Given as goal

abbrev pub invariant-loop-number : goal.invariant-loop-number
invariant-loop-number l = label_twice_from l.number (drop l.number l.segments) ≡ label_twice_from 0 l.segments
