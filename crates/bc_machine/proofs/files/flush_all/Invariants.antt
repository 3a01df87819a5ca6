use Rattle.std.proofs.Common.{◌≡◌, map}
use Rattle.bc_machine.specs.Known.{AllKnown}
use Rattle.bc_machine.proofs.files.flush_all.Given as goal

abbrev pub invariant-loop-writer : goal.invariant-loop-writer
invariant-loop-writer g l = AllKnown (map g.W.Write.contents l.initial.writers) → map g.W.Write.contents l.writers ≡ map g.W.Write.contents l.initial.writers
