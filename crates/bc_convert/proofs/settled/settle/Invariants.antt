-- What was taken and what the remaining candidates still give is what is settled.
use Rattle.std.proofs.Common.{◌≡◌, ◌++◌}
use Rattle.bc_convert.specs.Settled.{settled_from, settled}
use Rattle.bc_convert.proofs.settled.settle.Given as goal

abbrev pub invariant-loop-candidate : goal.invariant-loop-candidate
invariant-loop-candidate l = l.taken.items ++ settled_from l.at l.text l.candidate-iterator.rest.items ≡ settled l.text l.fn.candidates.items
