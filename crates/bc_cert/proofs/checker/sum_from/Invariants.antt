-- The remaining entries continue from the sum up to here.
use Rattle.std.proofs.Common.{◌≡◌, map, drop}
use Rattle.bc_cert_defs.specs.View.{judged}
use Rattle.bc_cert.specs.View.{summed}
use Rattle.bc_cert.proofs.checker.sum_from.Given as goal

abbrev pub invariant-loop-entry : goal.invariant-loop-entry
invariant-loop-entry l = summed l.sum (map judged (drop l.entry-index l.entries)) ≡ summed l.words (map judged l.entries)
