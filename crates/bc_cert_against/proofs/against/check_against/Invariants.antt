-- What holds of the remaining entries holds of all entries.
use Rattle.std.proofs.Common.{drop, map}
use Rattle.bc_cert_defs.specs.View.{judged}
use Rattle.bc_cert_defs.proofs.Fitting.{Gone}
use Rattle.bc_cert_against.proofs.against.check_against.Given as goal

abbrev pub invariant-loop-entry : goal.invariant-loop-entry
invariant-loop-entry l = Gone l.segments l.segment l.item l.entry (map judged (drop l.entry l.judged-items)) (map judged l.judged-items)
