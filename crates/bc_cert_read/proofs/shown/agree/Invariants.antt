-- The parts checked up to here show what the rule requires of them.
use Rattle.std.proofs.Common.{◌≡◌, drop}
use Rattle.bc_cert_read.specs.Showing.{agree}
use Rattle.bc_cert_read.proofs.shown.agree.Given as goal

abbrev pub invariant-loop-at : goal.invariant-loop-at
invariant-loop-at l = agree l.takes l.at (drop l.at l.parts) ≡ agree l.takes 0 l.parts
