-- The bytes checked up to here contain no LF.
use Rattle.std.proofs.Common.{◌≡◌, take, drop}
use Rattle.bc_cert_read.specs.Fields.{cut, longer}
use Rattle.bc_cert.proofs.ends.first_line.Given as goal

abbrev pub invariant-loop-at : goal.invariant-loop-at
invariant-loop-at l = longer (take l.at l.text) (cut 10 (drop l.at l.text)) ≡ cut 10 l.text
