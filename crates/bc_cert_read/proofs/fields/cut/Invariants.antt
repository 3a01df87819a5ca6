-- The bytes checked up to here contain no separator.
use Rattle.std.proofs.Common.{◌≡◌, take, drop}
use Rattle.bc_cert_read.specs.Fields.{cut, longer}
use Rattle.bc_cert_read.proofs.fields.cut.Given as goal

abbrev pub invariant-loop-at : goal.invariant-loop-at
invariant-loop-at l = longer (take l.at l.text) (cut l.separator (drop l.at l.text)) ≡ cut l.separator l.text
