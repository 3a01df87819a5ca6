-- The remaining digits continue from the number read up to here.
use Rattle.std.proofs.Common.{◌≡◌, ◌<◌, ◌^◌, drop}
use Rattle.bc_cert_read.specs.Fields.{digits_from}
use Rattle.bc_cert_read.proofs.fields.digits.Given as goal

abbrev pub invariant-loop-digit : goal.invariant-loop-digit
invariant-loop-digit l = record { same : digits_from l.value (drop l.digit-index l.text) ≡ digits_from 0 l.text; below : l.value < 2 ^ 64 }
