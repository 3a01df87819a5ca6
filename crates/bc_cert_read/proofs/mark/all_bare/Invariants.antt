-- The trees checked up to here show no rules.
use Rattle.std.proofs.Common.{◌≡◌, drop}
use Rattle.bc_cert_read.specs.Marks.{all_bare}
use Rattle.bc_cert_read.proofs.mark.all_bare.Given as goal

abbrev pub invariant-loop-part : goal.invariant-loop-part
invariant-loop-part l = all_bare (drop l.part-index l.parts) ≡ all_bare l.parts
