-- The pieces compared up to here are the same.
use Rattle.std.proofs.Common.{◌≡◌, drop}
use Rattle.bc_cert_laws.specs.Judging.{same_code}
use Rattle.bc_cert.proofs.code.has_code.Given as goal

abbrev pub invariant-loop-at : goal.invariant-loop-at
invariant-loop-at l = same_code (drop l.at l.code) (drop l.at l.right) ≡ same_code l.code l.right
