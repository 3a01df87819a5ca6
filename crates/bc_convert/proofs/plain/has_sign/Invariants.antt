-- No sign is before the position.
use Rattle.std.proofs.Common.{◌≡◌, drop}
use Rattle.bc_convert.specs.Plain.{has_sign}
use Rattle.bc_convert.proofs.plain.has_sign.Given as goal

abbrev pub invariant-loop-at : goal.invariant-loop-at
invariant-loop-at l = has_sign (drop l.at l.text) ≡ has_sign l.text
