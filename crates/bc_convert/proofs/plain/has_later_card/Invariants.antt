-- No such line follows a line feed before the position.
use Rattle.std.proofs.Common.{◌≡◌, drop}
use Rattle.bc_convert.specs.Plain.{has_later_line}
use Rattle.bc_convert.proofs.plain.has_later_card.Given as goal

abbrev pub invariant-loop-at : goal.invariant-loop-at
invariant-loop-at l = has_later_line 80 (drop l.at l.text) ≡ has_later_line 80 l.text
