use Rattle.std.proofs.Common.{◌≡◌, drop}
use Rattle.bc_lex.specs.Blank.{closing_from}
use Rattle.bc_lex.proofs.blank.closing.Given as goal

abbrev pub invariant-loop-at : goal.invariant-loop-at
invariant-loop-at l = closing_from l.at (drop l.at l.bytes) ≡ closing_from 0 l.bytes
