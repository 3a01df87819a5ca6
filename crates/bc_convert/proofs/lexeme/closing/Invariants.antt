-- No end of the comment is before the position.
use Rattle.std.proofs.Common.{◌≡◌, drop}
use Rattle.bc_convert.specs.Gaps.{after_comment}
use Rattle.bc_convert.proofs.lexeme.closing.Given as goal

abbrev pub invariant-loop-at : goal.invariant-loop-at
invariant-loop-at l = after_comment (drop l.at l.bytes) ≡ after_comment l.bytes
