-- The bytes up to the position are a gap. Each iteration reads a byte or more.
use Rattle.std.proofs.Common.{◌≤◌, length, drop}
use Rattle.bc_convert.specs.Gaps.{GapThen}
use Rattle.bc_convert.proofs.lexeme.gap.Given as goal

abbrev pub invariant-loop : goal.invariant-loop
invariant-loop l = (l.at ≤ length l.bytes) × GapThen l.bytes (drop l.at l.bytes) × (l.counter ≤ l.at)
