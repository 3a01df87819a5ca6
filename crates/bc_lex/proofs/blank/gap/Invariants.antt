use Rattle.std.proofs.Common.{◌≡◌, ◌≤◌, ◌-◌, drop, length}
use Rattle.bc_lex.specs.Blank.{gap_from, gap_of}
use Rattle.bc_lex.proofs.blank.gap.Given as goal

abbrev pub invariant-loop : goal.invariant-loop
invariant-loop l = (l.at ≤ length l.bytes) × (gap_from (length l.bytes - l.counter) l.at (drop l.at l.bytes) ≡ gap_of l.bytes)
