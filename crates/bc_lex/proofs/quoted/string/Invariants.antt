use Rattle.std.proofs.Common.{◌≡◌, ◌≤◌, ◌-◌, drop, length}
use Rattle.bc_lex.specs.Reading.{string_from, string_of}
use Rattle.bc_lex.proofs.quoted.string.Given as goal

abbrev pub invariant-loop : goal.invariant-loop
invariant-loop l = (1 ≤ l.at) × (l.at ≤ length l.bytes) × (string_from (256 - l.counter) l.at (drop l.at l.bytes) ≡ string_of l.bytes)
