-- The text keeps its length.
use Rattle.std.proofs.Common.{◌≡◌, length}
use Rattle.bc_convert.proofs.conditions.without_others.Given as goal

abbrev pub invariant-loop : goal.invariant-loop
invariant-loop l = length l.compiled.text.items ≡ length l.text
