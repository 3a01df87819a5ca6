-- The text keeps its length.
use Rattle.std.proofs.Common.{◌≡◌, length}
use Rattle.bc_convert.proofs.conditions.Compiled.put_part.Given as goal

abbrev pub invariant-loop-index : goal.invariant-loop-index
invariant-loop-index l = length l.self.text.items ≡ length l.fn.self.text.items
