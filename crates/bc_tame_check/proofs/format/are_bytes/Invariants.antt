use Rattle.std.proofs.Common.{◌≡◌, true, length}
use Rattle.bc_tame.specs.Programs.{are_bytes}
use Rattle.bc_tame_check.proofs.format.are_bytes.Given as goal

abbrev pub invariant-loop-left : goal.invariant-loop-left
invariant-loop-left l = are_bytes l.left ≡ true → are_bytes l.fn.bytes ≡ true

abbrev pub decreases-loop-left : goal.decreases-loop-left
decreases-loop-left l = length l.left
