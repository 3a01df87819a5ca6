use Rattle.std.proofs.Common.{◌≡◌, true, length}
use Rattle.bc_tame.specs.Programs.{are_words}
use Rattle.bc_tame_check.proofs.format.check_words.Given as goal

abbrev pub invariant-loop-left : goal.invariant-loop-left
invariant-loop-left l = are_words l.left ≡ true → are_words l.fn.words ≡ true

abbrev pub decreases-loop-left : goal.decreases-loop-left
decreases-loop-left l = length l.left
