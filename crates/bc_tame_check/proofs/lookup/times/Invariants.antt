use Rattle.std.proofs.Common.{◌≡◌, ◌+◌, length}
use Rattle.bc_tame.specs.Programs.{times_set}
use Rattle.bc_tame_check.specs.Views.{setters_in}
use Rattle.bc_tame_check.proofs.lookup.times.Given as goal

abbrev pub invariant-loop-left : goal.invariant-loop-left
invariant-loop-left l = l.found + times_set (setters_in l.left) l.fn.wanted ≡ times_set (setters_in l.fn.setters) l.fn.wanted

abbrev pub decreases-loop-left : goal.decreases-loop-left
decreases-loop-left l = length l.left
