use Rattle.std.proofs.Common.{◌≡◌, length}
use Rattle.bc_tame.specs.Programs.{setter_for}
use Rattle.bc_tame_check.specs.Views.{setters_in}
use Rattle.bc_tame_check.proofs.lookup.first_setter.Given as goal

abbrev pub invariant-loop-left : goal.invariant-loop-left
invariant-loop-left l = setter_for (setters_in l.left) l.fn.wanted ≡ setter_for (setters_in l.fn.setters) l.fn.wanted

abbrev pub decreases-loop-left : goal.decreases-loop-left
decreases-loop-left l = length l.left
