use Rattle.std.proofs.Common.{◌≡◌, length}
use Rattle.bc_tame.specs.Tame.{parameters_set}
use Rattle.bc_tame_check.specs.Views.{held_of, held_over}
use Rattle.bc_tame_check.proofs.knows.held_at.Given as goal

abbrev pub invariant-loop-left : goal.invariant-loop-left
invariant-loop-left l =
    held_over l.left l.fn.offset (held_of l.holds) ≡ held_over l.fn.at.reads.now l.fn.offset (parameters_set l.fn.at.parameters l.fn.offset)

abbrev pub decreases-loop-left : goal.decreases-loop-left
decreases-loop-left l = length l.left
