use Rattle.std.proofs.Common.{◌≡◌, ◌++◌, map, length}
use Rattle.bc_core.specs.View.{place_of}
use Rattle.bc_tame.specs.Programs.{setters_from}
use Rattle.bc_tame_check.specs.Views.{setters_in}
use Rattle.bc_tame_check.proofs.setters.add_setters.Given as goal

abbrev pub invariant-loop-left : goal.invariant-loop-left
invariant-loop-left l =
    setters_in l.setters.items ++ setters_from (map place_of l.left) l.others ≡ setters_in l.fn.setters.items ++ setters_from (map place_of l.fn.places) l.fn.rooms

abbrev pub decreases-loop-left : goal.decreases-loop-left
decreases-loop-left l = length l.left
