use Rattle.std.proofs.Common.{◌≡◌, ◌++◌, map, length}
use Rattle.bc_core.specs.View.{section}
use Rattle.bc_tame.specs.Programs.{setters_of}
use Rattle.bc_tame_check.specs.Views.{setters_in, rooms_in}
use Rattle.bc_tame_check.proofs.setters.setters_of.Given as goal

abbrev pub invariant-loop-core : goal.invariant-loop-core
invariant-loop-core l = setters_in l.setters.items ++ setters_of (map section l.left) (rooms_in l.others) ≡ setters_of (map section l.cores) (rooms_in l.each)

abbrev pub decreases-loop-core : goal.decreases-loop-core
decreases-loop-core l = length l.left
