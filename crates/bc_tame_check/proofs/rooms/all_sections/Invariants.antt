use Rattle.std.proofs.Common.{◌≡◌, true, map, length}
use Rattle.bc_core.specs.View.{section}
use Rattle.bc_tame.specs.Programs.{tame_sections}
use Rattle.bc_tame_check.specs.Views.{setters_in, rooms_in}
use Rattle.bc_tame_check.proofs.rooms.all_sections.Given as goal

abbrev pub invariant-loop-core : goal.invariant-loop-core
invariant-loop-core l =
    tame_sections (setters_in l.setters) (map section l.left) (rooms_in l.others) ≡ true → tame_sections (setters_in l.setters) (map section l.cores) (rooms_in l.each) ≡ true

abbrev pub decreases-loop-core : goal.decreases-loop-core
decreases-loop-core l = length l.left
