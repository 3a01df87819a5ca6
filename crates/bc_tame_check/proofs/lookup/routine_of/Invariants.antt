use Rattle.std.proofs.Common.{◌≡◌, map, length}
use Rattle.bc_core.specs.View.{place_of}
use Rattle.bc_tame.specs.Programs.{routine_from}
use Rattle.bc_tame_check.proofs.lookup.routine_of.Given as goal

abbrev pub invariant-loop-left : goal.invariant-loop-left
invariant-loop-left l = routine_from (map place_of l.left) l.rooms l.label l.fn.wanted ≡ routine_from (map place_of l.fn.around.places.now) l.fn.around.rooms.now 1 l.fn.wanted

abbrev pub decreases-loop-left : goal.decreases-loop-left
decreases-loop-left l = length l.left
