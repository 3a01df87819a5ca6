use Rattle.std.proofs.Common.{◌≡◌, true, map, length}
use Rattle.bc_core.specs.View.{place_of, section}
use Rattle.bc_tame.specs.Programs.{tame_places}
use Rattle.bc_tame_check.specs.Views.{setters_in}
use Rattle.bc_tame_check.proofs.rooms.all_places.Given as goal

abbrev pub invariant-loop-left : goal.invariant-loop-left
invariant-loop-left l =
    let core = section (l.fn.around.places.now, l.fn.valofs) in
    tame_places core l.fn.around.rooms.now (setters_in l.fn.around.setters.now) (map place_of l.left) l.rooms ≡ true → tame_places core l.fn.around.rooms.now (setters_in l.fn.around.setters.now) (map place_of l.fn.around.places.now) l.fn.around.rooms.now ≡ true

abbrev pub decreases-loop-left : goal.decreases-loop-left
decreases-loop-left l = length l.left
