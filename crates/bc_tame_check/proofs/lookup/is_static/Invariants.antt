use Rattle.std.proofs.Common.{◌≡◌, map, length}
use Rattle.bc_core.specs.View.{place_of}
use Rattle.bc_tame.specs.Programs.{static_from}
use Rattle.bc_tame_check.proofs.lookup.is_static.Given as goal

abbrev pub invariant-loop-left : goal.invariant-loop-left
invariant-loop-left l = static_from (map place_of l.left) l.label l.fn.wanted ≡ static_from (map place_of l.fn.places) 1 l.fn.wanted

abbrev pub decreases-loop-left : goal.decreases-loop-left
decreases-loop-left l = length l.left
