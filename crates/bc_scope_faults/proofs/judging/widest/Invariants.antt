use Rattle.std.proofs.Common.{◌≡◌, drop, max, length, ◌-◌}
use Rattle.bc_scope_defs.specs.FramesAlong.{widest}
use Rattle.bc_scope_faults.proofs.judging.widest.Given as goal

abbrev pub invariant-loop-i : goal.invariant-loop-i
invariant-loop-i l =
    max l.widest (widest (drop l.i l.held) (drop l.i l.places) (drop l.i l.values)) ≡ widest l.held l.places l.values

abbrev pub decreases-loop-i : goal.decreases-loop-i
decreases-loop-i l = length l.held - l.i
