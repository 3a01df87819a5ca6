use Rattle.std.proofs.Common.{◌≤◌, length, take}
use Rattle.bc_interpret_trace.proofs.Reading.{Reached}
use Rattle.bc_interpret_trace.proofs.trail.newest.Given as goal

abbrev pub invariant-loop-left : goal.invariant-loop-left
invariant-loop-left l =
    (l.left ≤ length l.rests) × ((length l.standings.items ≤ 10) × Reached l.rests (take l.left l.rests) l.standings.items l.position)

abbrev pub decreases-loop-left : goal.decreases-loop-left
decreases-loop-left l = l.left
