-- What a trail shows.
use Rattle.std.specs.Prelude.{◌≡◌, List, map, take, length}
use Rattle.std.specs.Io.Iter.{u64_saturate}
use Rattle.bc_interpret_defs.specs.Trails as trails
use Rattle.bc_interpret_trace.specs.declared.trail.Standing.{Standing}
use Rattle.bc_interpret_trace.specs.declared.trail.Trail.{Trail}

-- a line of a trail: the call, and the position in it; more than 2 ^ 64 - 1 roots are shown as that many
abbrev pub shown : trails.Standing → Standing
shown s =
    record {
      routine = s.call.routine;
      frame = s.call.frame;
      valof = s.position.valof;
      following = u64_saturate s.position.following;
    }

-- the trail shows where the run is in these calls, in this order, up to the tenth, and gives their number
pub record Shows (trail : Trail) (standings : List trails.Standing) : Type 0 where
  pub newest : trail.standings.items ≡ map shown (take 10 standings)
  pub number : trail.calls ≡ length standings
