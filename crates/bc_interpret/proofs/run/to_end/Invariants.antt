use Rattle.std.proofs.Common.{◌≤◌}
use Rattle.bc_interpret.specs.declared.run.Moved.TheVariants.{On}
use Rattle.bc_interpret.specs.Moving.{next_of, Keeps, Tracks}
use Rattle.bc_interpret.proofs.run.to_end.Given as goal

abbrev pub invariant-loop-moved : goal.invariant-loop-moved
invariant-loop-moved g l = record {
  keeps : g.S.Streams.known l.fn.streams → Keeps l.table (next_of l.fn.run) l.fn.run (g.S.Streams.content l.fn.streams) On l.run (g.S.Streams.content l.streams);
  tracks : g.S.Streams.known l.fn.streams → Tracks l.table (next_of l.fn.run) l.fn.run (g.S.Streams.content l.fn.streams) On l.run (g.S.Streams.content l.streams);
  fewer : l.run.state.turns ≤ l.fn.run.state.turns;
  kept : g.S.Streams.known l.fn.streams → g.S.Streams.known l.streams;
  counted : g.S.Streams.failures l.fn.streams ≤ g.S.Streams.failures l.streams;
}

abbrev pub decreases-loop-moved : goal.decreases-loop-moved
decreases-loop-moved g l = l.run.state.turns
