use Rattle.std.proofs.Common.{◌≡◌, ◌-◌, ◌≤◌, None}
use Rattle.bc_machine_defs.specs.declared.state.End.TheVariants.{BudgetSpent}
use Rattle.bc_machine.specs.Ran.{Ran, held_state}
use Rattle.bcpl_trace.proofs.running.run_watched.Given as goal

abbrev pub invariant-loop-left : goal.invariant-loop-left
invariant-loop-left g l = record {
  within : l.left ≤ l.fn.budget;
  running : l.machine.ended ≡ None;
  ran : Ran (g.S.Streams.known l.fn.streams) (g.S.Streams.known l.streams) (l.fn.budget - l.left)
      (held_state l.fn.machine (g.S.Streams.content l.fn.streams)) (held_state l.machine (g.S.Streams.content l.streams))
      BudgetSpent (g.S.Streams.failures l.fn.streams) (g.S.Streams.failures l.streams);
}

abbrev pub decreases-loop-left : goal.decreases-loop-left
decreases-loop-left g l = l.left
