use Rattle.std.proofs.Common.{arith, sym, ◌-◌}
use Rattle.bcpl_trace.proofs.Joins.{ran_nothing, ran_same, ran_one_more, ran_to_end, runs_still, ended_so}
use Rattle.bcpl_trace.proofs.running.run_watched.Goals as goal

pub loop-left-init : goal.loop-left-init
loop-left-init g c = record {
  within = omega arith;
  running = c.requires;
  ran = ran_same _ _ _ 0 _ _ _ _ _ (omega arith) (ran_nothing _ _ _);
}

pub returns-in-Some : goal.returns-in-Some
returns-in-Some g c = record {
  run = ran_to_end _ _ _ _ _ (c.args.budget - c.loop-left.left) (c.loop-left.left - 1) _ _ _ _ _ _ _ _
      c.loop-left.invariant.running (omega arith) c.loop-left.invariant.ran c.run-end.ensures.run (sym c.in-Some.ensures);
  ended = ended_so _ _ _ _ c.loop-left.invariant.running c.run-end.ensures.ended (sym c.in-Some.ensures);
}

pub loop-left-preserved : goal.loop-left-preserved
loop-left-preserved g c = record {
  within = omega arith;
  running = runs_still _ _ _ c.loop-left.invariant.running c.run-end.ensures.ended (sym c.in_default.ensures);
  ran = ran_one_more _ _ _ _ _ (c.args.budget - c.loop-left.left) _ _ _ _ _ _ _
      c.loop-left.invariant.running (omega arith) c.loop-left.invariant.ran c.run-end.ensures.run (sym c.in_default.ensures);
}

pub returns : goal.returns
returns g c = record {
  run = ran_same _ _ _ (c.args.budget - c.loop-left.left) _ _ _ _ _ (omega arith) c.loop-left.invariant.ran;
  ended = c.loop-left.invariant.running;
}
