-- Each iteration takes one line.
use Rattle.std.proofs.Common.{ap, subst, ◌∙◌, arith}
use Rattle.bc_cert_read.specs.View.{cut as seen_cut, slice}
use Rattle.bc_cert_read.specs.TreeView.{Steps}
use Rattle.bc_cert.specs.View.{fed}
use Rattle.bc_cert.proofs.Steps.{feed_last, feed_on, feed_fails}
use Rattle.bc_cert.proofs.checker.Checker.feed.Goals as goal

pub returns-in-None-clause-exact : goal.returns-in-None-clause-exact
returns-in-None-clause-exact c =
    subst (λ r. Steps (fed c.keep.new.self) c.keep.result r)
    (feed_last c.loop-turn.rest.now (fed c.loop-turn.self) (seen_cut c.first_line.result) _ c.first_line.ensures.exact (ap slice c.in-None.is) c.loop-turn.invariant.same)
    c.keep.ensures.exact

pub returns-in-Err-clause-exact : goal.returns-in-Err-clause-exact
returns-in-Err-clause-exact c =
    feed_fails c.loop-turn.rest.now c.in-Some.following.now (fed c.loop-turn.self) (seen_cut c.first_line.result) c.in-Err.fault _ c.first_line.ensures.exact (ap slice c.in-Some.is) (c.in-Err.ensures {u = tt}).exact c.loop-turn.invariant.same

pub loop-turn-preserved : goal.loop-turn-preserved
loop-turn-preserved c =
    let shorter = rw c.in-Some.is at c.first_line.ensures.shorter in
    let done = c.in_default.ensures {u = tt} in
    record {
      same = feed_on c.loop-turn.rest.now c.in-Some.following.now (fed c.loop-turn.self) (fed c.end.new.self) (seen_cut c.first_line.result) _ c.first_line.ensures.exact (ap slice c.in-Some.is) done.exact c.loop-turn.invariant.same;
      shorter = omega (arith, shorter, c.loop-turn.invariant.shorter);
      parallel = done.parallel;
      few = omega (arith, shorter, done.few, c.loop-turn.invariant.few);
      nodes = done.nodes;
      passed = done.passed ∙ c.loop-turn.invariant.passed;
    }
