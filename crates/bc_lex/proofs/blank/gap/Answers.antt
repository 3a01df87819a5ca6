use Rattle.std.proofs.Common.{arith, length, Some, None}
use Rattle.bc_lex.proofs.Loops.{gap_turn, gap_goes_on}
use Rattle.bc_lex.proofs.blank.gap.Goals as goal

pub returns-in-Some-eq0-clause-value : goal.returns-in-Some-eq0-clause-value
returns-in-Some-eq0-clause-value c = gap_turn (length c.args.bytes.now) c.loop.counter c.loop.at _ (Some 0) _ c.loop-test.true (rw (c.following.ensures.rest, c.in-Some-eq0.field-0-test) at c.in-Some-eq0.ensures.value) c.loop.invariant.1

pub returns-in-None-clause-value : goal.returns-in-None-clause-value
returns-in-None-clause-value c = gap_turn (length c.args.bytes.now) c.loop.counter c.loop.at _ None _ c.loop-test.true (rw c.following.ensures.rest at c.in-None.ensures.value) c.loop.invariant.1

pub loop-preserved : goal.loop-preserved
loop-preserved c =
    (omega (arith, c.in-Some.ensures.within), gap_goes_on (length c.args.bytes.now) c.loop.counter c.loop.at c.in-Some.count _ _ c.loop-test.true c.in-Some.count-test.1 (rw c.following.ensures.rest at c.in-Some.ensures.value) c.loop.invariant.1)
