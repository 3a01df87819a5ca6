use Rattle.std.proofs.Common.{refl, sym, ◌∙◌, drop}
use Rattle.bc_convert.specs.Gaps.{after_comment}
use Rattle.bc_convert.proofs.Gapping.{closes_here, closes_later}
use Rattle.bc_convert.proofs.lexeme.closing.Goals as goal

pub returns-then-closes-clause-rest : goal.returns-then-closes-clause-rest
returns-then-closes-clause-rest c =
    let found = closes_here c.loop-at.at c.args.bytes.now (drop c.loop-at.at c.args.bytes.now) refl (rw c.following.ensures.rest at (sym c.if-closes.ensures)) in
    sym c.loop-at.invariant ∙ found.1

pub loop-at-preserved : goal.loop-at-preserved
loop-at-preserved c =
    closes_later c.loop-at.at c.args.bytes.now (after_comment c.args.bytes.now) c.loop-at-test.true (rw c.following.ensures.rest at (sym c.if-closes.ensures)) c.loop-at.invariant
