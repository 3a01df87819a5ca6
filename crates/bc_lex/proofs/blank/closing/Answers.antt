use Rattle.std.proofs.Common.{sym}
use Rattle.bc_lex.proofs.Loops.{closing_turn}
use Rattle.bc_lex.proofs.blank.closing.Goals as goal

pub loop-at-preserved : goal.loop-at-preserved
loop-at-preserved c = closing_turn c.loop-at.at c.args.bytes.now _ c.loop-at-test.true (rw c.following.ensures.rest at (sym c.if-closes.ensures)) c.loop-at.invariant
