use Rattle.bc_cert_write.proofs.Joined.{lines_more, lines_over}
use Rattle.bc_cert_write.proofs.lines.node_lines.Goals as goal

pub loop-i-preserved : goal.loop-i-preserved
loop-i-preserved c = lines_more _ _ _ c.args.marks.now c.args.rows.now c.loop-i.i _ _ c.loop-i-test.true c.if-i-rows.false c.in_ok-node_line.ensures c.loop-i.invariant

pub returns-then-i-rows : goal.returns-then-i-rows
returns-then-i-rows c = lines_over _ _ c.args.marks.now c.args.rows.now c.loop-i.i c.if-i-rows.true c.loop-i.invariant
