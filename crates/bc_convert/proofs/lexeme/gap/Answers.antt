use Rattle.std.proofs.Common.{arith, ◌≤◌, length}
use Rattle.bc_convert.specs.Gaps.{Nothing}
use Rattle.bc_convert.proofs.Gapping.{gap_more, no_gap_end}
use Rattle.bc_convert.proofs.lexeme.gap.Goals as goal

pub loop-init : goal.loop-init
loop-init c = (omega arith, Nothing c.args.bytes.now, omega arith)

pub loop-preserved : goal.loop-preserved
loop-preserved c =
    (omega arith, gap_more c.loop.at c.blank-count.result c.args.bytes.now c.loop.invariant.1 (rw c.following.ensures.rest at c.blank-count.ensures.gap), omega arith)

pub returns-clause-longest : goal.returns-clause-longest
returns-clause-longest c = let end : length c.args.bytes.now ≤ c.loop.at = omega arith in no_gap_end c.loop.at c.args.bytes.now end
