use Rattle.std.proofs.Common.{sym}
use Rattle.bc_convert.specs.Gaps.{Nothing}
use Rattle.bc_convert.proofs.Gapping.{line_gap, block_gap, space_gap}
use Rattle.bc_convert.proofs.lexeme.blank.Goals as goal

pub returns-then-begins_line-clause-gap : goal.returns-then-begins_line-clause-gap
returns-then-begins_line-clause-gap c =
    line_gap c.args.bytes.now c.line_bytes.result (sym c.if-begins_line.ensures.value) (rw c.following.ensures.rest at c.line_bytes.ensures.value)

pub returns-in-Some-clause-gap : goal.returns-in-Some-clause-gap
returns-in-Some-clause-gap c =
    block_gap c.args.bytes.now c.in-Some.count (sym c.if-begins.ensures.value) (rw c.following-then-begins.ensures.rest at c.in-Some.ensures.rest)

pub returns-in-None-clause-gap : goal.returns-in-None-clause-gap
returns-in-None-clause-gap c = Nothing c.args.bytes.now

pub returns-then-begins_space-clause-gap : goal.returns-then-begins_space-clause-gap
returns-then-begins_space-clause-gap c = space_gap c.args.bytes.now (sym c.if-begins_space.ensures.value)

pub returns-else-begins_space-clause-gap : goal.returns-else-begins_space-clause-gap
returns-else-begins_space-clause-gap c = Nothing c.args.bytes.now
