use Rattle.std.proofs.Common.{arith}
use Rattle.bc_interpret_steps.specs.Sections.{placed_of, program_of}
use Rattle.bc_interpret.proofs.Tables.{none_left, table_is}
use Rattle.bc_interpret.proofs.table.table_of.Goals as goal

pub returns : goal.returns
returns c =
    table_is (program_of c.args.sections.now) (program_of c.loop-left.left.now) c.loop-left.table.items (none_left placed_of c.loop-left.left.now (omega (arith, c.in_default.len_below)))
    (record { finds = c.loop-left.invariant.finds; sized = c.loop-left.invariant.sized })
