use Rattle.std.proofs.Common.{arith}
use Rattle.bc_tame.specs.Tame.{parameters_set}
use Rattle.bc_tame_check.specs.Views.{held_of}
use Rattle.bc_tame_check.proofs.Knowledge.{over_end}
use Rattle.bc_tame_check.proofs.knows.held_at.Goals as goal

pub returns : goal.returns
returns c =
    over_end (parameters_set c.args.at.parameters) c.loop-left.left.now c.args.at.reads.now c.args.offset (held_of c.loop-left.holds) (omega (arith, c.in_default.len_below)) c.loop-left.invariant
