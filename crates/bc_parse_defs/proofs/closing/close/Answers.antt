use Rattle.std.proofs.Common.{arith}
use Rattle.bc_parse_defs.proofs.Stepping.{put_next}
use Rattle.bc_parse_defs.proofs.closing.close.Goals as goal

pub loop-at-preserved : goal.loop-at-preserved
loop-at-preserved c = put_next _ _ _ _ c.args.tokens.now _ _ _ (omega arith) c.loop-at.invariant c.in_ok-is_after_end.ensures
