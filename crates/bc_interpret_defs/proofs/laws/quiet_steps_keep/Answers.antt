use Rattle.bc_interpret_defs.proofs.Worths.{quiet_steps_keep}
use Rattle.bc_interpret_defs.proofs.laws.quiet_steps_keep.Goals as goal

pub returns : goal.returns
returns c = quiet_steps_keep
