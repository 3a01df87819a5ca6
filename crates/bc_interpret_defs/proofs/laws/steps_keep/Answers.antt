use Rattle.bc_interpret_defs.proofs.Running.{steps_keep}
use Rattle.bc_interpret_defs.proofs.laws.steps_keep.Goals as goal

pub returns : goal.returns
returns c = steps_keep
