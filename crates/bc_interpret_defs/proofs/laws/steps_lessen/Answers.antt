use Rattle.bc_interpret_defs.proofs.Running.{steps_lessen}
use Rattle.bc_interpret_defs.proofs.laws.steps_lessen.Goals as goal

pub returns : goal.returns
returns c = steps_lessen
