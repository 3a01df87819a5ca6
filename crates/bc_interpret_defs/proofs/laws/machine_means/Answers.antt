use Rattle.bc_interpret_defs.proofs.Running.{machine_means}
use Rattle.bc_interpret_defs.proofs.laws.machine_means.Goals as goal

pub returns : goal.returns
returns c = machine_means
