use Rattle.bc_interpret_defs.proofs.Running.{machine_is_right}
use Rattle.bc_interpret_defs.proofs.laws.machine_is_right.Goals as goal

pub returns : goal.returns
returns c = machine_is_right
