use Rattle.bc_machine_defs.proofs.Runs.{runs-add}
use Rattle.bc_machine_defs.proofs.laws.runs_add.Goals as goal

pub returns : goal.returns
returns c = runs-add
