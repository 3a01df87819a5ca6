use Rattle.bc_machine_defs.proofs.Runs.{Comes-runs, runs-Comes}
use Rattle.bc_machine_defs.proofs.laws.comes_is_running.Goals as goal

pub returns : goal.returns
returns c = λ n s t. (Comes-runs n s t, runs-Comes n s t)
