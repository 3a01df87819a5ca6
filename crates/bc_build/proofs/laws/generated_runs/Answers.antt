use Rattle.bc_build.proofs.Running.{generated_runs}
use Rattle.bc_build.proofs.laws.generated_runs.Goals as goal

pub returns : goal.returns
returns c = generated_runs c.programs_run.ensures
