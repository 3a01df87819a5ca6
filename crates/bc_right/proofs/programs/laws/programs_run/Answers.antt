use Rattle.bc_right.proofs.program_lemmas.Program.{programs_run}
use Rattle.bc_right.proofs.programs.laws.programs_run.Goals as goal

pub returns : goal.returns
returns c = programs_run
