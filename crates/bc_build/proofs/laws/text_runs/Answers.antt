use Rattle.bc_build.proofs.Reading.{text_runs}
use Rattle.bc_build.proofs.laws.text_runs.Goals as goal

pub returns : goal.returns
returns g c = λ segments image steps old new end reads run. text_runs segments image steps _ _ _ _ _ _ end reads run
