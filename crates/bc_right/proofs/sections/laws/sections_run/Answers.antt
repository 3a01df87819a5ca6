use Rattle.bc_right.proofs.section_lemmas.Whole.{sections_run}
use Rattle.bc_right.proofs.sections.laws.sections_run.Goals as goal

pub returns : goal.returns
returns c = sections_run
