use Rattle.bc_gen_defs.proofs.Standing.{marks_add_nothing}
use Rattle.bc_gen_defs.proofs.laws.marks_add_nothing.Goals as goal

pub returns : goal.returns
returns c = marks_add_nothing
