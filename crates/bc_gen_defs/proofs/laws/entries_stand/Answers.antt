use Rattle.bc_gen_defs.proofs.Standing.{entries_stand}
use Rattle.bc_gen_defs.proofs.laws.entries_stand.Goals as goal

pub returns : goal.returns
returns c = entries_stand
