use Rattle.bc_gen_defs.proofs.Standing.{entries_rise}
use Rattle.bc_gen_defs.proofs.laws.entries_rise.Goals as goal

pub returns : goal.returns
returns c = entries_rise
