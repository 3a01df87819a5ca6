use Rattle.bc_interpret_defs.proofs.Worths.{worth_is_value}
use Rattle.bc_interpret_defs.proofs.laws.worth_is_value.Goals as goal

pub returns : goal.returns
returns c = worth_is_value
