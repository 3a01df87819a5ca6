use Rattle.bc_interpret_defs.proofs.Fuel.{fuel_never_ends}
use Rattle.bc_interpret_defs.proofs.laws.fuel_never_ends.Goals as goal

pub returns : goal.returns
returns c = fuel_never_ends
