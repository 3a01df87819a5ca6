use Rattle.bc_right.proofs.command_lemmas.Library.{primitives_land}
use Rattle.bc_right.proofs.commands.laws.primitives_land.Goals as goal

pub returns : goal.returns
returns c = primitives_land
