use Rattle.bc_build.proofs.Shallow.{roots_are_shallow}
use Rattle.bc_build.proofs.room_laws.roots_are_shallow.Goals as goal

pub returns : goal.returns
returns c = roots_are_shallow
