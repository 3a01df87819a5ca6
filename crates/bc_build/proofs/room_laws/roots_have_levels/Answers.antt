use Rattle.bc_build.proofs.Sections.{roots_have_levels}
use Rattle.bc_build.proofs.room_laws.roots_have_levels.Goals as goal

pub returns : goal.returns
returns c = roots_have_levels
