use Rattle.bc_scope_laws.proofs.Frames.{levels_are_the_sections}
use Rattle.bc_scope_laws.proofs.laws.levels_are_the_sections.Goals as goal

pub returns : goal.returns
returns c = levels_are_the_sections
