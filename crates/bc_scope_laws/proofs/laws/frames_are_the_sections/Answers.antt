use Rattle.bc_scope_laws.proofs.Frames.{frames_are_the_sections}
use Rattle.bc_scope_laws.proofs.laws.frames_are_the_sections.Goals as goal

pub returns : goal.returns
returns c = frames_are_the_sections
