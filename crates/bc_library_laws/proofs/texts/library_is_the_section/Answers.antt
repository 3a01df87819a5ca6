use Rattle.bc_library_laws.proofs.Built.{library_of}
use Rattle.bc_library_laws.proofs.texts.library_is_the_section.Goals as goal

pub returns : goal.returns
returns c = library_of
