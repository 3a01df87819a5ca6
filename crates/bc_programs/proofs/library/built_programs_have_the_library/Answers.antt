use Rattle.bc_programs.proofs.library_lemmas.Library.{built_programs_have_the_library}
use Rattle.bc_programs.proofs.library.built_programs_have_the_library.Goals as goal

pub returns : goal.returns
returns c = built_programs_have_the_library
