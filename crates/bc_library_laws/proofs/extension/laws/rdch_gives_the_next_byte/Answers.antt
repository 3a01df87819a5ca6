use Rattle.bc_library_laws.proofs.extension_lemmas.Characters.{rdch_law}
use Rattle.bc_library_laws.proofs.extension.laws.rdch_gives_the_next_byte.Goals as goal

pub returns : goal.returns
returns c = rdch_law
