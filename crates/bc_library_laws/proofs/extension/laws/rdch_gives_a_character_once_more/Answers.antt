use Rattle.bc_library_laws.proofs.extension_lemmas.Characters.{once_more_law}
use Rattle.bc_library_laws.proofs.extension.laws.rdch_gives_a_character_once_more.Goals as goal

pub returns : goal.returns
returns c = once_more_law
