use Rattle.bc_library_laws.proofs.extension_lemmas.Reading.{taken_back_law}
use Rattle.bc_library_laws.proofs.extension.laws.readn_begins_with_a_character_taken_back.Goals as goal

pub returns : goal.returns
returns c = taken_back_law
