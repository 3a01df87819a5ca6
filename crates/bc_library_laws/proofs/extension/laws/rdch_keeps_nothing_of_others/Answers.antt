use Rattle.bc_library_laws.proofs.extension_lemmas.Characters.{others_law}
use Rattle.bc_library_laws.proofs.extension.laws.rdch_keeps_nothing_of_others.Goals as goal

pub returns : goal.returns
returns c = others_law
