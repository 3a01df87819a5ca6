use Rattle.bc_library_laws.proofs.extension_lemmas.Joined.{packstring_law}
use Rattle.bc_library_laws.proofs.extension.laws.packstring_packs_its_string.Goals as goal

pub returns : goal.returns
returns c = packstring_law
