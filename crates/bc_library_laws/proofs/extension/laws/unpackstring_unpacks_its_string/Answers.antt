use Rattle.bc_library_laws.proofs.extension_lemmas.Joined.{unpackstring_law}
use Rattle.bc_library_laws.proofs.extension.laws.unpackstring_unpacks_its_string.Goals as goal

pub returns : goal.returns
returns c = unpackstring_law
