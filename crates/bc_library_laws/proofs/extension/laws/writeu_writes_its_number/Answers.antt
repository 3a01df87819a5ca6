use Rattle.bc_library_laws.proofs.extension_lemmas.Joined.{writeu_law}
use Rattle.bc_library_laws.proofs.extension.laws.writeu_writes_its_number.Goals as goal

pub returns : goal.returns
returns c = writeu_law
