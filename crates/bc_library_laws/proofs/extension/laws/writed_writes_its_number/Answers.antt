use Rattle.bc_library_laws.proofs.extension_lemmas.Joined.{writed_law}
use Rattle.bc_library_laws.proofs.extension.laws.writed_writes_its_number.Goals as goal

pub returns : goal.returns
returns c = writed_law
