use Rattle.bc_library_laws.proofs.extension_lemmas.Joined.{writeoct_law}
use Rattle.bc_library_laws.proofs.extension.laws.writeoct_writes_its_digits.Goals as goal

pub returns : goal.returns
returns c = writeoct_law
