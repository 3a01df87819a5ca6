use Rattle.bc_library_laws.proofs.extension_lemmas.Joined.{writehex_law}
use Rattle.bc_library_laws.proofs.extension.laws.writehex_writes_its_digits.Goals as goal

pub returns : goal.returns
returns c = writehex_law
