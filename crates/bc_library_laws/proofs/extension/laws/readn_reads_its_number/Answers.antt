use Rattle.bc_library_laws.proofs.extension_lemmas.Reading.{readn_law}
use Rattle.bc_library_laws.proofs.extension.laws.readn_reads_its_number.Goals as goal

pub returns : goal.returns
returns c = readn_law
