use Rattle.bc_library_laws.proofs.extension_lemmas.Joined.{compstring_law}
use Rattle.bc_library_laws.proofs.extension.laws.compstring_compares_strings.Goals as goal

pub returns : goal.returns
returns c = compstring_law
