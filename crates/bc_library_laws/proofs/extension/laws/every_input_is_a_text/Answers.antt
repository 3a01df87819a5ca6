use Rattle.bc_library_laws.proofs.extension_lemmas.Splitting.{every_input}
use Rattle.bc_library_laws.proofs.extension.laws.every_input_is_a_text.Goals as goal

pub returns : goal.returns
returns c = every_input
