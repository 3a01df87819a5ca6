use Rattle.bc_library_laws.proofs.extension_lemmas.Built.{extension_of}
use Rattle.bc_library_laws.proofs.extension.texts.extension_is_the_section.Goals as goal

pub returns : goal.returns
returns c = extension_of
