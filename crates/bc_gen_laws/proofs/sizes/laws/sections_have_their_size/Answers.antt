use Rattle.bc_gen_laws.proofs.size_lemmas.Sections.{sections_have_their_size}
use Rattle.bc_gen_laws.proofs.sizes.laws.sections_have_their_size.Goals as goal

pub returns : goal.returns
returns c = sections_have_their_size
