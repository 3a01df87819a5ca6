use Rattle.bc_gen_laws.proofs.root_lemmas.Words.{size_is_by_the_roots}
use Rattle.bc_gen_laws.proofs.roots.laws.size_is_by_the_roots.Goals as goal

pub returns : goal.returns
returns c = size_is_by_the_roots
