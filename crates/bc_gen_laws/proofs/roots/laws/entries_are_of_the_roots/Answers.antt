use Rattle.bc_gen_laws.proofs.root_lemmas.Marks.{entries_are_of_the_roots}
use Rattle.bc_gen_laws.proofs.roots.laws.entries_are_of_the_roots.Goals as goal

pub returns : goal.returns
returns c = entries_are_of_the_roots
