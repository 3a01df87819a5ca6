use Rattle.bc_gen_laws.proofs.label_lemmas.Refusing.{labels_are_those_taken}
use Rattle.bc_gen_laws.proofs.labels.laws.labels_are_those_taken.Goals as goal

pub returns : goal.returns
returns c = labels_are_those_taken
