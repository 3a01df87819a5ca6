use Rattle.bc_gen_laws.proofs.label_lemmas.Refusing.{labels_stand_once}
use Rattle.bc_gen_laws.proofs.labels.laws.labels_stand_once.Goals as goal

pub returns : goal.returns
returns c = labels_stand_once
