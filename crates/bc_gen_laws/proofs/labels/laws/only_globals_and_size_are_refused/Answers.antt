use Rattle.bc_gen_laws.proofs.label_lemmas.Refusing.{only_globals_and_size_are_refused}
use Rattle.bc_gen_laws.proofs.labels.laws.only_globals_and_size_are_refused.Goals as goal

pub returns : goal.returns
returns c = only_globals_and_size_are_refused
