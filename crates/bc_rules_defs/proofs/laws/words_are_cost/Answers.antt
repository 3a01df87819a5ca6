use Rattle.bc_rules_defs.proofs.Words.{root_words}
use Rattle.bc_rules_defs.proofs.laws.words_are_cost.Goals as goal

pub returns : goal.returns
returns c = λ T r d t f. root_words d t f
