use Rattle.bc_rules_defs.proofs.Words.{code_words}
use Rattle.bc_rules_defs.proofs.laws.words_of_code.Goals as goal

pub returns : goal.returns
returns c = λ T e aim d s t f. code_words d s t f
