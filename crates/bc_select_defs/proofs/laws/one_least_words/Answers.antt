use Rattle.bc_select_defs.proofs.Unique.{one_least_words}
use Rattle.bc_select_defs.proofs.laws.one_least_words.Goals as goal

pub returns : goal.returns
returns c = one_least_words
