use Rattle.bc_select_defs.proofs.Words.{choices_are_least}
use Rattle.bc_select_defs.proofs.laws.choices_are_least.Goals as goal

pub returns : goal.returns
returns c = choices_are_least
