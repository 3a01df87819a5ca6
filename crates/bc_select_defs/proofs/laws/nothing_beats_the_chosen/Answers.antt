use Rattle.bc_select_defs.specs.Chosen.{chosen_is_least}
use Rattle.bc_select_defs.proofs.laws.nothing_beats_the_chosen.Goals as goal

pub returns : goal.returns
returns c = chosen_is_least
