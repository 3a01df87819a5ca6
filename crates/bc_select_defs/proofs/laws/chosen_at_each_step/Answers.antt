use Rattle.bc_select_defs.specs.Chosen.{chosen_has_least_parts}
use Rattle.bc_select_defs.proofs.laws.chosen_at_each_step.Goals as goal

pub returns : goal.returns
returns c = chosen_has_least_parts
