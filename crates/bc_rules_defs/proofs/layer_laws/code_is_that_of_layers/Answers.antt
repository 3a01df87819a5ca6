use Rattle.bc_rules_defs.proofs.Layers.{code_is_that_of_layers}
use Rattle.bc_rules_defs.proofs.layer_laws.code_is_that_of_layers.Goals as goal

pub returns : goal.returns
returns c = code_is_that_of_layers
