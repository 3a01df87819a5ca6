use Rattle.bc_rules_defs.proofs.Likeness.{alike}
use Rattle.bc_rules_defs.proofs.laws.shape_tells.Goals as goal

pub returns : goal.returns
returns c = alike
