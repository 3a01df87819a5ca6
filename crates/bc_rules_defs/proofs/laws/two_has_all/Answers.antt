use Rattle.bc_rules_defs.proofs.Likeness.{two_has_all}
use Rattle.bc_rules_defs.proofs.laws.two_has_all.Goals as goal

pub returns : goal.returns
returns c = two_has_all
