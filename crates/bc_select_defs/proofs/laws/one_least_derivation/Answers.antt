use Rattle.bc_select_defs.proofs.Unique.{one_least_derivation}
use Rattle.bc_select_defs.proofs.laws.one_least_derivation.Goals as goal

pub returns : goal.returns
returns c = one_least_derivation
