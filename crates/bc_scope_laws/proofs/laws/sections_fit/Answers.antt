use Rattle.bc_scope_laws.proofs.Fitting.{sections_fit}
use Rattle.bc_scope_laws.proofs.laws.sections_fit.Goals as goal

pub returns : goal.returns
returns c = sections_fit
