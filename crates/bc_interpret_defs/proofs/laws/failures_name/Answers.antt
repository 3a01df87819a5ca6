use Rattle.bc_interpret_defs.proofs.Wordwise.{failures_name}
use Rattle.bc_interpret_defs.proofs.laws.failures_name.Goals as goal

pub returns : goal.returns
returns c = failures_name
