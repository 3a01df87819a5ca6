use Rattle.bc_core.proofs.Tidiness.{calls_are_tidy}
use Rattle.bc_core.proofs.laws.calls_are_tidy.Goals as goal

pub returns : goal.returns
returns c = calls_are_tidy
