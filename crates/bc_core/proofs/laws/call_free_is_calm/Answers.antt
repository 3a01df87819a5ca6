use Rattle.bc_core.proofs.Calm.{call_free_is_calm}
use Rattle.bc_core.proofs.laws.call_free_is_calm.Goals as goal

pub returns : goal.returns
returns c = call_free_is_calm
