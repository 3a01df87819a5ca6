use Rattle.bc_right.proofs.step_lemmas.Exchange.{free_sides_exchange}
use Rattle.bc_right.proofs.steps.laws.free_sides_exchange.Goals as goal

pub returns : goal.returns
returns c = free_sides_exchange
