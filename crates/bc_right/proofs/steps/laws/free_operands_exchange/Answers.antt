use Rattle.bc_right.proofs.step_lemmas.Exchange.{free_operands_exchange}
use Rattle.bc_right.proofs.steps.laws.free_operands_exchange.Goals as goal

pub returns : goal.returns
returns c = free_operands_exchange
