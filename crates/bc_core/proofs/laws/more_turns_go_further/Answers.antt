use Rattle.bc_core.proofs.Turns.{more_turns_go_further}
use Rattle.bc_core.proofs.laws.more_turns_go_further.Goals as goal

pub returns : goal.returns
returns c = more_turns_go_further
