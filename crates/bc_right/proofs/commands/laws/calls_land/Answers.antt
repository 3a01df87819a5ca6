use Rattle.bc_right.proofs.command_lemmas.Calls.{calls_land}
use Rattle.bc_right.proofs.commands.laws.calls_land.Goals as goal

pub returns : goal.returns
returns c = calls_land
