use Rattle.bc_right.proofs.command_lemmas.Whole.{runs_are_same}
use Rattle.bc_right.proofs.commands.laws.runs_are_same.Goals as goal

pub returns : goal.returns
returns c = runs_are_same
