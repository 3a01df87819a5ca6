use Rattle.bc_right.proofs.command_lemmas.Whole.{meaning_is_run}
use Rattle.bc_right.proofs.commands.laws.meaning_is_run.Goals as goal

pub returns : goal.returns
returns c = meaning_is_run
