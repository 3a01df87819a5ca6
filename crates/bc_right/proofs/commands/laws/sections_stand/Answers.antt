use Rattle.bc_right.proofs.command_lemmas.Section.{sections_stand}
use Rattle.bc_right.proofs.commands.laws.sections_stand.Goals as goal

pub returns : goal.returns
returns c = sections_stand
