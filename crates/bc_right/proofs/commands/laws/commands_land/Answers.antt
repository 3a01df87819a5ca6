use Rattle.bc_right.proofs.command_lemmas.Commands.{commands_land}
use Rattle.bc_right.proofs.commands.laws.commands_land.Goals as goal

pub returns : goal.returns
returns c = λ C address levels V S most roots R K old k p s E f a x end limit st room l. commands_land C address levels V S most roots R K old k p s E f a x end limit st room l
