use Rattle.bc_tame_built.proofs.Tame as tame
use Rattle.bc_tame_built.proofs.laws.tame_programs.Goals as goal

pub returns : goal.returns
returns c = tame.tame_programs
