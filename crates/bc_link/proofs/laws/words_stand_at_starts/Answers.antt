use Rattle.bc_link.proofs.Standing.{words_stand_at_starts as words_stand_at_starts-law}
use Rattle.bc_link.proofs.laws.words_stand_at_starts.Goals as goal

pub returns : goal.returns
returns c = words_stand_at_starts-law
