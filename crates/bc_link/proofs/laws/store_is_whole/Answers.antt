use Rattle.bc_link.proofs.Standing.{store_is_whole as store_is_whole-law}
use Rattle.bc_link.proofs.laws.store_is_whole.Goals as goal

pub returns : goal.returns
returns c = store_is_whole-law
