use Rattle.bc_link.proofs.Standing.{ranges_lie_between as ranges_lie_between-law}
use Rattle.bc_link.proofs.laws.ranges_lie_between.Goals as goal

pub returns : goal.returns
returns c = ranges_lie_between-law
