use Rattle.bc_link.proofs.Standing.{ranges_are_disjoint as ranges_are_disjoint-law}
use Rattle.bc_link.proofs.laws.ranges_are_disjoint.Goals as goal

pub returns : goal.returns
returns c = ranges_are_disjoint-law
