use Rattle.bc_link.proofs.Standing.{places_are_starts as places_are_starts-law}
use Rattle.bc_link.proofs.laws.places_are_starts.Goals as goal

pub returns : goal.returns
returns c = places_are_starts-law
