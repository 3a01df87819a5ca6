use Rattle.std.proofs.Common.{length}
use Rattle.bc_candidates.proofs.lists.+add_applying.Given as goal

abbrev pub decreases-add_applying : goal.decreases-add_applying
decreases-add_applying l = length l.candidates.now
