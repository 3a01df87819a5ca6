use Rattle.bc_candidates.proofs.Together.{least_are_the_rows}
use Rattle.bc_candidates.proofs.laws.least_are_the_rows.Goals as goal

pub returns : goal.returns
returns c = least_are_the_rows
