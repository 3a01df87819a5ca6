use Rattle.bc_select.proofs.Lines.{same_choices}
use Rattle.bc_select.proofs.binary_choices.pair_choices.Goals as goal

pub returns : goal.returns
returns c = same_choices _ _ _ _ _ _ _ _ (cc) (cc) (cc) (cc)
