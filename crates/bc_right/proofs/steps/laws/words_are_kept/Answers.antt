use Rattle.bc_right.proofs.step_lemmas.Keeping.{words_are_kept}
use Rattle.bc_right.proofs.steps.laws.words_are_kept.Goals as goal

pub returns : goal.returns
returns c = words_are_kept
