use Rattle.bc_scope_laws.proofs.WordsKept.{words_are_kept}
use Rattle.bc_scope_laws.proofs.laws.words_are_kept.Goals as goal

pub returns : goal.returns
returns c = words_are_kept
