-- The law is a lemma on the definitions.
use Rattle.bc_text.proofs.TextLaws.{one_text}
use Rattle.bc_text.proofs.laws.one_text.Goals as goal

pub returns : goal.returns
returns c = one_text
