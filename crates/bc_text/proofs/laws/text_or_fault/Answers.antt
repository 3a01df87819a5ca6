-- The law is a lemma on the definitions.
use Rattle.bc_text.proofs.TextLaws.{text_or_fault}
use Rattle.bc_text.proofs.laws.text_or_fault.Goals as goal

pub returns : goal.returns
returns c = text_or_fault
