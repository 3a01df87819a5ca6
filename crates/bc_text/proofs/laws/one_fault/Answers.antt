-- The law is a lemma on the definitions.
use Rattle.bc_text.proofs.TextLaws.{one_fault}
use Rattle.bc_text.proofs.laws.one_fault.Goals as goal

pub returns : goal.returns
returns c = one_fault
