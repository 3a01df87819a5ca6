-- The law is a lemma on the definitions.
use Rattle.bc_text.proofs.TextLaws.{fault_is_first}
use Rattle.bc_text.proofs.laws.fault_is_first.Goals as goal

pub returns : goal.returns
returns c = fault_is_first
