-- The law is a lemma on the definitions.
use Rattle.bc_text_items.proofs.Parts.{length-assembled}
use Rattle.bc_text_items.proofs.laws.assembled_has_its_size.Goals as goal

pub returns : goal.returns
returns c = length-assembled
