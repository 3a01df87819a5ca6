-- The law is a lemma on the definitions.
use Rattle.bc_text_items.proofs.Parts.{parts}
use Rattle.bc_text_items.proofs.laws.parts_stand_apart.Goals as goal

pub returns : goal.returns
returns c = parts
