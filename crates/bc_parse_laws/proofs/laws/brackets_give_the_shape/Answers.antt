use Rattle.bc_parse_laws.proofs.Held.{whole_few, section_few}
use Rattle.bc_parse_laws.proofs.laws.brackets_give_the_shape.Goals as goal

pub returns : goal.returns
returns c = record { brackets = section_few; alone = whole_few }
