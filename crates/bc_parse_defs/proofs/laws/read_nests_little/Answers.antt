use Rattle.bc_parse_defs.proofs.Heights.{section_high}
use Rattle.bc_parse_defs.proofs.laws.read_nests_little.Goals as goal

pub returns : goal.returns
returns c = section_high
