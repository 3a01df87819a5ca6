use Rattle.bc_parse_defs.proofs.Sound.{section_sound}
use Rattle.bc_parse_defs.proofs.laws.read_is_spelled.Goals as goal

pub returns : goal.returns
returns c = section_sound
