use Rattle.bc_right.proofs.program_lemmas.Ranges.{linked_map_is_map}
use Rattle.bc_right.proofs.programs.laws.linked_map_is_map.Goals as goal

pub returns : goal.returns
returns c = linked_map_is_map
