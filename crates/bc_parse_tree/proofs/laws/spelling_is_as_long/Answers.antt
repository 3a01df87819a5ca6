use Rattle.bc_parse_tree.proofs.Sizes.{section_size}
use Rattle.bc_parse_tree.proofs.laws.spelling_is_as_long.Goals as goal

pub returns : goal.returns
returns c = λ ds ts s. section_size s
