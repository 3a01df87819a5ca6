use Rattle.bc_parse_laws.proofs.Grammar.{section_formed}
use Rattle.bc_parse_laws.proofs.Spelled.{section_spelled}
use Rattle.bc_parse_laws.proofs.laws.spelling_is_spelled.Goals as goal

pub returns : goal.returns
returns c = λ ds ts spelled. section_spelled ds (section_formed spelled)
