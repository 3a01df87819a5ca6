use Rattle.bc_parse_laws.proofs.Tokens.{spelling_closed}
use Rattle.bc_parse_laws.proofs.laws.spelling_is_closed.Goals as goal

pub returns : goal.returns
returns c = spelling_closed
