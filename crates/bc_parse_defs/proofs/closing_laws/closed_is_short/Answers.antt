use Rattle.bc_parse_defs.proofs.Weights.{closed_short}
use Rattle.bc_parse_defs.proofs.closing_laws.closed_is_short.Goals as goal

pub returns : goal.returns
returns c = closed_short
