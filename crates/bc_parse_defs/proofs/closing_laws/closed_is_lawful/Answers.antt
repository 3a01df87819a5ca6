use Rattle.bc_parse_defs.proofs.Plain.{closed_lawful}
use Rattle.bc_parse_defs.proofs.closing_laws.closed_is_lawful.Goals as goal

pub returns : goal.returns
returns c = closed_lawful
