use Rattle.bc_scope_laws.proofs.Program.{sections_keep}
use Rattle.bc_scope_laws.proofs.laws.sections_keep_their_meaning.Goals as goal

pub returns : goal.returns
returns c = sections_keep
