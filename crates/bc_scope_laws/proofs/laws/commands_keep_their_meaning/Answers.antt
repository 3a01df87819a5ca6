use Rattle.bc_scope_laws.proofs.Table.{commands_keep}
use Rattle.bc_scope_laws.proofs.laws.commands_keep_their_meaning.Goals as goal

pub returns : goal.returns
returns c = commands_keep
