use Rattle.bc_scope_laws.proofs.Table.{expressions_keep}
use Rattle.bc_scope_laws.proofs.laws.expressions_keep_their_meaning.Goals as goal

pub returns : goal.returns
returns c = expressions_keep
