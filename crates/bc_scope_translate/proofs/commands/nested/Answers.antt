use Rattle.bc_core.proofs.Rows.{nested_view}
use Rattle.bc_scope_translate.proofs.commands.nested.Goals as goal

pub returns : goal.returns
returns c = nested_view c.args.block
