use Rattle.bc_core.proofs.Rows.{while_view}
use Rattle.bc_scope_translate.proofs.commands.looped.Goals as goal

pub returns : goal.returns
returns c = while_view c.args.test c.args.block
