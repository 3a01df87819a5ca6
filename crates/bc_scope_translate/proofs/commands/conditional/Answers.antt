use Rattle.bc_core.proofs.Rows.{if_view}
use Rattle.bc_scope_translate.proofs.commands.conditional.Goals as goal

pub returns : goal.returns
returns c = if_view c.args.test c.args.block
