use Rattle.bc_core.proofs.Rows.{repeat_view}
use Rattle.bc_scope_translate.proofs.commands.forever.Goals as goal

pub returns : goal.returns
returns c = repeat_view c.args.block
