use Rattle.bc_core.proofs.Rows.{repeat_while_view}
use Rattle.bc_scope_translate.proofs.commands.repeated.Goals as goal

pub returns : goal.returns
returns c = repeat_while_view c.args.block c.args.test
