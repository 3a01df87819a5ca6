use Rattle.bc_core.proofs.Rows.{switchon_view}
use Rattle.bc_scope_translate.proofs.commands.switch.Goals as goal

pub returns : goal.returns
returns c = switchon_view c.args.of c.args.list
