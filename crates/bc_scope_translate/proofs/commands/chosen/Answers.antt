use Rattle.bc_core.proofs.Rows.{test_view}
use Rattle.bc_scope_translate.proofs.commands.chosen.Goals as goal

pub returns : goal.returns
returns c = test_view c.args.test c.args.this c.args.that
