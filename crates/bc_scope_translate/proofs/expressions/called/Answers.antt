use Rattle.bc_core.proofs.Rows.{call_view}
use Rattle.bc_scope_translate.proofs.expressions.called.Goals as goal

pub returns : goal.returns
returns c = call_view c.args.values c.args.routine
