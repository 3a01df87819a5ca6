use Rattle.bc_core.proofs.Rows.{for_view}
use Rattle.bc_scope_translate.proofs.commands.counting.Goals as goal

pub returns : goal.returns
returns c = for_view c.args.start c.args.limit c.args.by c.args.body
