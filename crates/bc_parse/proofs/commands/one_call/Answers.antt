use Rattle.std.proofs.Common.{sym, arith}
use Rattle.bc_parse_tree.specs.View.{exps_view}
use Rattle.bc_parse.proofs.Lists.{no_call, count_exps_view}
use Rattle.bc_parse.proofs.commands.one_call.Goals as goal

pub returns-then-len-ne1 : goal.returns-then-len-ne1
returns-then-len-ne1 c = sym (no_call (exps_view c.args.list.items) (λ e. absurd (omega (arith, e, count_exps_view c.args.list.items, c.args.list.ok.0))))
