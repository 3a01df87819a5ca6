use Rattle.bc_core.specs.View.{root}
use Rattle.bc_select.proofs.Order.{if_ok, nodes_of_root}
use Rattle.bc_select.proofs.selection.lay_out_root.Goals as goal

pub returns : goal.returns
returns c = if_ok c.lay_out.result _ _ (λ made h. nodes_of_root (root c.args.root.now) c.in_ok-found.found.items made c.in_ok-found.ensures h) c.lay_out.ensures
