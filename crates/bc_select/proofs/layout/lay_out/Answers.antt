use Rattle.std.proofs.Common.{[], sym, subst}
use Rattle.bc_select.specs.Order.{CanFollow}
use Rattle.bc_select.proofs.Order.{order_can_follow}
use Rattle.bc_select.proofs.layout.lay_out.Goals as goal

pub filled-requires : goal.filled-requires
filled-requires c = subst (CanFollow []) (sym c.in_ok-order.ensures) (order_can_follow c.args.waiting.items [] c.requires)
