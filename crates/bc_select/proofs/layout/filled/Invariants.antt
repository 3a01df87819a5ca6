use Rattle.std.proofs.Common.{◌≡◌, ◌++◌, length, map}
use Rattle.bc_select.specs.Order.{from_the_end, node_at, CanFollow}
use Rattle.bc_select.proofs.layout.filled.Given as goal

abbrev pub invariant-loop-whole : goal.invariant-loop-whole
invariant-loop-whole l = record {
  ahead : CanFollow l.nodes (from_the_end l.order.items);
  is : l.nodes ++ map node_at (from_the_end l.order.items) ≡ map node_at (from_the_end l.fn.order.items);
}

abbrev pub decreases-loop-whole : goal.decreases-loop-whole
decreases-loop-whole l = length l.order.items
