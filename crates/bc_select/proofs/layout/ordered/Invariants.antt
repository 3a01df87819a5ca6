use Rattle.std.proofs.Common.{◌≡◌, ◌++◌, ◌-◌, [], length, None}
use Rattle.bc_select.specs.Order.{AllFit, from_the_end, in_order_of, listed}
use Rattle.bc_select.proofs.layout.ordered.Given as goal

abbrev pub invariant-loop-next : goal.invariant-loop-next
invariant-loop-next l = record {
  fit : AllFit (l.waiting.items ++ listed l.next);
  over : l.next ≡ None → l.waiting.items ≡ [];
  is : in_order_of (l.waiting.items ++ listed l.next) ++ from_the_end l.order.items ≡ in_order_of l.fn.waiting.items;
}

abbrev pub decreases-loop-next : goal.decreases-loop-next
decreases-loop-next l = length (in_order_of l.fn.waiting.items) - length l.order.items
