use Rattle.std.proofs.Common.{◌≡◌, ◌+◌, ◌≤◌, drop}
use Rattle.bc_text_items.specs.Sizes.{size_of_all}
use Rattle.bc_link.specs.Steps.{uncounted}
use Rattle.bc_link.proofs.layout.address_after.Given as goal

abbrev pub invariant-loop-item : goal.invariant-loop-item
invariant-loop-item l = record {
  counted : l.next + size_of_all (uncounted l.half_free (drop l.item-index l.items)) ≡ l.fn.start + size_of_all l.items;
  small : l.next ≤ 65472;
}
