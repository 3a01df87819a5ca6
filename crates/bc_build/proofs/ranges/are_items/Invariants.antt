use Rattle.std.proofs.Common.{take}
use Rattle.std.specs.Prelude.{All}
use Rattle.bc_text.specs.Printed.{IsItem}
use Rattle.bc_build.proofs.ranges.are_items.Given as goal

abbrev pub invariant-loop-item : goal.invariant-loop-item
invariant-loop-item l = All IsItem (take l.item-index l.items)
