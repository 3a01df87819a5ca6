use Rattle.std.proofs.Common.{subst}
use Rattle.std.specs.Prelude.{All}
use Rattle.std.proofs.lemmas.List.{take_all}
use Rattle.std.proofs.lemmas.List.Elements.{All-more}
use Rattle.bc_text.specs.Printed.{IsItem}
use Rattle.bc_build.proofs.ranges.are_items.Goals as goal

pub loop-item-preserved : goal.loop-item-preserved
loop-item-preserved c = All-more IsItem c.args.items.now c.loop-item.item-index c.item-item.result c.loop-item-test.true c.loop-item.invariant (subst IsItem c.item-item.is c.is_item.ensures)

pub returns : goal.returns
returns c = subst (All IsItem) (take_all c.loop-item.item-index c.args.items.now c.loop-item-test.false) c.loop-item.invariant
