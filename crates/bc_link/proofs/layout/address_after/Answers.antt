use Rattle.std.proofs.Common.{arith}
use Rattle.bc_link.proofs.Bytes.{counted}
use Rattle.bc_link.proofs.layout.address_after.Goals as goal

pub returns-then-words-next : goal.returns-then-words-next
returns-then-words-next c =
    let more = counted c.loop-item.half_free c.loop-item.next _ c.args.items.now c.loop-item.item-index c.item-item.result c.loop-item-test.true c.item-item.is c.loop-item.invariant.counted in
    λ fits. omega (arith, more, c.words_begun-words.ensures.of_item)

pub loop-item-preserved : goal.loop-item-preserved
loop-item-preserved c =
    let more = counted c.loop-item.half_free c.loop-item.next _ c.args.items.now c.loop-item.item-index c.item-item.result c.loop-item-test.true c.item-item.is c.loop-item.invariant.counted in
    record {
      counted = rw (c.words_begun-words.ensures.of_item, c.leaves_half-half_free.ensures) more;
      small = omega arith;
    }
