use Rattle.std.proofs.Common.{◌≡◌, ◌++◌, sym, append-nil, refl}
use Rattle.bc_link.proofs.Bytes.{counted, placed, placed_more, label_here, label_here-other}
use Rattle.bc_link.proofs.layout.label_places.Goals as goal
use Rattle.bc_link.proofs.layout.label_places.Goals.{in-Label+in_ok-push, in_default}

pub loop-item-preserved : goal.loop-item-preserved
loop-item-preserved c =
    let next = c.loop-item.next in
    let more = counted c.loop-item.half_free next _ c.args.items.now c.loop-item.item-index c.item-item.result c.loop-item-test.true c.item-item.is c.loop-item.invariant.counted in
    let here = placed c.loop-item.half_free next c.args.items.now c.loop-item.item-index c.item-item.result c.loop-item-test.true c.item-item.is in
    let whole : c.match-item.pairs.items ≡ c.loop-item.pairs.items ++ label_here next c.item-item.result =
    elim c.match-item.branch [
      | in-Label+in_ok-push w ↦ rw (w.pairs-is, w.in_ok-push.ensures.items, w.in-Label.is, w.new.ensures) refl
      | in_default w ↦ rw (w.pairs-is, label_here-other next c.item-item.result w.in_default.not-Label) (sym (append-nil _))
    ] in
    record {
      counted = rw (c.words_begun-next.ensures.of_item, c.leaves_half-half_free.ensures) more;
      placed = rw (c.words_begun-next.ensures.of_item, c.leaves_half-half_free.ensures) (placed_more _ _ _ _ _ _ here c.loop-item.invariant.placed whole);
    }
