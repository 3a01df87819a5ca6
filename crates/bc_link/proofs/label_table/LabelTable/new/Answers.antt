use Rattle.std.proofs.Common.{◌≡◌, ◌∙◌, sym, ap, ◌+◌, take, [], ◌∷◌, ◌++◌, is_some, cond, Some, nat_eq}
use Rattle.std.proofs.lemmas.List.{take_more}
use Rattle.bc_machine_defs.specs.Places.{address_in}
use Rattle.bc_link.proofs.Pairs.{kept, gained}
use Rattle.bc_link.proofs.label_table.LabelTable.new.Goals as goal
use Rattle.bc_link.proofs.label_table.LabelTable.new.Goals.{then-not-contains_key+in_ok-insert, else-not-contains_key}

pub loop-pair-preserved : goal.loop-pair-preserved
loop-pair-preserved c = λ q.
    let pair = c.pair-item.result in
    let items = c.deref-pair-items.result.now in
    let so_far = take c.loop-pair.pair-index items in
    let more : take (c.loop-pair.pair-index + 1) items ≡ so_far ++ pair ∷ [] = take_more items c.loop-pair.pair-index pair c.loop-pair-test.true ∙ ap (λ p. so_far ++ p ∷ []) (sym c.pair-item.is) in
    let there : is_some (address_in pair.0 so_far) ≡ c.contains_key.result = ap is_some (sym (c.loop-pair.invariant pair.0)) ∙ sym c.contains_key.ensures in
    elim c.if-not-contains_key.branch [
      | then-not-contains_key+in_ok-insert w ↦ rw (w.addresses-is, more) (w.in_ok-insert.ensures.updates.0 q ∙ ap (cond (nat_eq pair.0 q) (Some pair.1)) (c.loop-pair.invariant q) ∙ sym (gained q so_far pair.0 pair.1 (there ∙ w.if-not-contains_key.true)))
      | else-not-contains_key w ↦ rw (w.addresses-is, more) (c.loop-pair.invariant q ∙ sym (kept q so_far pair.0 pair.1 (there ∙ w.if-not-contains_key.false)))
    ]
