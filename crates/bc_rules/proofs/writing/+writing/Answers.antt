use Rattle.std.proofs.Common.{◌≡◌, length, ◌∙◌, arith}
use Rattle.bc_rules.proofs.Written.{tree_writes, single_writes, single_writes_not, pair_writes, pair_writes_not, triple_writes, triple_writes_not, call_misfit, call_writes}
use Rattle.bc_rules.proofs.writing.+writing.Goals.{call-then-trees-n-via-then-trees-n, call-then-trees-n-via-else-trees-n+then-trees-n-ne1}
use Rattle.bc_rules.proofs.writing.+writing.Goals as goal

pub write-returns : goal.write-returns
write-returns t c = tree_writes c.write_parts.result _ _ _ _ _ _ _ _ _ c.deref.ensures.value c.parts_of.ensures c.write_parts.ensures

pub one_part-returns-then-trees-ne1 : goal.one_part-returns-then-trees-ne1
one_part-returns-then-trees-ne1 t c = single_writes_not _ _ _ _ _ _ _ _ _ c.if-trees-ne1.true

pub one_part-returns : goal.one_part-returns
one_part-returns t c = single_writes _ _ _ _ _ _ _ _ _ _ _ _ _ _ c.if-trees-ne1.false c.index-trees-0.is c.in_ok-level.ensures c.in_ok-write.ensures c.in_ok-after_single.ensures

pub two_parts-returns-then-trees-ne2 : goal.two_parts-returns-then-trees-ne2
two_parts-returns-then-trees-ne2 t c = pair_writes_not _ _ _ _ _ _ _ _ _ _ _ c.if-trees-ne2.true

pub two_parts-returns : goal.two_parts-returns
two_parts-returns t c =
    pair_writes _ _ _ _ _ _ _ _ _ _ _ _ _ _ _ _ _ _ _ _ _ _ _ _ c.if-trees-ne2.false c.index-trees-0.is c.index-trees-1.is c.own_labels.ensures c.in_ok-level.ensures c.in_ok-target.ensures
    c.in_ok-first.ensures.first c.in_ok-first.ensures.takes c.in_ok-write.ensures c.in_ok-between.ensures c.in_ok-write-2.ensures c.in_ok-after_pair.ensures

pub three_parts-returns-then-trees-ne3 : goal.three_parts-returns-then-trees-ne3
three_parts-returns-then-trees-ne3 t c = triple_writes_not _ _ _ _ _ _ _ _ _ _ _ _ _ c.if-trees-ne3.true

pub three_parts-returns : goal.three_parts-returns
three_parts-returns t c =
    triple_writes _ _ _ _ _ _ _ _ _ _ _ _ _ _ _ _ _ _ _ _ _ _ _ _ _ _ _ _ _ _ c.if-trees-ne3.false c.index-trees-0.is c.index-trees-1.is c.index-trees-2.is
    c.in_ok-first.ensures.first c.in_ok-target.ensures c.in_ok-second.ensures c.in_ok-as_word.ensures c.in_ok-first.ensures.takes
    c.in_ok-write.ensures c.in_ok-write-2.ensures c.in_ok-jump.ensures c.in_ok-label.ensures c.in_ok-write-3.ensures c.in_ok-label-2.ensures

pub call-returns-then-trees-n : goal.call-returns-then-trees-n
call-returns-then-trees-n t c =
    let i : c.loop-i.i ≡ length c.args.of.arguments.now = omega arith in
    elim c.then-trees-n.branch [
      | call-then-trees-n-via-then-trees-n w ↦ call_misfit _ _ _ _ _ _ _ _ _ _ _ _ _ i (λ e. omega arith) c.loop-i.invariant.1 c.loop-i.invariant.2
      | call-then-trees-n-via-else-trees-n+then-trees-n-ne1 w ↦ call_misfit _ _ _ _ _ _ _ _ _ _ _ _ _ i (λ e. omega arith) c.loop-i.invariant.1 c.loop-i.invariant.2
    ]

pub call-returns : goal.call-returns
call-returns t c =
    let i : c.loop-i.i ≡ length c.args.of.arguments.now = omega arith in
    call_writes _ _ _ _ _ _ _ _ _ _ _ _ _ _ _ _ _ _ _ i (omega arith) c.index-trees-n.is c.loop-i.invariant.0 (c.new-number.ensures ∙ c.in_ok-as_word.ensures) c.loop-i.invariant.1 c.loop-i.invariant.2
    c.in_ok-write-2.ensures c.in_ok-number.ensures
