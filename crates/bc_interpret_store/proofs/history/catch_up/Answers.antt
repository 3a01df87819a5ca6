use Rattle.std.proofs.Common.{◌<◌, ◌∙◌, refl, arith}
use Rattle.bc_interpret_store.proofs.Following.{extends_none, extends_trans, agrees_none, agrees_more, agrees_all}
use Rattle.bc_interpret_store.proofs.history.catch_up.Goals as goal

pub loop-index-init : goal.loop-index-init
loop-index-init c = record { length_kept = refl; extends = extends_none _ _ _ refl; agrees = agrees_none _ _ }

pub loop-index-preserved : goal.loop-index-preserved
loop-index-preserved c =
    let so_far = c.loop-index.invariant in
    let step = c.in_ok-catch_up_at.ensures in
    record {
      length_kept = step.length ∙ so_far.length_kept;
      extends = extends_trans _ _ _ _ _ _ so_far.extends step.extends;
      agrees = agrees_more _ _ _ _ so_far.agrees step.updates step.length;
    }

pub returns-clause-agrees : goal.returns-clause-agrees
returns-clause-agrees c =
    agrees_all c.loop-index.index 65536 _ _ c.loop-index.invariant.agrees (λ a p q.
    let there : a < c.len.result = omega (arith, q, c.len.ensures, c.args.seen.now.ok.0, c.loop-index.invariant.length_kept) in
    let inner : a < c.least-end.result = c.least-end.ensures.most a there p in
    omega (arith, inner, c.loop-index-test.false))
