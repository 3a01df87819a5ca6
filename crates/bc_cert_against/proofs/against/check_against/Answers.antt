-- The first entry that doesn't fit, and an entry that fits.
use Rattle.std.proofs.Common.{subst, map}
use Rattle.bc_cert_defs.specs.declared.mismatch.Mismatch.TheVariants as faults
use Rattle.bc_cert_defs.specs.View.{judged}
use Rattle.bc_cert_defs.specs.Against.{Misfit, order, outside, differs}
use Rattle.bc_cert_defs.proofs.Fitting.{here, gone_turn, holds, fails}
use Rattle.bc_cert_against.proofs.against.check_against.Goals as goal

pub returns-then-not-is_after : goal.returns-then-not-is_after
returns-then-not-is_after c =
    let g = here _ _ _ _ _ _ c.loop-entry-test.true c.judged-item.is c.loop-entry.invariant in
    subst (λ xs. Misfit c.args.segments.now 0 0 0 (map judged xs) (faults.Order c.loop-entry.entry)) c.deref-judged-items.ensures.value
    (g.misfit _ (order (fails _ c.if-not-is_after.true c.is_after.ensures)))

pub returns-then-not-lies_in : goal.returns-then-not-lies_in
returns-then-not-lies_in c =
    let g = here _ _ _ _ _ _ c.loop-entry-test.true c.judged-item.is c.loop-entry.invariant in
    subst (λ xs. Misfit c.args.segments.now 0 0 0 (map judged xs) (faults.OutsideText c.loop-entry.entry)) c.deref-judged-items.ensures.value
    (g.misfit _ (outside (holds _ c.if-not-is_after.false c.is_after.ensures) (fails _ c.if-not-lies_in.true c.lies_in.ensures)))

pub returns-then-not-stands_in : goal.returns-then-not-stands_in
returns-then-not-stands_in c =
    let g = here _ _ _ _ _ _ c.loop-entry-test.true c.judged-item.is c.loop-entry.invariant in
    subst (λ xs. Misfit c.args.segments.now 0 0 0 (map judged xs) (faults.CodeDiffers c.loop-entry.entry)) c.deref-judged-items.ensures.value
    (g.misfit _ (differs (holds _ c.if-not-is_after.false c.is_after.ensures) (holds _ c.if-not-lies_in.false c.lies_in.ensures) (fails _ c.if-not-stands_in.true c.stands_in.ensures)))

pub loop-entry-preserved : goal.loop-entry-preserved
loop-entry-preserved c =
    let g = here _ _ _ _ _ _ c.loop-entry-test.true c.judged-item.is c.loop-entry.invariant in
    gone_turn _ _ _ _ _ _ _ g (holds _ c.if-not-is_after.false c.is_after.ensures) (holds _ c.if-not-lies_in.false c.lies_in.ensures) (holds _ c.if-not-stands_in.false c.stands_in.ensures)
