use Rattle.std.proofs.Common.{sym, ap, subst, ◌∙◌, length}
use Rattle.bc_interpret_steps.specs.Code.{exit_of, stack}
use Rattle.bc_interpret_steps.specs.Passing.{IsPassed}
use Rattle.bc_interpret_steps.proofs.Passing.{passes_more, popped_by, popped_less}
use Rattle.bc_interpret_steps.proofs.exits.pass.Goals as goal

pub loop-out-preserved : goal.loop-out-preserved
loop-out-preserved c =
    let old = c.loop-out.rests.items in
    let new = c.pop-gone.new.self.items in
    let x = exit_of c.loop-out.now in
    let out = c.in-Some.out in
    let h = subst (λ f. IsPassed x old f) c.in-Some.is (subst (λ xs. IsPassed x xs c.passed.result) c.as_slice.ensures.value c.passed.ensures) in
    passes_more (exit_of c.args.exit) x (exit_of out) (stack c.args.rests.now.items) (stack old) (stack new) c.loop-out.invariant
    (popped_by x old new c.pop-gone.result out _ _ c.pop-gone.ensures.items c.pop-gone.ensures.cases (sym (ap length c.as_slice.ensures.value) ∙ c.as_slice.ensures.len) h)

pub loop-out-smaller : goal.loop-out-smaller
loop-out-smaller c =
    let old = c.loop-out.rests.items in
    let x = exit_of c.loop-out.now in
    let out = c.in-Some.out in
    let h = subst (λ f. IsPassed x old f) c.in-Some.is (subst (λ xs. IsPassed x xs c.passed.result) c.as_slice.ensures.value c.passed.ensures) in
    popped_less x old c.pop-gone.result out _ _ c.pop-gone.ensures.cases (sym (ap length c.as_slice.ensures.value) ∙ c.as_slice.ensures.len) h
