-- Pushing a continuation and setting what comes next.
use Rattle.std.proofs.Common.{List, sym, subst}
use Rattle.bc_interpret_defs.specs.Machine as machine
use Rattle.bc_interpret_defs.specs.Trails.{Standing}
use Rattle.bc_interpret_steps.specs.declared.state.State.{State}
use Rattle.bc_interpret_steps.specs.declared.forms.Progress.{Progress}
use Rattle.bc_interpret_steps.specs.declared.continuations.Rest.{Rest}
use Rattle.bc_interpret_steps.specs.Code.{stacked, then_given, stack, given}
use Rattle.bc_interpret_steps.specs.Came.{Came, StandsAfter}

pub following : (trail : List Standing) → (f : List machine.Rest → machine.Step) (r : Rest) (next : Progress) (before : List Rest) (p : Progress) (after : List Rest) (old new : State)
    → Came trail (f (stack before)) old next (stacked (stack before) (given before) r) (then_given (given before) r) new → StandsAfter r next before p after
    → Came trail (f (stack before)) old p (stack after) (given after) new
following trail f r next before p after old new g h =
    subst (λ q. Came trail (f (stack before)) old q (stack after) (given after) new) (sym h.2)
    (subst (λ vs. Came trail (f (stack before)) old next (stack after) vs new) (sym h.1)
    (subst (λ rs. Came trail (f (stack before)) old next rs (then_given (given before) r) new) (sym h.0) g))
