use Rattle.std.proofs.Common.{refl}
use Rattle.bc_core.specs.View.{exp}
use Rattle.bc_interpret_pure.specs.Causes.{cause_of}
use Rattle.bc_interpret_steps.specs.declared.assign.Assigned.TheVariants as forms
use Rattle.bc_interpret_steps.specs.Code.{spot_of, stack}
use Rattle.bc_interpret_steps.specs.Came.{state_of}
use Rattle.bc_interpret_steps.proofs.Assigns.{told_assigned, store_wild, store_by}
use Rattle.bc_interpret_steps.proofs.commands.store.Goals as goal

pub returns-in-Some-Fails : goal.returns-in-Some-Fails
returns-in-Some-Fails c =
    let E = spot_of c.args.site in
    let v = exp c.args.value.now in
    let a = exp c.args.address.now in
    let s = c.args.site.level in
    let rs = stack c.args.stacks.now.rests.items in
    let old = c.args.state.now in
    let cause = c.in-Some-Fails.cause in
    let came = told_assigned E v a old c.assign_at_once.new.state c.in_ok-assign_at_once.field-0 (forms.Fails cause) c.in_ok-assign_at_once.ensures cc in
    (λ streams. store_wild E v a s rs (state_of old streams) came.0 (came.1 s streams), rw c.in-Some-Fails.field-0-is (store_by E v a s rs old.store (cause_of cause) came.0 came.2), refl)
