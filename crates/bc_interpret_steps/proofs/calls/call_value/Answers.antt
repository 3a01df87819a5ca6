use Rattle.std.proofs.Common.{reverse, sym, ap, subst, ◌∙◌, OnOk}
use Rattle.bc_core.specs.Meaning.{of_library}
use Rattle.bc_interpret_defs.specs.Machine.{arrive}
use Rattle.bc_interpret_defs.specs.Trails.{trail_in}
use Rattle.bc_interpret_steps.specs.Code.{stack, given}
use Rattle.bc_interpret_steps.specs.Arrived.{Lands}
use Rattle.bc_interpret_steps.specs.Sections.{called}
use Rattle.bc_interpret_steps.proofs.Arrivals.{sized_among}
use Rattle.bc_interpret_steps.proofs.calls.call_value.Goals as goal

pub returns-in-Some : goal.returns-in-Some
returns-in-Some c program table =
    let found = c.in-Some.ensures in
    let v = c.args.call.routine in
    let f = c.args.call.frame in
    let vs = reverse c.args.stacks.now.arguments.items in
    let after = c.enter_routine.new.stacks.rests.items in
    subst (λ k. OnOk c.enter_routine.result (Lands (trail_in (stack c.args.stacks.now.rests.items)) (arrive k v vs f (stack c.args.stacks.now.rests.items)) k v vs f c.args.state.now c.enter_routine.new.stacks.next (stack after) (given after) c.enter_routine.new.state))
    (sym (table.finds v ∙ ap (λ q. called q v) (sym found)))
    (c.enter_routine.ensures (sized_among c.args.table.now v c.in-Some.entry (sym found) table.sized))

pub returns-in-Some-primitive_at : goal.returns-in-Some-primitive_at
returns-in-Some-primitive_at c program table =
    let v = c.args.call.routine in
    let f = c.args.call.frame in
    let vs = reverse c.args.stacks.now.arguments.items in
    let after = c.enter_primitive.new.stacks.rests.items in
    subst (λ k. OnOk c.enter_primitive.result (Lands (trail_in (stack c.args.stacks.now.rests.items)) (arrive k v vs f (stack c.args.stacks.now.rests.items)) k v vs f c.args.state.now c.enter_primitive.new.stacks.next (stack after) (given after) c.enter_primitive.new.state))
    (sym (table.finds v ∙ (ap (λ e. called e v) (sym c.in-None.ensures) ∙ ap of_library (sym c.in-Some-primitive_at.ensures))))
    c.enter_primitive.ensures
