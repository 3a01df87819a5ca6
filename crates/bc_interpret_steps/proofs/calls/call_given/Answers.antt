use Rattle.std.proofs.Common.{reverse, subst, OnOk}
use Rattle.bc_core.specs.Meaning.{callee}
use Rattle.bc_interpret_defs.specs.Machine.{arrive}
use Rattle.bc_interpret_defs.specs.Trails.{trail_in}
use Rattle.bc_interpret_steps.specs.Code.{stack, given}
use Rattle.bc_interpret_steps.specs.Arrived.{Lands}
use Rattle.bc_interpret_steps.proofs.calls.call_given.Goals as goal

pub returns : goal.returns
returns c program table =
    let v = c.args.routine in
    let f = c.args.frame in
    let k = callee program v in
    let after = c.call_value.new.stacks.rests.items in
    let next = c.call_value.new.stacks.next in
    let st = c.args.state.now in
    let us = reverse c.gather.new.self.arguments.items in
    subst (λ xs. OnOk c.call_value.result (Lands (trail_in (stack c.args.stacks.now.rests.items)) (arrive k v xs f (stack c.args.stacks.now.rests.items)) k v xs f st next (stack after) (given after) c.call_value.new.state)) c.in_ok-gather.ensures.1
    (subst (λ qs. OnOk c.call_value.result (Lands (trail_in qs) (arrive k v us f qs) k v us f st next (stack after) (given after) c.call_value.new.state)) c.in_ok-gather.ensures.0
    (c.call_value.ensures program table))
