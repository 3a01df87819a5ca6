use Rattle.std.proofs.Common.{sym, ap, subst}
use Rattle.std.proofs.lemmas.Result.{on_ok_weaker}
use Rattle.bc_core.specs.View.{command}
use Rattle.bc_interpret_defs.specs.Machine as machine
use Rattle.bc_interpret_steps.specs.Code.{spot_of, stack, given}
use Rattle.bc_interpret_steps.specs.Passing.{Ran}
use Rattle.bc_interpret_steps.proofs.Handing.{stepped_loosely}
use Rattle.bc_interpret_steps.proofs.Passing.{ran}
use Rattle.bc_interpret_steps.proofs.call_command.begin_command.Goals as goal

pub returns-in-Call : goal.returns-in-Call
returns-in-Call c program table =
    let before = stack c.args.stacks.now.rests.items in
    let after = c.perform_call.new.stacks.rests.items in
    on_ok_weaker c.perform_call.result (λ h. subst (λ k. Ran program (record { work = machine.Perform (spot_of c.args.site) k c.args.site.level; rests = before }) c.args.state.now c.perform_call.new.stacks.next (stack after) (given after) c.perform_call.new.state)
    (sym (ap command c.in-Call.is)) h) (c.perform_call.ensures program table)

pub returns-in-Assign : goal.returns-in-Assign
returns-in-Assign c program table =
    let work = machine.Perform (spot_of c.args.site) (command c.args.command.now) c.args.site.level in
    let before = stack c.args.stacks.now.rests.items in
    let after = c.perform.new.stacks.rests.items in
    on_ok_weaker c.perform.result (λ h. ran program work before c.args.state.now c.perform.new.stacks.next (stack after) (given after) c.perform.new.state
    (stepped_loosely program work before c.args.state.now c.perform.new.stacks.next (stack after) (given after) c.perform.new.state (λ v vs f k. let w = k.work in cc) tt h)) c.perform.ensures
