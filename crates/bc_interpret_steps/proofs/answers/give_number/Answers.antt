use Rattle.std.proofs.Common.{Some, subst}
use Rattle.std.proofs.lemmas.Result.{on_ok_weaker}
use Rattle.bc_interpret_defs.specs.Machine as machine
use Rattle.bc_interpret_steps.specs.Code.{number_rest, value_rest, given_for, stack, given, Taken}
use Rattle.bc_interpret_steps.proofs.Handing.{handed, landed, no_number_calls, no_value_calls, no_number_closes, no_value_closes}
use Rattle.bc_interpret_steps.proofs.answers.give_number.Goals as goal

pub returns-in-Some-Number : goal.returns-in-Some-Number
returns-in-Some-Number c program table =
    let middle = c.pop.new.self.rests.items in
    let after = c.number_taken.new.stacks.rests.items in
    let st = c.args.state.now in
    on_ok_weaker c.number_taken.result (λ h. handed program (machine.Number c.args.v) (stack c.args.stacks.now.rests.items) (number_rest (given middle) c.in-Some-Number.rest) (stack middle) st
    c.number_taken.new.stacks.next (stack after) (given after) st (no_number_calls (given middle) c.in-Some-Number.rest (stack middle) (machine.Number c.args.v)) (no_number_closes (given middle) c.in-Some-Number.rest (stack middle)) (subst (λ r. Taken (Some r) c.args.stacks.now.rests.items middle) c.in-Some-Number.field-0-is c.in-Some-Number.ensures) h) (c.number_taken.ensures program)

pub returns-in-Some-Value : goal.returns-in-Some-Value
returns-in-Some-Value c program table =
    let middle = c.pop.new.self.rests.items in
    let after = c.value_taken.new.stacks.rests.items in
    on_ok_weaker c.value_taken.result (λ h. handed program (machine.Number c.args.v) (stack c.args.stacks.now.rests.items) (value_rest c.in-Some-Value.rest) (stack middle) c.args.state.now
    c.value_taken.new.stacks.next (stack after) (given after) c.value_taken.new.state (no_value_calls c.in-Some-Value.rest (stack middle) (machine.Number c.args.v)) (no_value_closes c.in-Some-Value.rest (stack middle)) (subst (λ r. Taken (Some r) c.args.stacks.now.rests.items middle) c.in-Some-Value.field-0-is c.in-Some-Value.ensures) h) (c.value_taken.ensures program)

pub returns-in-Some-Calls : goal.returns-in-Some-Calls
returns-in-Some-Calls c program table =
    let middle = c.pop.new.self.rests.items in
    let after = c.call_given.new.stacks.rests.items in
    let t = c.in-Some-Calls in
    on_ok_weaker c.call_given.result (λ h. landed program c.args.v (given_for t.fresh (given middle)) t.frame (stack c.args.stacks.now.rests.items) (stack middle) c.args.state.now
    c.call_given.new.stacks.next (stack after) (given after) c.call_given.new.state (subst (λ r. Taken (Some r) c.args.stacks.now.rests.items middle) c.in-Some-Calls.field-0-is t.ensures) h) (c.call_given.ensures program table)
