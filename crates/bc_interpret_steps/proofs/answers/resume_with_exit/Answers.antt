use Rattle.std.proofs.Common.{Some, subst}
use Rattle.std.proofs.lemmas.Result.{on_ok_weaker}
use Rattle.bc_interpret_defs.specs.Machine as machine
use Rattle.bc_interpret_steps.specs.Code.{exit_of, exit_rest, stack, given, Taken}
use Rattle.bc_interpret_steps.proofs.Handing.{handed_loosely, no_exit_closes}
use Rattle.bc_interpret_steps.proofs.answers.resume_with_exit.Goals as goal

pub returns-in-Some-Exit : goal.returns-in-Some-Exit
returns-in-Some-Exit c program table =
    let middle = c.pop.new.self.rests.items in
    let after = c.exit_taken.new.stacks.rests.items in
    on_ok_weaker c.exit_taken.result (λ h. handed_loosely program (machine.Left (exit_of c.args.exit)) (stack c.args.stacks.now.rests.items) (exit_rest c.in-Some-Exit.rest) (stack middle) c.args.state.now
    c.exit_taken.new.stacks.next (stack after) (given after) c.exit_taken.new.state (λ v vs f k. let w = k.work in cc) (no_exit_closes c.in-Some-Exit.rest (stack middle)) (subst (λ r. Taken (Some r) c.args.stacks.now.rests.items middle) c.in-Some-Exit.field-0-is c.in-Some-Exit.ensures) h) (c.exit_taken.ensures program)
