use Rattle.std.proofs.Common.{Some, subst}
use Rattle.std.proofs.lemmas.Result.{on_ok_weaker}
use Rattle.bc_interpret_defs.specs.Machine as machine
use Rattle.bc_interpret_steps.specs.Code.{truth_rest, stack, given, Taken}
use Rattle.bc_interpret_steps.proofs.Handing.{handed, no_truth_closes}
use Rattle.bc_interpret_steps.proofs.answers.give_verdict.Goals as goal

pub returns-in-Some-Truth : goal.returns-in-Some-Truth
returns-in-Some-Truth c program table =
    let middle = c.pop.new.self.rests.items in
    let after = c.truth_taken.new.stacks.rests.items in
    on_ok_weaker c.truth_taken.result (λ h. handed program (machine.Verdict c.args.t) (stack c.args.stacks.now.rests.items) (truth_rest c.in-Some-Truth.rest) (stack middle) c.args.state.now
    c.truth_taken.new.stacks.next (stack after) (given after) c.truth_taken.new.state (λ v vs f k. let w = k.work in cc) (no_truth_closes c.in-Some-Truth.rest (stack middle)) (subst (λ r. Taken (Some r) c.args.stacks.now.rests.items middle) c.in-Some-Truth.field-0-is c.in-Some-Truth.ensures) h) (c.truth_taken.ensures program)
