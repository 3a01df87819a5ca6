use Rattle.std.proofs.Common.{Some, subst}
use Rattle.std.proofs.lemmas.Result.{on_ok_weaker}
use Rattle.bc_interpret_defs.specs.Machine as machine
use Rattle.bc_interpret_steps.specs.Code.{nothing_rest, stack, given, Taken}
use Rattle.bc_interpret_steps.proofs.Handing.{handed, no_nothing_closes}
use Rattle.bc_interpret_steps.proofs.answers.give_nothing.Goals as goal

pub returns-in-Some-Nothing : goal.returns-in-Some-Nothing
returns-in-Some-Nothing c program table =
    let middle = c.pop.new.self.rests.items in
    let after = c.nothing_taken.new.stacks.rests.items in
    let st = c.args.state.now in
    on_ok_weaker c.nothing_taken.result (λ h. handed program machine.Nothing (stack c.args.stacks.now.rests.items) (nothing_rest c.in-Some-Nothing.rest) (stack middle) st
    c.nothing_taken.new.stacks.next (stack after) (given after) st (λ v vs f k. let w = k.work in cc) (no_nothing_closes c.in-Some-Nothing.rest (stack middle)) (subst (λ r. Taken (Some r) c.args.stacks.now.rests.items middle) c.in-Some-Nothing.field-0-is c.in-Some-Nothing.ensures) h) (c.nothing_taken.ensures st program)
