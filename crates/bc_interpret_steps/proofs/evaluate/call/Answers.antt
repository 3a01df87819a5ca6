use Rattle.std.proofs.Common.{rules, arith}
use Rattle.std.proofs.lemmas.Grind.{common_steps}
use Rattle.bc_core.specs.View.{exp}
use Rattle.bc_interpret_steps.specs.Code.{spot_of, stack, given}
use Rattle.bc_interpret_steps.proofs.Argues.{call_begun}
use Rattle.bc_interpret_steps.proofs.evaluate.call.Goals as goal

pub returns : goal.returns
returns c =
    let after = c.evaluate_arguments.new.stacks.rests.items in
    call_begun (spot_of c.args.site) c.args.arguments.now (exp c.args.routine.now) c.args.site.level c.in_ok-level.level _ (stack c.args.stacks.now.rests.items) c.args.state.now c.evaluate_arguments.new.stacks.next (stack after) (given after)
    c.in_ok-level.ensures (first_of (search rules, grind (arith, common_steps))) c.in_ok-evaluate_arguments.ensures
