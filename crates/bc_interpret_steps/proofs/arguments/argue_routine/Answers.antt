use Rattle.std.proofs.Common.{◌∷◌, ap, ◌∙◌}
use Rattle.bc_core.specs.View.{exp}
use Rattle.bc_interpret_defs.specs.Machine as machine
use Rattle.bc_interpret_steps.specs.Code.{spot_of, given_for, stack, given}
use Rattle.bc_interpret_steps.proofs.Argues.{last_valued}
use Rattle.bc_interpret_steps.proofs.arguments.argue_routine.Goals as goal

pub returns-in-Some : goal.returns-in-Some
returns-in-Some c =
    let a = c.args.arguments in
    let before = c.args.stacks.now.rests.items in
    let after = c.push.new.rests.items in
    last_valued c.args.state.now (spot_of a.site) (given_for a.fresh (given before)) a.level (exp a.routine.now) a.count a.site.level (stack before) (stack after) (given after) c.in_ok-worth.field-0 c.in-Some.worth c.outcome_of_worth-stacks.result c.in_ok-worth.ensures (cc)
    (c.in_ok-push.ensures.stack ∙ ap (λ f. machine.Calls (given_for a.fresh (given before)) f ∷ stack before) c.in_ok-frame.ensures) c.outcome_of_worth-stacks.ensures
