use Rattle.std.proofs.Common.{inl, inr, Option, refl, subst}
use Rattle.std.proofs.lemmas.Result.{on_ok_weaker}
use Rattle.bc_core.specs.View.{exp}
use Rattle.bc_interpret_pure.specs.declared.value.Worth.{Worth}
use Rattle.bc_interpret_pure.specs.Views.{IsWorth}
use Rattle.bc_interpret_steps.specs.Code.{spot_of, stack, given}
use Rattle.bc_interpret_steps.specs.Came.{sight}
use Rattle.bc_interpret_steps.proofs.Deciding.{came_into}
use Rattle.bc_interpret_steps.proofs.Quiet.{told_worth, value_parts}
use Rattle.bc_interpret_steps.proofs.descend.enter_any.Goals as goal

pub returns-in-Some : goal.returns-in-Some
returns-in-Some c program table =
    let told = told_worth (sight c.args.state.now (spot_of c.args.site)) (exp c.args.e.now) c.in_ok-found.found c.in-Some.worth c.in_ok-found.ensures c.in-Some.is in
    inl (c.in-Some.worth, told.0, told.1, c.outcome_of_worth-stacks.ensures, refl, refl)

pub returns-in-None : goal.returns-in-None
returns-in-None c program table =
    let E = spot_of c.args.site in
    let st = c.args.state.now in
    let e = exp c.args.e.now in
    let before = stack c.args.stacks.now.rests.items in
    let after = c.evaluate_parts.new.stacks.rests.items in
    let P : Option Worth → Type 0 = λ o. IsWorth (sight st E) e o in
    let calls = subst P c.in-None.is c.in_ok-found.ensures in
    on_ok_weaker c.evaluate_parts.result (λ h. inr (
      calls,
      came_into program st E e c.args.site.level before c.evaluate_parts.new.stacks.next (stack after) (given after)
          (value_parts E e c.args.site.level before st c.evaluate_parts.new.stacks.next (stack after) (given after) st calls h),
    )) c.evaluate_parts.ensures
