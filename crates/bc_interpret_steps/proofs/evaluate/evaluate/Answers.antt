use Rattle.std.proofs.Common.{◌≡◌, Option, None, subst}
use Rattle.std.proofs.lemmas.Result.{on_ok_weaker}
use Rattle.bc_core.specs.View.{exp}
use Rattle.bc_interpret_pure.specs.declared.value.Worth.{Worth}
use Rattle.bc_interpret_pure.specs.Views.{IsWorth}
use Rattle.bc_interpret_steps.specs.Code.{spot_of, stack, given}
use Rattle.bc_interpret_steps.specs.Came.{sight}
use Rattle.bc_interpret_steps.proofs.Quiet.{value_parts}
use Rattle.bc_interpret_steps.proofs.evaluate.evaluate.Goals as goal

pub returns-in-None : goal.returns-in-None
returns-in-None c =
    let E = spot_of c.args.site in
    let e = exp c.args.e.now in
    let st = c.args.state.now in
    let f = c.evaluate_parts in
    let after = f.new.stacks.rests.items in
    let P : Option Worth → Type 0 = λ o. IsWorth (sight st E) e o in
    let is : c.in_ok-worth.field-0 ≡ None = cc in
    let calls = subst P is c.in_ok-worth.ensures in
    on_ok_weaker f.result (λ h. value_parts E e c.args.site.level (stack c.args.stacks.now.rests.items) st f.new.stacks.next (stack after) (given after) st calls h) f.ensures
