use Rattle.std.proofs.Common.{◌≡◌, Option, None, subst}
use Rattle.std.proofs.lemmas.Result.{on_ok_weaker}
use Rattle.bc_core.specs.View.{exp}
use Rattle.bc_interpret_pure.specs.declared.value.Truth.{Truth}
use Rattle.bc_interpret_pure.specs.Views.{IsTruth}
use Rattle.bc_interpret_steps.specs.Code.{spot_of, stack, given}
use Rattle.bc_interpret_steps.specs.Came.{sight}
use Rattle.bc_interpret_steps.proofs.Quiet.{truth_parts}
use Rattle.bc_interpret_steps.proofs.evaluate.decide.Goals as goal

pub returns-in-None : goal.returns-in-None
returns-in-None c =
    let E = spot_of c.args.site in
    let e = exp c.args.e.now in
    let st = c.args.state.now in
    let f = c.decide_parts in
    let after = f.new.stacks.rests.items in
    let P : Option Truth → Type 0 = λ o. IsTruth (sight st E) e o in
    let is : c.in_ok-truth.field-0 ≡ None = cc in
    let calls = subst P is c.in_ok-truth.ensures in
    on_ok_weaker f.result (λ h. truth_parts E e c.args.site.level (stack c.args.stacks.now.rests.items) st f.new.stacks.next (stack after) (given after) st calls h) (f.ensures st)
