use Rattle.std.proofs.Common.{◌≡◌, [], Option, None, subst}
use Rattle.std.proofs.lemmas.Result.{on_ok_weaker}
use Rattle.bc_core.specs.View.{exp}
use Rattle.bc_interpret_steps.specs.Code.{spot_of, stack, given}
use Rattle.bc_interpret_steps.specs.Came.{sight}
use Rattle.bc_interpret_pure.specs.declared.value.Truth.{Truth}
use Rattle.bc_interpret_pure.specs.declared.value.Truth.TheVariants as truths
use Rattle.bc_interpret_pure.specs.Views.{IsTruth}
use Rattle.bc_interpret_steps.proofs.Quiet.{told_truth, choice_on, choice_divides, choice_fails, choice_calls}
use Rattle.bc_interpret_steps.proofs.evaluate.choice.Goals as goal

pub returns-in-Some-Fails : goal.returns-in-Some-Fails
returns-in-Some-Fails c =
    let E = spot_of c.args.site in
    let st = c.args.state.now in
    let before = c.args.stacks.now.rests.items in
    let told = told_truth (sight st E) (exp c.args.condition.now) c.in_ok-t.field-0 (truths.Fails c.in-Some-Fails.cause) c.in_ok-t.ensures cc in
    choice_fails E (exp c.args.condition.now) (exp c.args.branches.0.now) (exp c.args.branches.1.now) c.args.site.level c.in-Some-Fails.cause (stack before) st (given before) told.0 told.1

pub returns-in-Some-Divides : goal.returns-in-Some-Divides
returns-in-Some-Divides c =
    let E = spot_of c.args.site in
    let st = c.args.state.now in
    let before = c.args.stacks.now.rests.items in
    let told = told_truth (sight st E) (exp c.args.condition.now) c.in_ok-t.field-0 truths.Divides c.in_ok-t.ensures cc in
    choice_divides E (exp c.args.condition.now) (exp c.args.branches.0.now) (exp c.args.branches.1.now) c.args.site.level (stack before) st (given before) told.0 told.1

pub returns-in-Some-Is : goal.returns-in-Some-Is
returns-in-Some-Is c =
    let E = spot_of c.args.site in
    let st = c.args.state.now in
    let before = c.args.stacks.now.rests.items in
    let told = told_truth (sight st E) (exp c.args.condition.now) c.in_ok-t.field-0 (truths.Is c.in-Some-Is.t) c.in_ok-t.ensures cc in
    choice_on E (exp c.args.condition.now) (exp c.args.branches.0.now) (exp c.args.branches.1.now) c.args.site.level (stack before) st c.in-Some-Is.t c.branch_next-stacks.result (given before) told.0 told.1
    (c.branch_next-stacks.ensures st [] (stack before) (given before))

pub returns-in-None : goal.returns-in-None
returns-in-None c =
    let E = spot_of c.args.site in
    let st = c.args.state.now in
    let f = c.selects in
    let after = f.new.stacks.rests.items in
    let P : Option Truth → Type 0 = λ o. IsTruth (sight st E) (exp c.args.condition.now) o in
    let is : c.in_ok-t.field-0 ≡ None = cc in
    let calls = subst P is c.in_ok-t.ensures in
    on_ok_weaker f.result (λ h. choice_calls E (exp c.args.condition.now) (exp c.args.branches.0.now) (exp c.args.branches.1.now) c.args.site.level (stack c.args.stacks.now.rests.items) st f.new.stacks.next (stack after) (given after) calls h) (f.ensures st)
