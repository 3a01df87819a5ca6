use Rattle.std.proofs.Common.{Option, subst}
use Rattle.std.proofs.lemmas.Result.{on_ok_weaker}
use Rattle.bc_core.specs.View.{exp}
use Rattle.bc_interpret_pure.specs.declared.value.Truth.{Truth}
use Rattle.bc_interpret_steps.specs.Code.{spot_of, stack, given}
use Rattle.bc_interpret_steps.specs.Came.{sight}
use Rattle.bc_interpret_pure.specs.Views.{IsTruth}
use Rattle.bc_interpret_steps.proofs.Deciding.{selects_into}
use Rattle.bc_interpret_steps.proofs.Quiet.{told_truth}
use Rattle.bc_interpret_steps.proofs.descend.conditional.Goals as goal

pub returns-in-Some : goal.returns-in-Some
returns-in-Some c program table =
    let told = told_truth (sight c.args.state.now (spot_of c.args.site)) (exp c.args.condition.now) c.in_ok-found.found c.in-Some.truth c.in_ok-found.ensures c.in-Some.is in
    c.past.ensures told.0 told.1 program table

pub returns-in-None : goal.returns-in-None
returns-in-None c program table =
    let E = spot_of c.args.site in
    let st = c.args.state.now in
    let before = c.args.stacks.now.rests.items in
    let after = c.selects.new.stacks.rests.items in
    let P : Option Truth → Type 0 = λ o. IsTruth (sight st E) (exp c.args.condition.now) o in
    let calls = subst P c.in-None.is c.in_ok-found.ensures in
    on_ok_weaker c.selects.result (λ h. selects_into program st E (exp c.args.condition.now) (exp c.args.branches.0.now) (exp c.args.branches.1.now) c.args.site.level (stack before) c.selects.new.stacks.next (stack after) (given after) calls h) (c.selects.ensures st)
