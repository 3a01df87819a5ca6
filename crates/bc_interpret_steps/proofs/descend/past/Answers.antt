use Rattle.std.proofs.Common.{◌≡◌, subst}
use Rattle.std.proofs.lemmas.Result.{on_ok_weaker}
use Rattle.bc_core.specs.View.{exp}
use Rattle.bc_interpret_pure.specs.declared.value.Truth.{Truth}
use Rattle.bc_interpret_steps.specs.Code.{spot_of, stack, given}
use Rattle.bc_interpret_steps.specs.Came.{sight}
use Rattle.bc_interpret_defs.specs.Quiet.{worth}
use Rattle.bc_interpret_pure.specs.Views.{seen_truth}
use Rattle.bc_interpret_steps.proofs.Deciding.{taken_into, divides_into, fails_into}
use Rattle.bc_interpret_steps.proofs.descend.past.Goals as goal

pub returns-in-Is : goal.returns-in-Is
returns-in-Is c plain is program table =
    let E = spot_of c.args.site in
    let st = c.args.state.now in
    let P : Truth → Type 0 = λ z. seen_truth z ≡ (worth (sight st E) (exp c.args.condition.now)).truth in
    on_ok_weaker c.enter_branch.result (λ h. taken_into program st E (exp c.args.condition.now) (exp c.args.branches.0.now) (exp c.args.branches.1.now) (exp c.taken.result.now) c.args.site.level c.in-Is.t c.enter_branch.new.stacks.next
    c.args.stacks.now.rests.items c.enter_branch.new.stacks.rests.items c.enter_branch.new.state plain (subst P c.in-Is.is is) c.taken.ensures h) (c.enter_branch.ensures program table)

pub returns-in-Divides : goal.returns-in-Divides
returns-in-Divides c plain is program table =
    let E = spot_of c.args.site in
    let st = c.args.state.now in
    let before = c.args.stacks.now.rests.items in
    let P : Truth → Type 0 = λ z. seen_truth z ≡ (worth (sight st E) (exp c.args.condition.now)).truth in
    divides_into program st E (exp c.args.condition.now) (exp c.args.branches.0.now) (exp c.args.branches.1.now) c.args.site.level (stack before) (given before) plain (subst P c.in-Divides.is is)

pub returns-in-Fails : goal.returns-in-Fails
returns-in-Fails c plain is program table =
    let E = spot_of c.args.site in
    let st = c.args.state.now in
    let before = c.args.stacks.now.rests.items in
    let P : Truth → Type 0 = λ z. seen_truth z ≡ (worth (sight st E) (exp c.args.condition.now)).truth in
    fails_into program st E (exp c.args.condition.now) (exp c.args.branches.0.now) (exp c.args.branches.1.now) c.args.site.level c.in-Fails.cause (stack before) (given before) plain (subst P c.in-Fails.is is)
