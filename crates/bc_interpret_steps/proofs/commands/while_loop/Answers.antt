use Rattle.std.proofs.Common.{◌≡◌, [], Option, None, refl, subst}
use Rattle.std.proofs.lemmas.Result.{on_ok_weaker}
use Rattle.bc_core.specs.Commands as commands
use Rattle.bc_core.specs.View.{exp, block_of}
use Rattle.bc_interpret_defs.specs.Machine.{perform_step}
use Rattle.bc_interpret_pure.specs.declared.value.Truth.{Truth}
use Rattle.bc_interpret_pure.specs.Views.{IsTruth}
use Rattle.bc_interpret_steps.specs.declared.forms.Ending.TheVariants as endings
use Rattle.bc_interpret_steps.specs.declared.forms.Progress.TheVariants as progress
use Rattle.bc_interpret_steps.specs.declared.continuations.Rest.TheVariants as rests
use Rattle.bc_interpret_steps.specs.declared.continuations.TruthRest.TheVariants as truth_rests
use Rattle.bc_interpret_steps.specs.Came.{sight}
use Rattle.bc_interpret_steps.specs.Code.{spot_of, stacked, stack, given}
use Rattle.bc_interpret_steps.proofs.After.{following}
use Rattle.bc_interpret_steps.proofs.Tests.{while_told, while_divides, while_fails, while_calls}
use Rattle.bc_interpret_steps.proofs.commands.while_loop.Goals as goal

pub returns-in-Some-Is : goal.returns-in-Some-Is
returns-in-Some-Is c =
    let before = c.args.stacks.now.rests.items in
    let after = c.enter_while.new.stacks.rests.items in
    on_ok_weaker c.enter_while.result (λ h. while_told _ (spot_of c.args.site) c.args.condition.now.sense (exp c.args.condition.now.test) (block_of c.args.body.now) c.args.site.level (stack before) c.args.state.now c.in_ok-t.field-0 c.in-Some-Is.t c.agrees-holds.result c.enter_while.new.stacks.next (stack after) (given after) c.enter_while.new.state
    c.in_ok-t.ensures (cc) c.agrees-holds.ensures h) c.enter_while.ensures

pub returns-in-Some-Divides : goal.returns-in-Some-Divides
returns-in-Some-Divides c =
    let E = spot_of c.args.site in
    let e = exp c.args.condition.now.test in
    let b = block_of c.args.body.now in
    let before = c.args.stacks.now.rests.items in
    let st = c.args.state.now in
    let f = c.put_after in
    on_ok_weaker f.result (following _ (perform_step E (commands.While c.args.condition.now.sense e b) c.args.site.level) (rests.Truth (truth_rests.Whiles c.args.site c.args.condition c.args.body)) (progress.Ended endings.ZeroDivide) before f.new.stacks.next f.new.stacks.rests.items st st
    (while_divides E c.args.condition.now.sense e b c.args.site.level (stack before) st c.in_ok-t.field-0 [] [] c.in_ok-t.ensures cc)) f.ensures

pub returns-in-Some-Fails : goal.returns-in-Some-Fails
returns-in-Some-Fails c =
    let E = spot_of c.args.site in
    let e = exp c.args.condition.now.test in
    let b = block_of c.args.body.now in
    let before = c.args.stacks.now.rests.items in
    let st = c.args.state.now in
    let f = c.put_after-in-Some-Fails in
    on_ok_weaker f.result (following _ (perform_step E (commands.While c.args.condition.now.sense e b) c.args.site.level) (rests.Truth (truth_rests.Whiles c.args.site c.args.condition c.args.body)) (progress.Wild c.in-Some-Fails.cause) before f.new.stacks.next f.new.stacks.rests.items st st
    (while_fails E c.args.condition.now.sense e b c.args.site.level (stack before) st c.in_ok-t.field-0 c.in-Some-Fails.cause (stacked (stack before) (given before) (rests.Truth (truth_rests.Whiles c.args.site c.args.condition c.args.body))) [] c.in_ok-t.ensures (cc) refl)) f.ensures

pub returns-in-None : goal.returns-in-None
returns-in-None c =
    let E = spot_of c.args.site in
    let e = exp c.args.condition.now.test in
    let b = block_of c.args.body.now in
    let before = c.args.stacks.now.rests.items in
    let st = c.args.state.now in
    let f = c.decide_part in
    let after = f.new.stacks.rests.items in
    let P : Option Truth → Type 0 = λ o. IsTruth (sight st E) e o in
    let is : c.in_ok-t.field-0 ≡ None = cc in
    let calls = subst P is c.in_ok-t.ensures in
    on_ok_weaker f.result (λ h. while_calls _ E c.args.condition.now.sense e b c.args.site.level (stack before) st f.new.stacks.next (stack after) (given after) calls h) (f.ensures st)
