use Rattle.std.proofs.Common.{sym, ap, subst, ◌∙◌}
use Rattle.std.proofs.lemmas.Result.{on_ok_weaker}
use Rattle.bc_core.specs.Tree as tree
use Rattle.bc_core.specs.View.{exp, args}
use Rattle.bc_core.proofs.Rows.{call_view}
use Rattle.bc_interpret_defs.specs.Machine as machine
use Rattle.bc_interpret_steps.specs.Code.{spot_of}
use Rattle.bc_interpret_steps.specs.Came.{Goes, GoesOrMalformed}
use Rattle.bc_interpret_steps.proofs.Quiet.{loosened}
use Rattle.bc_interpret_steps.proofs.evaluate.evaluate_parts.Goals as goal

pub returns-in-Cond : goal.returns-in-Cond
returns-in-Cond c =
    let st = c.args.state.now in
    let q = c.deref-in-Cond.ensures in
    let q1 = c.deref-in-Cond-2.ensures in
    let q2 = c.deref-in-Cond-3.ensures in
    on_ok_weaker c.choice.result (λ h. loosened (machine.evaluate_parts (spot_of c.args.site) (exp c.args.e.now) c.args.site.level) c.args.stacks.now.rests.items st c.choice.new.stacks.next c.choice.new.stacks.rests.items st
    (subst (λ e. Goes (machine.evaluate_parts (spot_of c.args.site) e c.args.site.level) c.args.stacks.now.rests.items st c.choice.new.stacks.next c.choice.new.stacks.rests.items st)
    ((λ i. tree.Cond (exp (q i)) (exp (q1 i)) (exp (q2 i))) ∙ sym (ap exp c.in-Cond.is)) h)) c.choice.ensures

pub returns-in-Call : goal.returns-in-Call
returns-in-Call c =
    let st = c.args.state.now in
    let t = c.in-Call in
    let q = c.deref-in-Call.ensures.value in
    let q1 = c.deref-in-Call-2.ensures in
    on_ok_weaker c.call.result (λ h. loosened (machine.evaluate_parts (spot_of c.args.site) (exp c.args.e.now) c.args.site.level) c.args.stacks.now.rests.items st c.call.new.stacks.next c.call.new.stacks.rests.items st
    (subst (λ e. Goes (machine.evaluate_parts (spot_of c.args.site) e c.args.site.level) c.args.stacks.now.rests.items st c.call.new.stacks.next c.call.new.stacks.rests.items st)
    ((λ i. tree.Call (args (q i)) (exp (q1 i))) ∙ sym (ap exp t.is ∙ call_view t.arguments t.routine)) h)) c.call.ensures

pub returns-in-Valof : goal.returns-in-Valof
returns-in-Valof c =
    let st = c.args.state.now in
    on_ok_weaker c.valof.result (λ h. subst (λ e. GoesOrMalformed (machine.evaluate_parts (spot_of c.args.site) e c.args.site.level) c.args.stacks.now.rests.items st c.valof.new.stacks.next c.valof.new.stacks.rests.items st)
    (sym (ap exp c.in-Valof.is)) h) (c.valof.ensures st)

pub returns-in-Load : goal.returns-in-Load
returns-in-Load c =
    let st = c.args.state.now in
    let f = c.part_of in
    let q = c.deref.ensures in
    on_ok_weaker f.result (λ h. loosened (machine.evaluate_parts (spot_of c.args.site) (exp c.args.e.now) c.args.site.level) c.args.stacks.now.rests.items st f.new.stacks.next f.new.stacks.rests.items st
    (subst (λ e. Goes (machine.evaluate_parts (spot_of c.args.site) e c.args.site.level) c.args.stacks.now.rests.items st f.new.stacks.next f.new.stacks.rests.items st)
    ((λ i. tree.Load (exp (q i))) ∙ sym (ap exp c.in-Load.is)) h)) (f.ensures st)

pub returns-in-Neg : goal.returns-in-Neg
returns-in-Neg c =
    let st = c.args.state.now in
    let f = c.part_of-in-Neg in
    let q = c.deref-in-Neg.ensures in
    on_ok_weaker f.result (λ h. loosened (machine.evaluate_parts (spot_of c.args.site) (exp c.args.e.now) c.args.site.level) c.args.stacks.now.rests.items st f.new.stacks.next f.new.stacks.rests.items st
    (subst (λ e. Goes (machine.evaluate_parts (spot_of c.args.site) e c.args.site.level) c.args.stacks.now.rests.items st f.new.stacks.next f.new.stacks.rests.items st)
    ((λ i. tree.Neg (exp (q i))) ∙ sym (ap exp c.in-Neg.is)) h)) (f.ensures st)

pub returns-in-Not : goal.returns-in-Not
returns-in-Not c =
    let st = c.args.state.now in
    let f = c.part_of-in-Not in
    let q = c.deref-in-Not.ensures in
    on_ok_weaker f.result (λ h. loosened (machine.evaluate_parts (spot_of c.args.site) (exp c.args.e.now) c.args.site.level) c.args.stacks.now.rests.items st f.new.stacks.next f.new.stacks.rests.items st
    (subst (λ e. Goes (machine.evaluate_parts (spot_of c.args.site) e c.args.site.level) c.args.stacks.now.rests.items st f.new.stacks.next f.new.stacks.rests.items st)
    ((λ i. tree.Not (exp (q i))) ∙ sym (ap exp c.in-Not.is)) h)) (f.ensures st)

pub returns-in-Bin : goal.returns-in-Bin
returns-in-Bin c =
    let st = c.args.state.now in
    let f = c.operator in
    let q = c.deref-in-Bin.ensures in
    let q1 = c.deref-in-Bin-2.ensures in
    on_ok_weaker f.result (λ h. loosened (machine.evaluate_parts (spot_of c.args.site) (exp c.args.e.now) c.args.site.level) c.args.stacks.now.rests.items st f.new.stacks.next f.new.stacks.rests.items st
    (subst (λ e. Goes (machine.evaluate_parts (spot_of c.args.site) e c.args.site.level) c.args.stacks.now.rests.items st f.new.stacks.next f.new.stacks.rests.items st)
    ((λ i. tree.Bin c.in-Bin.op (exp (q i)) (exp (q1 i))) ∙ sym (ap exp c.in-Bin.is)) h)) (f.ensures st)
