use Rattle.std.proofs.Common.{sym, subst}
use Rattle.bc_core.specs.View.{exp}
use Rattle.bc_interpret_defs.specs.Quiet as quiet
use Rattle.bc_interpret_pure.specs.Views.{sight_of, work_of, rest_of, stack, Kept}
use Rattle.bc_interpret_pure.proofs.Kept.{kept, kept_after}
use Rattle.bc_interpret_pure.proofs.value.step.Goals as goal

pub returns-in_ok-evaluate-in-Evaluate : goal.returns-in_ok-evaluate-in-Evaluate
returns-in_ok-evaluate-in-Evaluate c =
    let S = sight_of c.args.sight.now in
    let rs = stack c.args.rests.now.items in
    let rs1 = stack c.evaluate.new.rests.items in
    let p = c.in_ok-evaluate-in-Evaluate.field-0 in
    subst (λ w. Kept p S (work_of w) rs rs1) (sym c.in-Evaluate.is) (kept S (quiet.Evaluate (exp c.in-Evaluate.e.now)) rs p rs1 tt c.in_ok-evaluate-in-Evaluate.ensures)

pub returns-in_ok-decide-in-Decide : goal.returns-in_ok-decide-in-Decide
returns-in_ok-decide-in-Decide c =
    let S = sight_of c.args.sight.now in
    let rs = stack c.args.rests.now.items in
    let rs1 = stack c.decide.new.rests.items in
    let p = c.in_ok-decide-in-Decide.field-0 in
    subst (λ w. Kept p S (work_of w) rs rs1) (sym c.in-Decide.is) (kept S (quiet.Decide (exp c.in-Decide.e.now)) rs p rs1 tt c.in_ok-decide-in-Decide.ensures)

pub returns-in_ok-number_taken-in-Some : goal.returns-in_ok-number_taken-in-Some
returns-in_ok-number_taken-in-Some c =
    let S = sight_of c.args.sight.now in
    let rs = stack c.args.rests.now.items in
    let rs1 = stack c.number_taken.new.rests.items in
    let p = c.in_ok-number_taken-in-Some.field-0 in
    subst (λ w. Kept p S (work_of w) rs rs1) (sym c.in-Number.is)
    (kept_after S (quiet.Give (quiet.Number c.in-Number.v)) rs (rest_of c.in-Some.rest) (stack c.take.new.rests.items) p rs1 c.in-Some.ensures tt c.in_ok-number_taken-in-Some.ensures)

pub returns-in-Some-take : goal.returns-in-Some-take
returns-in-Some-take c =
    let S = sight_of c.args.sight.now in
    let rs = stack c.args.rests.now.items in
    let rs1 = stack c.take-in-Verdict.new.rests.items in
    let p = c.verdict_taken.result in
    subst (λ w. Kept p S (work_of w) rs rs1) (sym c.in-Verdict.is)
    (kept_after S (quiet.Give (quiet.Verdict c.in-Verdict.t)) rs (rest_of c.in-Some-take.rest) rs1 p rs1 c.in-Some-take.ensures tt (c.verdict_taken.ensures rs1))
