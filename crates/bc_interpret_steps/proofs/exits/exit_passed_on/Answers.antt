use Rattle.std.proofs.Common.{Some, sym, subst}
use Rattle.bc_core.specs.View.{items, block_of}
use Rattle.bc_interpret_steps.specs.Code.{spot_of, exit_of}
use Rattle.bc_interpret_steps.specs.Passing.{IsLeft, IsHandedOn}
use Rattle.bc_interpret_steps.proofs.Passing.{left_list, cases_out, skipped}
use Rattle.bc_interpret_steps.proofs.exits.exit_passed_on.Goals as goal

pub returns-then-is_left : goal.returns-then-is_left
returns-then-is_left c =
    let t = c.in-Follows in
    let exit = c.args.exit in
    let left = subst (λ b. IsLeft (items t.items.now) (exit_of exit) b) c.if-is_left.true c.is_left.ensures in
    subst (λ r. IsHandedOn (exit_of exit) r (Some exit)) (sym t.is) (left (spot_of t.field-0) t.field-0.level)

pub returns-in-Past : goal.returns-in-Past
returns-in-Past c =
    let t = c.in-Listed in
    let exit = c.args.exit in
    subst (λ r. IsHandedOn (exit_of exit) r (Some exit)) (sym t.is) (λ rs. left_list (spot_of t.field-0) (items t.field-1.now) t.field-0.level rs exit c.in-Past.is)

pub returns-in-Cases : goal.returns-in-Cases
returns-in-Cases c =
    let exit = c.args.exit in
    let out = c.after_cases.result in
    subst (λ r. IsHandedOn (exit_of exit) r (Some out)) (sym c.in-Cases.is) (λ rs. cases_out (exit_of exit) (exit_of out) rs c.after_cases.ensures)

pub returns-in-Skips : goal.returns-in-Skips
returns-in-Skips c =
    let exit = c.args.exit in
    subst (λ r. IsHandedOn (exit_of exit) r (Some exit)) (sym c.in-Skips.is) (λ rs. skipped (exit_of exit) (block_of c.in-Skips.field-0.now) rs)
