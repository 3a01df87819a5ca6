use Rattle.std.proofs.Common.{ℕ, ap, refl, slice_index_or, arith}
use Rattle.bc_interpret_steps.specs.Code.{stack}
use Rattle.bc_interpret_steps.specs.Came.{state_of}
use Rattle.bc_interpret_steps.proofs.Valofs.{none_before, none_after, valof_entered}
use Rattle.bc_interpret_steps.proofs.evaluate.valof.Goals as goal

pub returns-then-number-site : goal.returns-then-number-site
returns-then-number-site c st =
    let E = c.args.site in
    let address : ℕ → ℕ = λ l. slice_index_or E.section.now.addresses.now l 0 in
    (λ any. ap (λ r. r any) (none_before address E.frame E.first E.section.now.valofs.now c.args.number c.args.site.level (stack c.args.stacks.now.rests.items) c.if-number-site.true), refl)

pub returns-then-index-site : goal.returns-then-index-site
returns-then-index-site c st =
    let E = c.args.site in
    let address : ℕ → ℕ = λ l. slice_index_or E.section.now.addresses.now l 0 in
    (λ any. ap (λ r. r any) (none_after address E.frame E.first E.section.now.valofs.now c.args.number c.args.site.level (stack c.args.stacks.now.rests.items) c.if-number-site.false c.if-index-site.true), refl)

pub returns : goal.returns
returns c st =
    let E = c.args.site in
    let address : ℕ → ℕ = λ l. slice_index_or E.section.now.addresses.now l 0 in
    λ streams. valof_entered address E.frame E.first E.section.now.valofs.now c.args.number c.args.site.level c.in_ok-level_above.field-0 c.index-site-index.result (stack c.args.stacks.now.rests.items) (stack c.push.new.rests.items) (state_of st streams)
    (omega arith) (omega arith) c.in_ok-level_above.ensures c.in_ok-push.ensures.stack
