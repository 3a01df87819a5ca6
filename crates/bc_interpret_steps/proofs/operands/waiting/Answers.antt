use Rattle.std.proofs.Common.{Some, sym, ap, ◌∙◌, option_copied}
use Rattle.bc_interpret_steps.specs.declared.continuations.Rest.TheVariants as rests
use Rattle.bc_interpret_steps.proofs.operands.waiting.Goals as goal

pub returns-in-Some-Number-Operates : goal.returns-in-Some-Number-Operates
returns-in-Some-Number-Operates c =
    let t = c.in-Some-Number-Operates in
    sym c.last.ensures.value ∙ (ap option_copied t.is ∙ (ap Some t.field-0-is ∙ ap (λ r. Some (rests.Number r)) t.field-0-0-is))
