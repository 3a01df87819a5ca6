use Rattle.std.proofs.Common.{min, sym, ap, ◌∙◌}
use Rattle.bc_core.specs.View.{exp}
use Rattle.bc_rules_defs.specs.ByShape.{labels_of_parts}
use Rattle.bc_rules_defs.specs.View.{derivations}
use Rattle.bc_rules_defs.specs.declared.derivation.Derivation.{out-Derivation}
use Rattle.bc_rules.specs.View.{parts}
use Rattle.bc_rules.proofs.Counts.{sides_labels}
use Rattle.bc_rules.proofs.counting.sides.Goals as goal

pub returns : goal.returns
returns c =
    c.labels_of.ensures
    ∙ ap (λ ds. min (labels_of_parts (out-Derivation c.args.d.now).rule (parts c.assignment_parts.result) (derivations ds)) 65537) c.deref.ensures.value
    ∙ ap (λ p. min (labels_of_parts (out-Derivation c.args.d.now).rule p (derivations (out-Derivation c.args.d.now).parts.items)) 65537) c.assignment_parts.ensures
    ∙ ap (λ n. min n 65537) (sym (sides_labels c.args.d.now (exp c.args.value.now) (exp c.args.address.now) 0))
