use Rattle.bc_right.proofs.rule_lemmas.Derivations.{derivations_are_right}
use Rattle.bc_right.proofs.rules.laws.derivations_are_right.Goals as goal

pub returns : goal.returns
returns c = derivations_are_right
