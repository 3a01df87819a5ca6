use Rattle.bc_right.proofs.rule_lemmas.Single.{each_derivation_is_right}
use Rattle.bc_right.proofs.rules.laws.each_derivation_is_right.Goals as goal

pub returns : goal.returns
returns c = each_derivation_is_right
