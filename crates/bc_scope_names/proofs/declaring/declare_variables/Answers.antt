use Rattle.std.proofs.Common.{rules, arith}
use Rattle.std.proofs.lemmas.Grind.{common_steps}
use Rattle.bc_scope_names.proofs.Extends.{extends_on}
use Rattle.bc_scope_names.proofs.declaring.declare_variables.Goals as goal

pub loop-name-preserved : goal.loop-name-preserved
loop-name-preserved c = (first_of (search rules, grind (arith, common_steps)), extends_on _ _ _ c.loop-name.invariant.1 c.in_ok-declare.ensures.1)
