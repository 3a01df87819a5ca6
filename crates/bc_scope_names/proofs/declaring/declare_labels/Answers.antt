use Rattle.std.proofs.Common.{rules, arith}
use Rattle.std.proofs.lemmas.Grind.{common_steps}
use Rattle.bc_scope_names.proofs.Extends.{extends_on}
use Rattle.bc_scope_names.proofs.declaring.declare_labels.Goals as goal

pub loop-label-preserved : goal.loop-label-preserved
loop-label-preserved c =
    (first_of (search rules, grind (arith, common_steps)), first_of (search rules, grind (arith, common_steps)), extends_on _ _ _ c.loop-label.invariant.2 c.in_ok-declare_label.ensures.kept)
