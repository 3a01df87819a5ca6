use Rattle.std.proofs.Common.{refl, rules, arith}
use Rattle.std.proofs.lemmas.Grind.{common_steps}
use Rattle.bc_scope_names.proofs.Extends.{extends_on, extends_self}
use Rattle.bc_scope_translate.proofs.blocks.entries.Goals as goal

pub loop-entry-init : goal.loop-entry-init
loop-entry-init c = (refl, refl, extends_self c.args.scope.now)

pub loop-entry-preserved : goal.loop-entry-preserved
loop-entry-preserved c = (
  first_of (search rules, grind (arith, common_steps)),
  first_of (search rules, grind (arith, common_steps)),
  extends_on c.args.scope.now c.loop-entry.scope c.declare_entry.new.scope c.loop-entry.invariant.2 c.in_ok-declare_entry.ensures.1,
)
