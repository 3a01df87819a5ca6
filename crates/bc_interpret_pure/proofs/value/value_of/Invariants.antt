use Rattle.std.proofs.Common.{◌≡◌}
use Rattle.bc_core.specs.View.{exp}
use Rattle.bc_interpret_defs.specs.Quiet.{worth, as_number, quiet_meant, quiet_weight}
use Rattle.bc_interpret_pure.specs.Views.{sight_of, work_of, stack}
use Rattle.bc_interpret_pure.proofs.value.value_of.Given as goal

abbrev pub invariant-loop-next : goal.invariant-loop-next
invariant-loop-next l = quiet_meant (sight_of l.sight) (work_of l.now) (stack l.rests.items) ≡ as_number (worth (sight_of l.sight) (exp l.e)).value

abbrev pub decreases-loop-next : goal.decreases-loop-next
decreases-loop-next l = quiet_weight (work_of l.now) (stack l.rests.items)
