use Rattle.std.proofs.Common.{◌≡◌, length}
use Rattle.bc_core.specs.Lists.{has_label}
use Rattle.bc_core.specs.View.{items}
use Rattle.bc_interpret_steps.proofs.lists.has_label.Given as goal

abbrev pub invariant-loop-left : goal.invariant-loop-left
invariant-loop-left l = has_label (items l.left) l.label ≡ has_label (items l.fn.items) l.label

abbrev pub decreases-loop-left : goal.decreases-loop-left
decreases-loop-left l = length l.left
