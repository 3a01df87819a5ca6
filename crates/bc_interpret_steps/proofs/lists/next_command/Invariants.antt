use Rattle.std.proofs.Common.{◌≡◌, length}
use Rattle.bc_core.specs.View.{items}
use Rattle.bc_interpret_defs.specs.Machine.{next_command}
use Rattle.bc_interpret_steps.specs.Code.{entry_of}
use Rattle.bc_interpret_steps.proofs.lists.next_command.Given as goal

abbrev pub invariant-loop-left : goal.invariant-loop-left
invariant-loop-left l = next_command (items l.left) (entry_of l.at) ≡ next_command (items l.fn.items) (entry_of l.fn.entry)

abbrev pub decreases-loop-left : goal.decreases-loop-left
decreases-loop-left l = length l.left
