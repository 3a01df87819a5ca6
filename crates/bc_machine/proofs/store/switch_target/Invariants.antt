use Rattle.std.proofs.Common.{◌≡◌, slice_index}
use Rattle.bc_machine_defs.specs.Operand.{next}
use Rattle.bc_machine_defs.specs.Switch.{case_of, switch_of}
use Rattle.bc_machine.proofs.store.switch_target.Given as goal

abbrev pub invariant-loop-left : goal.invariant-loop-left
invariant-loop-left l = case_of l.left l.at l.a (slice_index l.store (next l.c)) l.store ≡ switch_of l.c l.a l.store

abbrev pub decreases-loop-left : goal.decreases-loop-left
decreases-loop-left l = l.left
