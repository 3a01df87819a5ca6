use Rattle.std.proofs.Common.{◌≡◌, length}
use Rattle.bc_interpret_steps.specs.Sections.{entry_among}
use Rattle.bc_interpret_steps.proofs.sections.routine_at.Given as goal

abbrev pub invariant-loop-left : goal.invariant-loop-left
invariant-loop-left l = entry_among l.left l.address ≡ entry_among l.fn.table l.address

abbrev pub decreases-loop-left : goal.decreases-loop-left
decreases-loop-left l = length l.left
