use Rattle.std.proofs.Common.{map, length}
use Rattle.bc_core.specs.View.{place_of}
use Rattle.bc_interpret_steps.specs.Sections.{placed_of}
use Rattle.bc_interpret.specs.Tables.{Adding}
use Rattle.bc_interpret.proofs.table.add_routines.Given as goal

abbrev pub invariant-loop-place : goal.invariant-loop-place
invariant-loop-place l = Adding (placed_of l.section) l.label (map place_of l.left) l.fn.table.items l.table.items

abbrev pub decreases-loop-place : goal.decreases-loop-place
decreases-loop-place l = length l.left
