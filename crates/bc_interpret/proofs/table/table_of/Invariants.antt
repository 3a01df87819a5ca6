use Rattle.std.proofs.Common.{◌≡◌, ℕ, length}
use Rattle.std.specs.Prelude.{All}
use Rattle.bc_core.specs.Meaning.{callee, or_else}
use Rattle.bc_interpret_steps.specs.Sections.{program_of, IsSized}
use Rattle.bc_interpret.specs.Tables.{found_in}
use Rattle.bc_interpret.proofs.table.table_of.Given as goal

abbrev pub invariant-loop-left : goal.invariant-loop-left
invariant-loop-left l = record {
  finds : (a : ℕ) → callee (program_of l.sections) a ≡ or_else (found_in l.table.items a) (callee (program_of l.left) a);
  sized : All IsSized l.table.items;
}

abbrev pub decreases-loop-left : goal.decreases-loop-left
decreases-loop-left l = length l.left
