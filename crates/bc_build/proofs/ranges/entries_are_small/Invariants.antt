use Rattle.std.proofs.Common.{take}
use Rattle.std.specs.Prelude.{All}
use Rattle.bc_build.specs.Ranges.{IsSmallEntry}
use Rattle.bc_build.proofs.ranges.entries_are_small.Given as goal

abbrev pub invariant-loop-entry : goal.invariant-loop-entry
invariant-loop-entry l = All IsSmallEntry (take l.entry-index l.entries)
