use Rattle.std.proofs.Common.{take}
use Rattle.std.specs.Prelude.{All}
use Rattle.bc_text.specs.Printed.{IsItem}
use Rattle.bc_build.proofs.ranges.segments_are_items.Given as goal

abbrev pub invariant-loop-segment : goal.invariant-loop-segment
invariant-loop-segment l = All (All IsItem) (take l.segment-index l.segments)
