use Rattle.std.proofs.Common.{◌≡◌, ◌+◌, ◌≤◌, drop}
use Rattle.bc_link.specs.Layout.{size_of_segments, stack_base_of}
use Rattle.bc_link.proofs.layout.stack_base.Given as goal

abbrev pub invariant-loop-segment : goal.invariant-loop-segment
invariant-loop-segment l = record {
  counted : l.next + size_of_segments (drop l.segment-index l.segments) ≡ stack_base_of l.segments;
  small : l.next ≤ 65472;
}
