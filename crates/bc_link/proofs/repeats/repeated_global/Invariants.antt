use Rattle.std.proofs.Common.{◌≡◌, drop}
use Rattle.std.specs.List.{flat_map}
use Rattle.bc_link.specs.Refusals.{repeated_after, globals_set, repeated_global_of}
use Rattle.bc_link.proofs.repeats.repeated_global.Given as goal

abbrev pub invariant-loop-segment : goal.invariant-loop-segment
invariant-loop-segment l = repeated_after l.seen.keys (flat_map globals_set (drop l.segment-index l.segments)) ≡ repeated_global_of l.segments
