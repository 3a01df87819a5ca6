-- The remaining parts continue from the depth of those before them.
use Rattle.std.proofs.Common.{◌≡◌, ◌≤◌, drop}
use Rattle.bc_cert_read.specs.Marks.{depth_from}
use Rattle.bc_cert_read.proofs.mark.depth_over.Given as goal

abbrev pub invariant-loop-part : goal.invariant-loop-part
invariant-loop-part l = record {
  same : depth_from l.depth (drop l.part-index l.parts) ≡ depth_from 0 l.parts;
  low : l.depth ≤ 65535;
}
