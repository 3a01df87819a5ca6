-- The parts checked up to here have their levels.
use Rattle.std.proofs.Common.{◌≡◌, ◌+◌, ◌≤◌, drop}
use Rattle.bc_cert_read.specs.Marks.{levels_from, levels_fit}
use Rattle.bc_cert_read.proofs.mark.levels_fit.Given as goal

abbrev pub invariant-loop-part : goal.invariant-loop-part
invariant-loop-part l = record {
  same : levels_from l.next l.step (drop l.part-index l.parts) ≡ levels_fit l.fn.level l.fn.form l.parts;
  low : l.next ≤ 65537 + l.part-index;
  few : l.step ≤ 1;
}
