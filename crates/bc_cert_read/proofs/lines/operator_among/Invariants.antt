-- The operator isn't among those checked up to here.
use Rattle.std.proofs.Common.{◌≡◌, drop}
use Rattle.bc_cert_read.specs.Lines.{op_among}
use Rattle.bc_cert_read.proofs.lines.operator_among.Given as goal

abbrev pub invariant-loop-op : goal.invariant-loop-op
invariant-loop-op l = op_among l.number (drop l.op-index l.operators) ≡ op_among l.number l.operators
