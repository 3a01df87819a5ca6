-- The lines appended up to here, followed by those of the remaining nodes, are those of all nodes.
use Rattle.std.proofs.Common.{◌≡◌, ◌++◌, drop}
use Rattle.bc_cert_write.specs.Printed.{mark_lines}
use Rattle.bc_cert_write.proofs.lines.node_lines.Given as goal

abbrev pub invariant-loop-i : goal.invariant-loop-i
invariant-loop-i l = l.text.bytes.items ++ mark_lines (drop l.i l.marks) (drop l.i l.rows) ≡ l.fn.text.bytes.items ++ mark_lines l.marks l.rows
