-- The fields appended up to here, followed by those of the remaining pieces, are those of all pieces.
use Rattle.std.proofs.Common.{◌≡◌, ◌≤◌, ◌++◌, drop, length}
use Rattle.bc_cert_write.specs.Lines.{line_end, code_fields, code_line}
use Rattle.bc_cert_write.proofs.lines.code_line.Given as goal

abbrev pub invariant-loop-piece : goal.invariant-loop-piece
invariant-loop-piece l = record {
  so_far : l.text.bytes.items ++ line_end (code_fields (drop l.piece-index l.code) (drop l.body l.bodies)) ≡ l.fn.text.bytes.items ++ code_line l.code l.bodies;
  within : l.body ≤ length l.bodies;
}
