-- The remaining text continues from the pieces read up to here, and gets shorter.
use Rattle.std.proofs.Common.{◌≡◌, ◌+◌, ◌≤◌, length, []}
use Rattle.bc_cert_read.specs.Fields.{fields}
use Rattle.bc_cert_read.specs.Lines.{pieces_after}
use Rattle.bc_cert_read.proofs.codes.pieces.Given as goal

abbrev pub invariant-loop-turn : goal.invariant-loop-turn
invariant-loop-turn l = record {
  same : pieces_after l.pieces.items (fields 32 l.rest) ≡ pieces_after [] (fields 32 l.text);
  shorter : length l.rest + l.turn ≤ length l.text;
}
