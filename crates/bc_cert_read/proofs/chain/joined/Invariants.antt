-- The remaining text continues from the names read up to here, and gets shorter.
use Rattle.std.proofs.Common.{◌≡◌, ◌+◌, ◌≤◌, length}
use Rattle.bc_cert_read.specs.Fields.{fields}
use Rattle.bc_cert_read.specs.Chains.{names_from, names}
use Rattle.bc_cert_read.proofs.chain.joined.Given as goal

abbrev pub invariant-loop-turn : goal.invariant-loop-turn
invariant-loop-turn l = record {
  same : names_from l.names (fields 46 l.rest) ≡ names l.text;
  shorter : length l.rest + l.turn ≤ length l.text;
}
