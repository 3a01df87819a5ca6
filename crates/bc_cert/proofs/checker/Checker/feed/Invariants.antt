-- The remaining bytes continue from the current state, and get shorter.
use Rattle.std.proofs.Common.{◌≡◌, ◌≤◌, ◌+◌, length}
use Rattle.bc_cert_read.specs.Stacks.{AreParallel}
use Rattle.bc_cert_laws.specs.Judging.{feed_from}
use Rattle.bc_cert.specs.View.{state, fed}
use Rattle.bc_cert.proofs.checker.Checker.feed.Given as goal

abbrev pub invariant-loop-turn : goal.invariant-loop-turn
invariant-loop-turn l = record {
  same : feed_from l.rest (fed l.self) ≡ feed_from l.bytes (fed l.fn.self);
  shorter : length l.rest + l.turn ≤ length l.bytes;
  parallel : AreParallel (state l.self).trees;
  few : l.self.lines + length l.rest ≤ l.fn.self.lines + length l.bytes;
  nodes : l.self.nodes ≤ l.self.lines;
  passed : l.self.passed ≡ l.fn.self.passed;
}
