-- The remaining rules continue from the least of those before them.
use Rattle.std.proofs.Common.{◌≡◌, ◌+◌, ◌<◌, ◌^◌, None, drop}
use Rattle.std.specs.Prelude.{IfSome}
use Rattle.bc_cert_read.specs.Node.{node, least}
use Rattle.bc_cert_read.proofs.node.Node.least.Given as goal

abbrev pub invariant-loop-rule : goal.invariant-loop-rule
invariant-loop-rule l = record {
  same : least (node l.self) l.aim l.words (drop l.rule-index l.rules) ≡ least (node l.self) l.aim None l.rules;
  few : IfSome l.words (λ n. n < 2 ^ 127 + 2 ^ 70);
}
