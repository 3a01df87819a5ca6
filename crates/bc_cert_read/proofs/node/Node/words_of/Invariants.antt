-- The remaining parts add what is still missing, and a part adds less than 2^65.
use Rattle.std.proofs.Common.{◌≡◌, ◌+◌, ◌*◌, ◌≤◌, ◌^◌, drop}
use Rattle.std.specs.Prelude.{IfSome}
use Rattle.bc_cert_read.specs.Node.{words_from, words_of}
use Rattle.bc_cert_read.proofs.node.Node.words_of.Given as goal

abbrev pub invariant-loop-at : goal.invariant-loop-at
invariant-loop-at l = record {
  same : words_from l.recipe.takes l.self.level l.words l.at (drop l.at l.self.parts.now) ≡ words_of l.self.level l.self.parts.now l.recipe;
  few : IfSome l.words (λ n. n ≤ 2 ^ 64 + l.at * (2 ^ 64 + 1));
}
