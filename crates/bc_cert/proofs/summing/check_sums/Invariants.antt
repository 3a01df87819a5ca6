-- The state is that of the bytes read up to here, after entries that were dropped.
use Rattle.std.proofs.Common.{◌≡◌, ◌≤◌, ◌+◌, []}
use Rattle.bc_cert_read.specs.Stacks.{AreParallel}
use Rattle.bc_cert.specs.View.{own}
use Rattle.bc_cert.proofs.Summed.{Found}
use Rattle.bc_cert.proofs.Short.{Leaves}
use Rattle.bc_cert.proofs.summing.check_sums.Given as goal

abbrev pub invariant-loop : goal.invariant-loop
invariant-loop g l = record {
  so_far : Found (g.R.Read.remaining l.fn.input) (g.R.Read.remaining l.input) (own l.checker, l.checker.line.items) l.checker.passed l.words;
  parallel : AreParallel (own l.checker).trees;
  few : l.checker.lines + l.left ≤ 1073741824;
  nodes : l.checker.nodes ≤ l.checker.lines;
  passed : l.checker.passed + l.left ≤ 1073741824;
  none : (own l.checker).entries ≡ [];
  short : Leaves (g.R.Read.remaining l.fn.input) (g.R.Read.remaining l.input) l.left;
}
