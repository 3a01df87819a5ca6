-- The state is that of the bytes read up to here.
use Rattle.std.proofs.Common.{◌≡◌, ◌≤◌, ◌+◌, ℕ, List, [], Ok}
use Rattle.std.specs.Io.KnownBytes.{Consumes}
use Rattle.bc_cert_read.specs.Stacks.{AreParallel}
use Rattle.bc_cert_laws.specs.Judging.{feed_from, start}
use Rattle.bc_cert.specs.View.{state, fed}
use Rattle.bc_cert.proofs.Short.{Leaves}
use Rattle.bc_cert.proofs.checking.check.Given as goal

abbrev pub invariant-loop : goal.invariant-loop
invariant-loop g l = record {
  so_far : (bytes : List ℕ) × (feed_from bytes (start, []) ≡ Ok (fed l.checker)) × Consumes (g.R.Read.remaining l.fn.input) (g.R.Read.remaining l.input) bytes;
  parallel : AreParallel (state l.checker).trees;
  few : l.checker.lines + l.left ≤ 1073741824;
  nodes : l.checker.nodes ≤ l.checker.lines;
  passed : l.checker.passed ≡ 0;
  short : Leaves (g.R.Read.remaining l.fn.input) (g.R.Read.remaining l.input) l.left;
}
