-- The lists of the checker's stack stay parallel while the trees of the nodes are pushed.
use Rattle.bc_cert_read.specs.Stacks.{AreParallel}
use Rattle.bc_cert_read.specs.TreeView.{stack}
use Rattle.bcpl_reports.proofs.derived.trees_of.Given as goal

abbrev pub invariant-loop-node : goal.invariant-loop-node
invariant-loop-node l = AreParallel (stack l.trees)
