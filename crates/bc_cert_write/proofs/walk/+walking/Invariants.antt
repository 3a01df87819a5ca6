-- The nodes appended up to here, followed by those of the remaining arguments, are those of all arguments.
use Rattle.std.proofs.Common.{◌≡◌, ◌≤◌, ◌+◌, ◌*◌, ◌^◌, ◌++◌, drop}
use Rattle.bc_core.specs.View.{exp, args}
use Rattle.bc_core.specs.WellFormed.{nodes, nodes_of_args}
use Rattle.bc_rules_defs.specs.View.{derivations}
use Rattle.bc_cert_write.specs.Walked.{mark, all_with}
use Rattle.bc_cert_write.proofs.walk.+walking.Given as goal

abbrev pub invariant-all-loop-i : goal.invariant-all-loop-i
invariant-all-loop-i l = record {
  so_far : l.marks.items ++ all_with mark (args (drop l.i l.arguments)) (l.level + l.i) (derivations (drop l.i l.trees)) ≡ l.fn.marks.items ++ all_with mark (args l.arguments) l.level (derivations l.trees);
  room : l.level + l.i + 2 * nodes_of_args (args (drop l.i l.arguments)) ≤ 2 ^ 62;
  fewer : nodes_of_args (args (drop l.i l.arguments)) ≤ nodes_of_args (args l.arguments);
}

abbrev pub decreases-lay : goal.decreases-lay
decreases-lay l = 4 * nodes (exp l.e.now) + 3

abbrev pub decreases-below : goal.decreases-below
decreases-below l = 4 * nodes (exp l.e.now) + 2

abbrev pub decreases-pair : goal.decreases-pair
decreases-pair l = 4 * nodes (exp l.a.now) + 4 * nodes (exp l.b.now) + 4

abbrev pub decreases-triple : goal.decreases-triple
decreases-triple l = 4 * nodes (exp l.condition.now) + 4 * nodes (exp l.values.0.now) + 4 * nodes (exp l.values.1.now) + 4

abbrev pub decreases-all : goal.decreases-all
decreases-all l = 4 * nodes_of_args (args l.arguments.now) + 4

abbrev pub decreases-call : goal.decreases-call
decreases-call l = 4 * nodes_of_args (args l.arguments.now) + 4 * nodes (exp l.routine.now) + 5
