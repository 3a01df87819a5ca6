use Rattle.std.proofs.Common.{◌+◌, ◌*◌, drop}
use Rattle.bc_core.specs.View.{exp, args}
use Rattle.bc_core.specs.WellFormed.{nodes, nodes_of_args}
use Rattle.bc_candidates.specs.Below.{IsOnTheWay}
use Rattle.bc_candidates.proofs.nodes.Gathered.+gathering.Given as goal

abbrev pub decreases-part : goal.decreases-part
decreases-part l = 4 * nodes (exp l.e.now) + 2

abbrev pub decreases-below : goal.decreases-below
decreases-below l = 4 * nodes (exp l.e.now) + 1

abbrev pub decreases-unary : goal.decreases-unary
decreases-unary l = 4 * nodes (exp l.part.now) + 3

abbrev pub decreases-not : goal.decreases-not
decreases-not l = 4 * nodes (exp l.part.now) + 3

abbrev pub decreases-pair : goal.decreases-pair
decreases-pair l = 4 * (nodes (exp l.left.now) + nodes (exp l.right.now)) + 3

abbrev pub decreases-conditional : goal.decreases-conditional
decreases-conditional l = 4 * (nodes (exp l.condition.now) + nodes (exp l.this.now) + nodes (exp l.that.now)) + 3

abbrev pub decreases-call : goal.decreases-call
decreases-call l = 4 * (nodes_of_args (args l.arguments.now) + nodes (exp l.routine.now)) + 4

abbrev pub decreases-arguments : goal.decreases-arguments
decreases-arguments l = 4 * nodes_of_args (args l.arguments.now) + 3

abbrev pub invariant-arguments-loop-argument : goal.invariant-arguments-loop-argument
invariant-arguments-loop-argument l = IsOnTheWay l.all l.initial.self.found.items l.self.found.items (args (drop l.argument-index l.arguments)) (args l.arguments) l.level l.initial.level
