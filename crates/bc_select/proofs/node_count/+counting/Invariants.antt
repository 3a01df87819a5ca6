use Rattle.std.proofs.Common.{◌≡◌, ◌+◌, ◌≤◌, ◌<◌, ◌^◌, drop}
use Rattle.bc_core.specs.View.{args}
use Rattle.bc_core.specs.WellFormed.{nodes_of_args}
use Rattle.bc_select.proofs.node_count.+counting.Given as goal

abbrev pub invariant-count_all-loop-argument : goal.invariant-count_all-loop-argument
invariant-count_all-loop-argument l = record {
  most : l.all + nodes_of_args (args (drop l.argument-index l.arguments)) ≤ nodes_of_args (args l.arguments);
  exact : l.all + 1 < 2 ^ 64 → l.all + nodes_of_args (args (drop l.argument-index l.arguments)) ≡ nodes_of_args (args l.arguments);
}
