use Rattle.bc_core.specs.View.{args}
use Rattle.bc_core.specs.WellFormed.{nodes_of_args}
use Rattle.bc_select.proofs.pending_parts.+all_read.Given as goal

abbrev pub decreases-all_read : goal.decreases-all_read
decreases-all_read l = nodes_of_args (args l.arguments.now)
