use Rattle.std.proofs.Common.{length}
use Rattle.bc_select.proofs.layout.+put_arguments.Given as goal

abbrev pub decreases-put_arguments : goal.decreases-put_arguments
decreases-put_arguments l = length l.arguments.now
