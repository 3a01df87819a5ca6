use Rattle.std.proofs.Common.{length}
use Rattle.bc_interpret_record.proofs.tagging.Tagger.declared.Given as goal

abbrev pub decreases-loop-declaration : goal.decreases-loop-declaration
decreases-loop-declaration l = length l.left
