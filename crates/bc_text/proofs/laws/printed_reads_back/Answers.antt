-- The law is a lemma on the definitions.
use Rattle.bc_text.proofs.Printed.{reads_back}
use Rattle.bc_text.proofs.laws.printed_reads_back.Goals as goal

pub returns : goal.returns
returns c = reads_back
