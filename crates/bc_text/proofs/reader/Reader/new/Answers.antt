-- No byte has been read.
use Rattle.bc_text.proofs.Feeding.{nothing_read}
use Rattle.bc_text.proofs.reader.Reader.new.Goals as goal

pub returns : goal.returns
returns c = nothing_read _ c.new.ensures
