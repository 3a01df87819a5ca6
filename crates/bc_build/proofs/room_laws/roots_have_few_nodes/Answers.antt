use Rattle.bc_build.proofs.Few.{roots_have_few_nodes}
use Rattle.bc_build.proofs.room_laws.roots_have_few_nodes.Goals as goal

pub returns : goal.returns
returns c = roots_have_few_nodes
