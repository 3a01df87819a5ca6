use Rattle.bc_cert_write.proofs.Texts.{nodes_in_order}
use Rattle.bc_cert_write.proofs.laws.nodes_in_order.Goals as goal

pub returns : goal.returns
returns c = nodes_in_order
