use Rattle.bc_cert_laws.proofs.Accepted.{certificate_is_said}
use Rattle.bc_cert_laws.proofs.laws.certificate_is_said.Goals as goal

pub returns : goal.returns
returns c = certificate_is_said
