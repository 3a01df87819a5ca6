use Rattle.bc_cert_laws.proofs.Least.{accepted_is_least}
use Rattle.bc_cert_laws.proofs.laws.accepted_is_least.Goals as goal

pub returns : goal.returns
returns c = accepted_is_least
