use Rattle.bc_cert_laws.proofs.Least.{have_certificate}
use Rattle.bc_cert_laws.proofs.laws.have_certificate.Goals as goal

pub returns : goal.returns
returns c = have_certificate
