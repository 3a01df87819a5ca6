use Rattle.bc_cert_laws.proofs.Longer.{longer_faults}
use Rattle.bc_cert_laws.proofs.laws.longer_faults.Goals as goal

pub returns : goal.returns
returns c = longer_faults
