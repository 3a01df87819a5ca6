use Rattle.bc_cert_laws.proofs.Answers.{is_said}
use Rattle.bc_cert_laws.proofs.laws.judged_is_said.Goals as goal

pub returns : goal.returns
returns c = is_said
