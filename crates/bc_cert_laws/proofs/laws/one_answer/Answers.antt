use Rattle.bc_cert_laws.proofs.Answers.{has_one_answer}
use Rattle.bc_cert_laws.proofs.laws.one_answer.Goals as goal

pub returns : goal.returns
returns c = has_one_answer
