use Rattle.bc_build.proofs.Taking.{certificate_is_taken}
use Rattle.bc_build.proofs.laws.certificate_is_taken.Goals as goal

pub returns : goal.returns
returns c = certificate_is_taken c.one_answer.ensures
