use Rattle.bc_select_defs.proofs.Words.{choices_are_least}
use Rattle.bc_cert_write.proofs.laws.numbers_are_least.Goals as goal

pub returns : goal.returns
returns c = λ T aim n. (choices_are_least T n.expression aim n.level).0
