use Rattle.bc_scope_laws.proofs.Frames.{numbers_rise}
use Rattle.bc_scope_laws.proofs.laws.numbers_rise.Goals as goal

pub returns : goal.returns
returns c = numbers_rise
