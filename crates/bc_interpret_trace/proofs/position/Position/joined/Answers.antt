use Rattle.bc_interpret_trace.proofs.Reading.{joined_known, joined_open}
use Rattle.bc_interpret_trace.proofs.position.Position.joined.Goals as goal

pub returns-in-Some : goal.returns-in-Some
returns-in-Some c = λ p q is outer. joined_known p q c.args.self _ c.in-Some.is is

pub returns-in-None : goal.returns-in-None
returns-in-None c = λ p q is outer. joined_open p q c.args.self c.args.outer c.saturating_add.result c.in-None.is c.saturating_add.ensures is outer
