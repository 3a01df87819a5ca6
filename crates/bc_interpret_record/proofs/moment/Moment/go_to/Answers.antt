use Rattle.std.proofs.Common.{refl}
use Rattle.bc_interpret_record.proofs.Stops.{at_other}
use Rattle.bc_interpret_record.proofs.moment.Moment.go_to.Goals as goal

pub returns-clause-cells : goal.returns-clause-cells
returns-clause-cells c = λ p at. at_other c.args.recording.now c.args.self.now _ c.args.stop refl c.changes_until-to.ensures c.walk.ensures p at
