use Rattle.std.proofs.Common.{refl}
use Rattle.bc_interpret_record.proofs.Stops.{at_first}
use Rattle.bc_interpret_record.proofs.moment.Moment.first.Goals as goal

pub returns-clause-cells : goal.returns-clause-cells
returns-clause-cells c = λ p. at_first c.args.recording.now _ c.in_ok-cells.cells.items refl c.changes_until-made.ensures c.in_ok-cells.ensures c.walk.ensures p
