use Rattle.bc_machine_defs.proofs.Stops.{step_stops}
use Rattle.bc_machine_defs.proofs.laws.stops_leave_state.Goals as goal

pub returns : goal.returns
returns c = step_stops
