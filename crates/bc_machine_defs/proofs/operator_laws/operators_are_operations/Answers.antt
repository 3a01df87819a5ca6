use Rattle.bc_machine_defs.proofs.Operators.{operator_is}
use Rattle.bc_machine_defs.proofs.operator_laws.operators_are_operations.Goals as goal

pub returns : goal.returns
returns c = operator_is
