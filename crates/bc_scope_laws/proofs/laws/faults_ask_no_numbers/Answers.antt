use Rattle.bc_scope_laws.proofs.AlikeFaults.{faults_ask_no_numbers}
use Rattle.bc_scope_laws.proofs.laws.faults_ask_no_numbers.Goals as goal

pub returns : goal.returns
returns c = faults_ask_no_numbers
