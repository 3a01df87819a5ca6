-- The laws of the numbers of operators, which are also numbers of operations of X.
use Rattle.std.specs.Prelude.{ℕ, ◌≡◌}
use Rattle.bc_word.specs.Words.{number_of}
use Rattle.bc_word.specs.declared.operator.Op.{Op}
use Rattle.bc_machine_defs.specs.Operation.{operation_of}
use Rattle.bc_machine_defs.specs.declared.operation.Operation.TheVariants.{Operate}

-- the operation of X with an operator's number computes that operator
abbrev pub OperatorsAreOperations : Type 0
OperatorsAreOperations = (op : Op) → operation_of (number_of op) ≡ Operate op

-- an operation of X that computes an operator has that operator's number
abbrev pub OperationsAreOperators : Type 0
OperationsAreOperators = (d : ℕ) (op : Op) → operation_of d ≡ Operate op → d ≡ number_of op
