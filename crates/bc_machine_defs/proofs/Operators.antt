-- Each operator's number.
use Rattle.std.proofs.Common.{◌≡◌, refl}
use Rattle.bc_word.specs.Words.{number_of}
use Rattle.bc_word.specs.declared.operator.Op.{Op}
use Rattle.bc_word.specs.declared.operator.Op.TheVariants as operators
use Rattle.bc_machine_defs.specs.Operation.{operation_of}
use Rattle.bc_machine_defs.specs.declared.operation.Operation.TheVariants.{Operate}

pub operator_is : (op : Op) → operation_of (number_of op) ≡ Operate op
operator_is operators.Multiply = refl
operator_is operators.Divide = refl
operator_is operators.Remainder = refl
operator_is operators.Add = refl
operator_is operators.Subtract = refl
operator_is operators.Equal = refl
operator_is operators.NotEqual = refl
operator_is operators.Less = refl
operator_is operators.GreaterEqual = refl
operator_is operators.Greater = refl
operator_is operators.LessEqual = refl
operator_is operators.ShiftLeft = refl
operator_is operators.ShiftRight = refl
operator_is operators.And = refl
operator_is operators.Or = refl
operator_is operators.NotEquivalent = refl
operator_is operators.Equivalent = refl
