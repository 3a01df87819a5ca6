-- For proofs: the operand kinds of the code as those of the definitions.
use Rattle.bc_scope_names.specs.declared.sides.OperandKind.{OperandKind}
use Rattle.bc_scope_names.specs.declared.sides.OperandKind.TheVariants as code
use Rattle.bc_scope_names.specs.declared.sides.Kinds.{Kinds}
use Rattle.bc_scope_defs.specs.Sides as sides

-- a kind of the code, as the definitions have it
abbrev pub kind_view : OperandKind → sides.Kind
kind_view code.Number = sides.ANumber
kind_view code.Cell = sides.ACell
kind_view code.Place = sides.APlace
kind_view code.Sum = sides.ASum
kind_view code.Content = sides.AContent
kind_view code.NoOperand = sides.NoOperand

-- both kinds of an expression, as the definitions have them
abbrev pub kinds_view : Kinds → sides.Kinds
kinds_view k = record { address = kind_view k.address; content = kind_view k.content }
