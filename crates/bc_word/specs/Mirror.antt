-- Operators that have the same value with their operands exchanged.
use Rattle.std.specs.Prelude.{ℕ, ◌≡◌, ◌<◌, Option, Some, None}
use Rattle.bc_word.specs.declared.operator.Op.{Op}
use Rattle.bc_word.specs.declared.operator.Op.TheVariants.{Multiply, Divide, Remainder, Add, Subtract, Equal, NotEqual, Less, GreaterEqual, Greater, LessEqual, ShiftLeft, ShiftRight, And, Or, NotEquivalent, Equivalent}
use Rattle.bc_word.specs.Words.{value_of}

-- the operator that has the same value with the operands exchanged, if there is one
abbrev pub mirror_of : Op → Option Op
mirror_of Multiply = Some Multiply
mirror_of Add = Some Add
mirror_of Equal = Some Equal
mirror_of NotEqual = Some NotEqual
mirror_of And = Some And
mirror_of Or = Some Or
mirror_of NotEquivalent = Some NotEquivalent
mirror_of Equivalent = Some Equivalent
mirror_of Less = Some Greater
mirror_of Greater = Some Less
mirror_of GreaterEqual = Some LessEqual
mirror_of LessEqual = Some GreaterEqual
mirror_of Divide = None
mirror_of Remainder = None
mirror_of Subtract = None
mirror_of ShiftLeft = None
mirror_of ShiftRight = None

-- `b op a` equals `a q b` for all words
abbrev pub IsMirror : Op → Op → Type 0
IsMirror op q = (b a : ℕ) → b < 65536 → a < 65536 → value_of op b a ≡ value_of q a b
