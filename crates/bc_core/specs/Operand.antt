-- Which expressions one instruction takes as its operand.
use Rattle.std.specs.Prelude.{ℕ, ◌+◌, ◌%◌, Bool, true, false, cond, Option, Some, None, is_some}
use Rattle.bc_word.specs.declared.operator.Op.{Op}
use Rattle.bc_word.specs.declared.operator.Op.TheVariants.{Add}
use Rattle.bc_core.specs.declared.operands.Operand.{Operand}
use Rattle.bc_text_items.specs.declared.item.Base.{Base}
use Rattle.bc_text_items.specs.declared.item.Base.TheVariants.{Number, P, G, Label}
use Rattle.bc_core.specs.Tree.{Exp, Num, Frame, Glob, Place, Load, Bin}

-- the number, if the expression is one
abbrev pub constant_of : Exp → Option ℕ
constant_of (Num n) = Some n
constant_of _ = None

-- a number, or an address
abbrev pub direct : Base → ℕ → Operand
direct base n = record { direct = true; base = base; n = n }

-- the address of a variable plus a number
abbrev pub moved : Exp → Option ℕ → Option Operand
moved (Frame k) (Some c) = Some (direct P ((k + c) % 65536))
moved (Glob k) (Some c) = Some (direct G ((k + c) % 65536))
moved _ _ = None

-- the first one, if there is one, else the second
abbrev pub first_some : Option Operand → Option Operand → Option Operand
first_some (Some o) other = Some o
first_some None other = other

-- a sum of such an address and a number, in either order
abbrev pub sum_operand : Exp → Exp → Option Operand
sum_operand a b = first_some (moved a (constant_of b)) (moved b (constant_of a))

-- only a sum can be an operand
abbrev pub operand_of_operator : Op → Exp → Exp → Option Operand
operand_of_operator Add a b = sum_operand a b
operand_of_operator _ a b = None

-- the content of the cell at a number or address
abbrev pub content_of : Option Operand → Option Operand
content_of None = None
content_of (Some o) = cond o.direct (Some (record o { direct = false })) None

-- the operand that one instruction takes for an expression, if there is one
abbrev pub operand_of : Exp → Option Operand
operand_of (Num n) = Some (direct Number n)
operand_of (Frame k) = Some (direct P k)
operand_of (Glob n) = Some (direct G n)
operand_of (Place m) = Some (direct Label m)
operand_of (Load e) = content_of (operand_of e)
operand_of (Bin op a b) = operand_of_operator op a b
operand_of _ = None

-- whether one instruction takes the expression as its operand
abbrev pub is_operand : Exp → Bool
is_operand e = is_some (operand_of e)
