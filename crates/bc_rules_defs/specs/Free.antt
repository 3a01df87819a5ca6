-- The conditions of the rules on expressions: what is an operand, what may be evaluated in either order, what drops a 0.
use Rattle.std.specs.Prelude.{ℕ, ◌==◌, Bool, true, false, not, ◌||◌, cond, Option, Some, None}
use Rattle.bc_word.specs.declared.operator.Op.{Op}
use Rattle.bc_word.specs.declared.operator.Op.TheVariants.{Add, Subtract, And, Or}
use Rattle.bc_core.specs.declared.operands.Operand.{Operand}
use Rattle.bc_core.specs.Tree.{Exp, Num, Not, Bin}
use Rattle.bc_core.specs.Operand.{operand_of}
use Rattle.bc_core.specs.Value.{has_call, is_true}

-- whether there is an operand and it is direct: a number or an address, not the content of a cell
abbrev pub direct_operand : Option Operand → Bool
direct_operand None = false
direct_operand (Some o) = o.direct

-- whether an expression is a direct operand
abbrev pub is_direct : Exp → Bool
is_direct e = direct_operand (operand_of e)

-- Whether two expressions may be evaluated in either order: neither contains a call or a VALOF, or one of them is direct.
abbrev pub are_free : Exp → Exp → Bool
are_free a b = not (has_call a || has_call b) || is_direct a || is_direct b

-- whether a test of an expression with this operator on top may test its value: it isn't `&` or `|`
abbrev pub is_plain_operator : Op → Bool
is_plain_operator And = false
is_plain_operator Or = false
is_plain_operator _ = true

-- whether a test of an expression may test its value: it has no NOT, `&` or `|` on top
abbrev pub is_plain : Exp → Bool
is_plain (Not e) = false
is_plain (Bin op a b) = is_plain_operator op
is_plain _ = true

-- whether an expression is the number 0
abbrev pub is_zero : Exp → Bool
is_zero (Num n) = n == 0
is_zero _ = false

-- the other operand, where one of the two is 0; of two zeros the right one is dropped
abbrev pub beside_zero : Exp → Exp → Option Exp
beside_zero a b = cond (is_zero b) (Some a) (cond (is_zero a) (Some b) None)

-- the operand a of `a + 0`, `0 + a` or `a - 0`
abbrev pub without_zero : Op → Exp → Exp → Option Exp
without_zero Add a b = beside_zero a b
without_zero Subtract a b = cond (is_zero b) (Some a) None
without_zero _ a b = None

-- whether a test of a number jumps, if it jumps on the truth `sense`
abbrev pub jumps_at : (sense : Bool) → ℕ → Bool
jumps_at true n = is_true n
jumps_at false n = not (is_true n)
