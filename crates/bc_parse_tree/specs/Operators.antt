-- The levels of operators, where a lower number binds less tightly, and the signs they are written with.
use Rattle.std.specs.Prelude.{ℕ}
use Rattle.bc_lex_tokens.specs.declared.symbol.Symbol.{Symbol}
use Rattle.bc_lex_tokens.specs.declared.symbol.Symbol.TheVariants as sign
use Rattle.bc_parse_tree.specs.declared.tree.BinaryOp.{BinaryOp}
use Rattle.bc_parse_tree.specs.declared.tree.BinaryOp.TheVariants as binary
use Rattle.bc_parse_tree.specs.declared.tree.UnaryOp.{UnaryOp}
use Rattle.bc_parse_tree.specs.declared.tree.UnaryOp.TheVariants as unary
use Rattle.bc_parse_tree.specs.declared.tree.Storage.{Storage}
use Rattle.bc_parse_tree.specs.declared.tree.Storage.TheVariants as storage

-- the level of an expression with this operator
abbrev pub level_of : BinaryOp → ℕ
level_of binary.Equivalent = 2
level_of binary.NotEquivalent = 2
level_of binary.Or = 3
level_of binary.And = 4
level_of binary.ShiftLeft = 6
level_of binary.ShiftRight = 6
level_of binary.Equal = 7
level_of binary.NotEqual = 7
level_of binary.Less = 7
level_of binary.GreaterEqual = 7
level_of binary.Greater = 7
level_of binary.LessEqual = 7
level_of binary.Add = 8
level_of binary.Subtract = 8
level_of binary.Multiply = 9
level_of binary.Divide = 9
level_of binary.Remainder = 9
level_of binary.Index = 11

-- The level that the left operand must have. It is the operator's own level, since operators group to the left.
-- Relations don't group, so their left operand must have the next level.
abbrev pub left_level : BinaryOp → ℕ
left_level binary.Equivalent = 2
left_level binary.NotEquivalent = 2
left_level binary.Or = 3
left_level binary.And = 4
left_level binary.ShiftLeft = 6
left_level binary.ShiftRight = 6
left_level binary.Equal = 8
left_level binary.NotEqual = 8
left_level binary.Less = 8
left_level binary.GreaterEqual = 8
left_level binary.Greater = 8
left_level binary.LessEqual = 8
left_level binary.Add = 8
left_level binary.Subtract = 8
left_level binary.Multiply = 9
left_level binary.Divide = 9
left_level binary.Remainder = 9
left_level binary.Index = 11

-- the level of an expression with this unary operator
abbrev pub own_level : UnaryOp → ℕ
own_level unary.Not = 5
own_level unary.Neg = 8
own_level unary.Load = 10
own_level unary.Address = 10

-- the level that the operand of a unary operator must have
abbrev pub operand_level : UnaryOp → ℕ
operand_level unary.Not = 6
operand_level unary.Neg = 9
operand_level unary.Load = 10
operand_level unary.Address = 10

-- the sign of a binary operator
abbrev pub binary_sign : BinaryOp → Symbol
binary_sign binary.Equivalent = sign.Equivalent
binary_sign binary.NotEquivalent = sign.NotEquivalent
binary_sign binary.Or = sign.LogicalOr
binary_sign binary.And = sign.LogicalAnd
binary_sign binary.ShiftLeft = sign.ShiftLeft
binary_sign binary.ShiftRight = sign.ShiftRight
binary_sign binary.Equal = sign.Equal
binary_sign binary.NotEqual = sign.NotEqual
binary_sign binary.Less = sign.Less
binary_sign binary.GreaterEqual = sign.GreaterEqual
binary_sign binary.Greater = sign.Greater
binary_sign binary.LessEqual = sign.LessEqual
binary_sign binary.Add = sign.Plus
binary_sign binary.Subtract = sign.Minus
binary_sign binary.Multiply = sign.Multiply
binary_sign binary.Divide = sign.Divide
binary_sign binary.Remainder = sign.Remainder
binary_sign binary.Index = sign.Indirection

-- the sign of a unary operator
abbrev pub unary_sign : UnaryOp → Symbol
unary_sign unary.Not = sign.Not
unary_sign unary.Neg = sign.Minus
unary_sign unary.Load = sign.Indirection
unary_sign unary.Address = sign.AddressOf

-- the reserved word that begins a list of constants
abbrev pub storage_sign : Storage → Symbol
storage_sign storage.Manifest = sign.Manifest
storage_sign storage.Static = sign.Static
storage_sign storage.Global = sign.Global
