-- The level of both sides of an assignment. It depends on whether one instruction takes the address as its operand,
-- which is decided here by the form of the address in the source.
use Rattle.std.specs.Prelude.{ℕ, ◌+◌, Bool, true, false, cond, List, [], ◌∷◌}
use Rattle.bc_parse_tree.specs.declared.tree.BinaryOp.{BinaryOp}
use Rattle.bc_parse_tree.specs.declared.tree.BinaryOp.TheVariants as binary
use Rattle.bc_parse_tree.specs.declared.tree.UnaryOp.{UnaryOp}
use Rattle.bc_parse_tree.specs.declared.tree.UnaryOp.TheVariants as unary
use Rattle.bc_parse_tree.specs.Tree.{Exp, Exps, none, more}
use Rattle.bc_parse_tree.specs.Tree as tree
use Rattle.bc_scope_defs.specs.Scope.{Meant, Static, Global, Routine, Variable, Env, meant_by}

-- What one instruction takes as its operand: a number; the address of a variable or global; the address of a place;
-- the sum of a number and the address of a variable or global; or the content of the cell at one of these.
pub data Kind : Type 0 where
  ANumber : Kind
  ACell : Kind
  APlace : Kind
  ASum : Kind
  AContent : Kind
  NoOperand : Kind

-- what the address and the content of an expression are as operands
pub record Kinds : Type 0 where
  pub address : Kind
  pub content : Kind

-- the content of the cell at an operand
abbrev pub kind_of_content : Kind → Kind
kind_of_content AContent = NoOperand
kind_of_content NoOperand = NoOperand
kind_of_content _ = AContent

-- the sum of two operands
abbrev pub kind_of_sum : Kind → Kind → Kind
kind_of_sum ACell ANumber = ASum
kind_of_sum ANumber ACell = ASum
kind_of_sum _ _ = NoOperand

-- the cell at an operand
abbrev pub kinds_of_cell : Kind → Kinds
kinds_of_cell a = record { address = a; content = kind_of_content a }

-- an expression without a cell
abbrev pub kinds_of_plain : Kind → Kinds
kinds_of_plain v = record { address = v; content = v }

-- a name; a constant is a number, and a name that is a fault counts as one
abbrev pub kinds_of_name : Meant → Kinds
kinds_of_name (Static m) = kinds_of_cell APlace
kinds_of_name (Global n) = kinds_of_cell ACell
kinds_of_name (Routine m) = kinds_of_plain APlace
kinds_of_name (Variable k) = kinds_of_cell ACell
kinds_of_name _ = kinds_of_plain ANumber

-- a unary operator
abbrev pub kinds_of_unary : UnaryOp → Kinds → Kinds
kinds_of_unary unary.Load e = kinds_of_cell e.content
kinds_of_unary unary.Address e = kinds_of_plain e.address
kinds_of_unary _ e = kinds_of_plain NoOperand

-- a binary operator
abbrev pub kinds_of_binary : BinaryOp → Kind → Kind → Kinds
kinds_of_binary binary.Index l r = kinds_of_cell (kind_of_sum l r)
kinds_of_binary binary.Add l r = kinds_of_plain (kind_of_sum l r)
kinds_of_binary _ l r = kinds_of_plain NoOperand

-- an expression
abbrev pub kinds : Env → Exp → Kinds
kinds E (tree.Name n) = kinds_of_name (meant_by E n)
kinds E (tree.Num w) = kinds_of_plain ANumber
kinds E (tree.Character w) = kinds_of_plain ANumber
kinds E tree.True = kinds_of_plain ANumber
kinds E tree.False = kinds_of_plain ANumber
kinds E (tree.Text s) = kinds_of_plain APlace
kinds E (tree.Table ks) = kinds_of_plain APlace
kinds E (tree.Unary m e) = kinds_of_unary m (kinds E e)
kinds E (tree.Bin o l r) = kinds_of_binary o (kinds E l).content (kinds E r).content
kinds E _ = kinds_of_plain NoOperand

-- whether one instruction takes it as its operand
abbrev pub is_operand_kind : Kind → Bool
is_operand_kind NoOperand = false
is_operand_kind _ = true

-- the level of both sides of an assignment to x at the level s
abbrev pub side_level_of : Env → Exp → ℕ → ℕ
side_level_of E x s = cond (is_operand_kind (kinds E x).address) s (s + 1)

-- the level of each pair of an assignment
abbrev pub side_levels : Env → Exps → ℕ → List ℕ
side_levels E none s = []
side_levels E (more x xs) s = side_level_of E x s ∷ side_levels E xs s
