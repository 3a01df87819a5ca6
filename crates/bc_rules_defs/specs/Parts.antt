-- For proofs: the parts that a rule has at an expression, as a function.
use Rattle.std.specs.Prelude.{ℕ, Bool, true, false, not, Option, Some, None}
use Rattle.bc_word.specs.declared.operator.Op.{Op}
use Rattle.bc_word.specs.declared.operator.Op.TheVariants.{Add, Subtract, Equal, NotEqual, And, Or}
use Rattle.bc_word.specs.Mirror.{mirror_of}
use Rattle.bc_core.specs.Tree.{Exp, Num, Frame, Glob, Place, Load, Neg, Not, Bin, Cond, Call, Valof, Args}
use Rattle.bc_core.specs.Operand.{operand_of, constant_of}
use Rattle.bc_rules_defs.specs.declared.rule.Mode.{Mode}
use Rattle.bc_rules_defs.specs.declared.rule.Mode.TheVariants.{Any, Push}
use Rattle.bc_rules_defs.specs.declared.rule.Aim.{Aim}
use Rattle.bc_rules_defs.specs.declared.rule.Aim.TheVariants.{Gets, Jumps}
use Rattle.bc_rules_defs.specs.declared.rule.Rule.{Rule}
use Rattle.bc_rules_defs.specs.declared.rule.Rule.TheVariants.{V0, V1, V2, V3, V4, V6, V7, V8, V9, V10, V11, V12, V13, V14, V15, V16, V17, V18, V19, V20, V21, V22, J1, J2, J3, J4, J5, J6, J7, J8, J9, A1, A2, A3}
use Rattle.bc_rules_defs.specs.Free.{is_plain, beside_zero, without_zero}

-- The parts in the order of the code, each with its aim. Whether operands are free and whether the table has the rule
-- isn't decided here.
pub data Parts : Type 0 where
  no_rule : Parts
  -- no part, at a VALOF or elsewhere
  leaf : (valof : Bool) → Parts
  single : Aim → Exp → Parts
  pair : Aim → Exp → Aim → Exp → Parts
  triple : Aim → Exp → Aim → Exp → Aim → Exp → Parts
  -- the arguments of a call without the first `before`, and the routine
  called : (before : ℕ) → Args → Exp → Parts

-- conditions of rules: the parts, if the condition holds
abbrev pub where_true : Bool → Parts → Parts
where_true false p = no_rule
where_true true p = p

abbrev pub where_some : {A : Type 0} → Option A → Parts → Parts
where_some None p = no_rule
where_some (Some x) p = p

-- the parts of a rule that exists only in mode Any
abbrev pub in_any : Mode → Parts → Parts
in_any Any p = p
in_any Push p = no_rule

abbrev pub for_sum : Op → Parts → Parts
for_sum Add p = p
for_sum _ p = no_rule

abbrev pub for_difference : Op → Parts → Parts
for_difference Subtract p = p
for_difference _ p = no_rule

abbrev pub for_and : Op → Parts → Parts
for_and And p = p
for_and _ p = no_rule

abbrev pub for_or : Op → Parts → Parts
for_or Or p = p
for_or _ p = no_rule

abbrev pub for_equal : Op → Parts → Parts
for_equal Equal p = p
for_equal _ p = no_rule

abbrev pub for_not_equal : Op → Parts → Parts
for_not_equal NotEqual p = p
for_not_equal _ p = no_rule

abbrev pub single_if : Aim → Option Exp → Parts
single_if aim None = no_rule
single_if aim (Some e) = single aim e

-- the rules for the value of an operator
abbrev pub value_parts : Rule → Mode → Op → (left right : Exp) → Parts
value_parts V6 m op a b = for_sum op (where_some (operand_of b) (single (Gets m) a))
value_parts V7 m op a b = for_sum op (where_some (operand_of a) (single (Gets m) b))
value_parts V8 m op a b = single_if (Gets m) (without_zero op a b)
value_parts V9 m op a b = for_difference op (where_some (constant_of b) (single (Gets m) a))
value_parts V10 m op a b = for_difference op (where_some (operand_of b) (single (Gets m) a))
value_parts V11 m op a b = for_difference op (where_some (operand_of a) (single (Gets m) b))
value_parts V12 m op a b = in_any m (pair (Gets Any) a (Gets Push) b)
value_parts V13 m op a b = in_any m (where_some (mirror_of op) (pair (Gets Any) b (Gets Push) a))
value_parts V14 m op a b = in_any m (for_difference op (pair (Gets Any) b (Gets Push) a))
value_parts V15 m op a b = in_any m (where_some (mirror_of op) (pair (Gets Any) a (Gets Any) b))
value_parts V16 m op a b = in_any m (pair (Gets Any) b (Gets Any) a)
value_parts V17 m op a b = in_any m (pair (Gets Any) a (Gets Any) b)
value_parts V18 m op a b = in_any m (for_sum op (pair (Gets Any) a (Gets Any) b))
value_parts V19 m op a b = in_any m (for_difference op (pair (Gets Any) a (Gets Any) b))
value_parts _ m op a b = no_rule

-- the rules for a test of an operator
abbrev pub test_parts : Rule → (sense : Bool) → Op → (left right : Exp) → Parts
test_parts J2 sense op a b = for_and op (where_true (not sense) (pair (Jumps false) a (Jumps false) b))
test_parts J3 sense op a b = for_and op (where_true sense (pair (Jumps false) a (Jumps true) b))
test_parts J4 sense op a b = for_or op (where_true sense (pair (Jumps true) a (Jumps true) b))
test_parts J5 sense op a b = for_or op (where_true (not sense) (pair (Jumps true) a (Jumps false) b))
test_parts J8 sense op a b = for_equal op (single_if (Gets Any) (beside_zero a b))
test_parts J9 sense op a b = for_not_equal op (single_if (Gets Any) (beside_zero a b))
test_parts _ sense op a b = no_rule

-- the rules for an operator
abbrev pub operator_parts : Rule → Aim → Op → (left right : Exp) → Parts
operator_parts r (Gets m) op a b = value_parts r m op a b
operator_parts r (Jumps sense) op a b = test_parts r sense op a b

-- the rules for the other forms of expression
abbrev pub number_parts : Rule → Aim → Parts
number_parts J7 (Jumps sense) = leaf false
number_parts _ _ = no_rule

abbrev pub load_parts : Rule → Aim → Exp → Parts
load_parts V2 (Gets m) e = single (Gets m) e
load_parts _ _ e = no_rule

abbrev pub neg_parts : Rule → Aim → Exp → Parts
neg_parts V3 (Gets m) e = single (Gets m) e
neg_parts _ _ e = no_rule

abbrev pub not_parts : Rule → Aim → Exp → Parts
not_parts V4 (Gets m) e = single (Gets m) e
not_parts J1 (Jumps sense) e = single (Jumps (not sense)) e
not_parts _ _ e = no_rule

abbrev pub cond_parts : Rule → Aim → (condition this that : Exp) → Parts
cond_parts V20 (Gets Any) c x y = triple (Jumps false) c (Gets Any) x (Gets Any) y
cond_parts V21 (Gets Any) c x y = triple (Jumps true) c (Gets Any) y (Gets Any) x
cond_parts _ _ c x y = no_rule

abbrev pub call_parts : Rule → Aim → Args → Exp → Parts
call_parts V22 (Gets Any) es f = called 0 es f
call_parts _ _ es f = no_rule

abbrev pub valof_parts : Rule → Aim → Parts
valof_parts V22 (Gets Any) = leaf true
valof_parts _ _ = no_rule

-- the parts of a rule other than V0, V1 and J6, by the form of the expression
abbrev pub node_parts : Rule → Aim → Exp → Parts
node_parts r aim (Num n) = number_parts r aim
node_parts r aim (Frame k) = no_rule
node_parts r aim (Glob n) = no_rule
node_parts r aim (Place m) = no_rule
node_parts r aim (Load e) = load_parts r aim e
node_parts r aim (Neg e) = neg_parts r aim e
node_parts r aim (Not e) = not_parts r aim e
node_parts r aim (Bin op a b) = operator_parts r aim op a b
node_parts r aim (Cond c x y) = cond_parts r aim c x y
node_parts r aim (Call es f) = call_parts r aim es f
node_parts r aim (Valof n) = valof_parts r aim

-- the rules V0, V1 and J6, which look at the expression as a whole
abbrev pub keeping_parts : Aim → Exp → Parts
keeping_parts (Gets Any) e = single (Gets Push) e
keeping_parts _ e = no_rule

abbrev pub operand_parts : Aim → Exp → Parts
operand_parts (Gets Push) e = where_some (operand_of e) (leaf false)
operand_parts _ e = no_rule

abbrev pub plain_parts : Aim → Exp → Parts
plain_parts (Jumps sense) e = where_true (is_plain e) (single (Gets Any) e)
plain_parts _ e = no_rule

-- the parts of a rule at an expression for an aim
abbrev pub parts_of : Rule → Aim → Exp → Parts
parts_of V0 aim e = keeping_parts aim e
parts_of V1 aim e = operand_parts aim e
parts_of J6 aim e = plain_parts aim e
parts_of r aim e = node_parts r aim e

-- the rules for an assignment
abbrev pub where_none : {A : Type 0} → Option A → Parts → Parts
where_none None p = p
where_none (Some x) p = no_rule

-- the parts of a rule at an assignment
abbrev pub assignment_parts : Rule → (value address : Exp) → Parts
assignment_parts A1 v a = where_some (operand_of a) (single (Gets Any) v)
assignment_parts A2 v a = where_none (operand_of a) (pair (Gets Any) a (Gets Any) v)
assignment_parts A3 v a = where_none (operand_of a) (pair (Gets Any) v (Gets Any) a)
assignment_parts _ v a = no_rule
