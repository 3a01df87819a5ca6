-- The table `takes` gives the parts that `Parts` gives, with one line for each rule.
use Rattle.std.proofs.Common.{Bool, true, false, Option, Some, None, cond}
use Rattle.bc_word.specs.declared.operator.Op.{Op}
use Rattle.bc_word.specs.declared.operator.Op.TheVariants as operators
use Rattle.bc_word.specs.Mirror.{mirror_of}
use Rattle.bc_core.specs.Tree.{Exp, Num, Load, Neg, Not, Bin, Cond, Call, Valof}
use Rattle.bc_core.specs.Operand.{operand_of, constant_of}
use Rattle.bc_rules_defs.specs.declared.rule.Mode.{Mode}
use Rattle.bc_rules_defs.specs.declared.rule.Mode.TheVariants.{Any, Push}
use Rattle.bc_rules_defs.specs.declared.rule.Aim.{Aim}
use Rattle.bc_rules_defs.specs.declared.rule.Aim.TheVariants.{Gets, Jumps}
use Rattle.bc_rules_defs.specs.declared.rule.Rule.{Rule}
use Rattle.bc_rules_defs.specs.declared.rule.Rule.TheVariants.{V0, V1, V2, V3, V4, V6, V7, V8, V9, V10, V11, V12, V13, V14, V15, V16, V17, V18, V19, V20, V21, V22, J1, J2, J3, J4, J5, J6, J7, J8, J9, A1, A2, A3}
use Rattle.bc_rules_defs.specs.Free.{is_zero, is_plain, without_zero}
use Rattle.bc_rules_defs.specs.Parts.{Parts, leaf, where_true, where_some, where_none, in_any, for_sum, for_difference, for_and, for_or, for_equal, for_not_equal, single_if, value_parts, test_parts, node_parts, parts_of, assignment_parts}
use Rattle.bc_rules_defs.specs.Takes.{takes, beside, of_two, own_by_table, by_table, Agrees, elsewhere, alike, TableHasParts}

-- a further condition of a rule changes no parts
so : (b : Bool) (p q : Parts) → Agrees p q → Agrees (where_true b p) q
so true p q h = h
so false p q h = elsewhere

some : {A : Type 0} (x : Option A) (p q : Parts) → Agrees p q → Agrees (where_some x p) q
some (Some x) p q h = h
some None p q h = elsewhere

none : {A : Type 0} (x : Option A) (p q : Parts) → Agrees p q → Agrees (where_none x p) q
none (Some x) p q h = elsewhere
none None p q h = h

any : (m : Mode) (p q : Parts) → Agrees p q → Agrees (in_any m p) q
any Any p q h = h
any Push p q h = elsewhere

sum : (op : Op) (p q : Parts) → Agrees p q → Agrees (for_sum op p) q
sum operators.Add p q h = h
sum op p q h = elsewhere

difference : (op : Op) (p q : Parts) → Agrees p q → Agrees (for_difference op p) q
difference operators.Subtract p q h = h
difference op p q h = elsewhere

conjunction : (op : Op) (p q : Parts) → Agrees p q → Agrees (for_and op p) q
conjunction operators.And p q h = h
conjunction op p q h = elsewhere

disjunction : (op : Op) (p q : Parts) → Agrees p q → Agrees (for_or op p) q
disjunction operators.Or p q h = h
disjunction op p q h = elsewhere

equal : (op : Op) (p q : Parts) → Agrees p q → Agrees (for_equal op p) q
equal operators.Equal p q h = h
equal op p q h = elsewhere

not_equal : (op : Op) (p q : Parts) → Agrees p q → Agrees (for_not_equal op p) q
not_equal operators.NotEqual p q h = h
not_equal op p q h = elsewhere

-- the part that remains when a 0 is dropped
kept : (aim : Aim) (a b : Exp) (y z : Bool) → Agrees (single_if aim (cond z (Some a) (cond y (Some b) None))) (of_two (beside aim z) a b)
kept aim a b y true = alike
kept aim a b true false = alike
kept aim a b false false = elsewhere

kept_left : (aim : Aim) (a b : Exp) (z : Bool) → Agrees (single_if aim (cond z (Some a) None)) (of_two (beside aim z) a b)
kept_left aim a b true = alike
kept_left aim a b false = elsewhere

without : (aim : Aim) (op : Op) (a b : Exp) → Agrees (single_if aim (without_zero op a b)) (of_two (beside aim (is_zero b)) a b)
without aim operators.Add a b = kept aim a b (is_zero a) (is_zero b)
without aim operators.Subtract a b = kept_left aim a b (is_zero b)
without aim op a b = elsewhere

at_value : (r : Rule) (m : Mode) (op : Op) (a b : Exp) → Agrees (value_parts r m op a b) (of_two (takes r (Gets m) (is_zero b)) a b)
at_value V6 m op a b = sum op _ _ (some (operand_of b) _ _ alike)
at_value V7 m op a b = sum op _ _ (some (operand_of a) _ _ alike)
at_value V8 m op a b = without (Gets m) op a b
at_value V9 m op a b = difference op _ _ (some (constant_of b) _ _ alike)
at_value V10 m op a b = difference op _ _ (some (operand_of b) _ _ alike)
at_value V11 m op a b = difference op _ _ (some (operand_of a) _ _ alike)
at_value V12 m op a b = any m _ _ alike
at_value V13 m op a b = any m _ _ (some (mirror_of op) _ _ alike)
at_value V14 m op a b = any m _ _ (difference op _ _ alike)
at_value V15 m op a b = any m _ _ (some (mirror_of op) _ _ alike)
at_value V16 m op a b = any m _ _ alike
at_value V17 m op a b = any m _ _ alike
at_value V18 m op a b = any m _ _ (sum op _ _ alike)
at_value V19 m op a b = any m _ _ (difference op _ _ alike)
at_value r m op a b = elsewhere

at_test : (r : Rule) (sense : Bool) (op : Op) (a b : Exp) → Agrees (test_parts r sense op a b) (of_two (takes r (Jumps sense) (is_zero b)) a b)
at_test J2 sense op a b = conjunction op _ _ (so _ _ _ alike)
at_test J3 sense op a b = conjunction op _ _ (so _ _ _ alike)
at_test J4 sense op a b = disjunction op _ _ (so _ _ _ alike)
at_test J5 sense op a b = disjunction op _ _ (so _ _ _ alike)
at_test J8 sense op a b = equal op _ _ (kept (Gets Any) a b (is_zero a) (is_zero b))
at_test J9 sense op a b = not_equal op _ _ (kept (Gets Any) a b (is_zero a) (is_zero b))
at_test r sense op a b = elsewhere

at_node : (r : Rule) (aim : Aim) (e : Exp) → Agrees (node_parts r aim e) (own_by_table r aim e)
at_node J7 (Jumps sense) (Num n) = alike
at_node V2 (Gets m) (Load e) = alike
at_node V3 (Gets m) (Neg e) = alike
at_node V4 (Gets m) (Not e) = alike
at_node J1 (Jumps sense) (Not e) = alike
at_node r (Gets m) (Bin op a b) = at_value r m op a b
at_node r (Jumps sense) (Bin op a b) = at_test r sense op a b
at_node V20 (Gets Any) (Cond c x y) = alike
at_node V21 (Gets Any) (Cond c x y) = alike
at_node V22 (Gets Any) (Call es f) = alike
at_node V22 (Gets Any) (Valof n) = alike
at_node r aim e = elsewhere

-- an operand has no parts
at_operand : (e : Exp) → Agrees (where_some (operand_of e) (leaf false)) (own_by_table V1 (Gets Push) e)
at_operand (Valof n) = elsewhere
at_operand e = some (operand_of e) _ _ alike

at_expression : (r : Rule) (aim : Aim) (e : Exp) → Agrees (parts_of r aim e) (by_table r aim e)
at_expression V0 (Gets Any) e = alike
at_expression V0 aim e = elsewhere
at_expression J6 (Jumps sense) e = so (is_plain e) _ _ alike
at_expression J6 aim e = elsewhere
at_expression V1 (Gets Push) e = at_operand e
at_expression V1 aim e = elsewhere
at_expression r aim e = at_node r aim e

at_assignment : (r : Rule) (v a : Exp) → Agrees (assignment_parts r v a) (of_two (takes r (Gets Any) false) v a)
at_assignment A1 v a = some (operand_of a) _ _ alike
at_assignment A2 v a = none (operand_of a) _ _ alike
at_assignment A3 v a = none (operand_of a) _ _ alike
at_assignment r v a = elsewhere

pub has_parts : TableHasParts
has_parts = record { expressions = at_expression; assignments = at_assignment }
