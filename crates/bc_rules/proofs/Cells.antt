-- The parts of a rule use no more cells than the whole expression or assignment.
use Rattle.std.proofs.Common.{◌≡◌, refl, ℕ, ◌+◌, ◌≤◌, max, Bool, true, false, not, cond, Option, Some, None, arith}
use Rattle.bc_word.specs.declared.operator.Op.{Op}
use Rattle.bc_word.specs.declared.operator.Op.TheVariants.{Add, Subtract, Equal, NotEqual, And, Or}
use Rattle.bc_word.specs.Mirror.{mirror_of}
use Rattle.bc_core.specs.declared.operands.Operand.{Operand}
use Rattle.bc_core.specs.Tree.{Exp, Num, Frame, Glob, Place, Load, Neg, Not, Bin, Cond, Call, Valof, Assign}
use Rattle.bc_core.specs.Operand.{operand_of, constant_of}
use Rattle.bc_rules_defs.specs.declared.rule.Mode.{Mode}
use Rattle.bc_rules_defs.specs.declared.rule.Mode.TheVariants.{Any, Push}
use Rattle.bc_rules_defs.specs.declared.rule.Aim.{Aim}
use Rattle.bc_rules_defs.specs.declared.rule.Aim.TheVariants.{Gets, Jumps}
use Rattle.bc_rules_defs.specs.declared.rule.Rule.{Rule}
use Rattle.bc_rules_defs.specs.declared.rule.Rule.TheVariants.{V0, V1, V2, V3, V4, V6, V7, V8, V9, V10, V11, V12, V13, V14, V15, V16, V17, V18, V19, V20, V21, V22, J1, J2, J3, J4, J5, J6, J7, J8, J9, A1, A2, A3}
use Rattle.bc_rules_defs.specs.Free.{is_zero, is_plain, without_zero}
use Rattle.bc_rules_defs.specs.Parts.{Parts, leaf, single, where_true, where_some, where_none, in_any, for_sum, for_difference, for_and, for_or, for_equal, for_not_equal, single_if, value_parts, test_parts, operator_parts, number_parts, load_parts, neg_parts, not_parts, cond_parts, call_parts, valof_parts, node_parts, parts_of, assignment_parts}
use Rattle.bc_rules.specs.Code.{cells_of_root}
use Rattle.bc_rules.specs.Levels.{cells, cells_of_parts, cells_of_sides}

abbrev Within : Rule → Exp → ℕ → Parts → Type 0
Within r e s p = cells_of_parts r p s ≤ cells e s

none : (n : ℕ) → 0 ≤ n
none n = omega arith

whole : (n : ℕ) → n ≤ n
whole n = omega arith

unheld : (n : ℕ) → max 0 n ≤ n
unheld n = omega arith

left : (x y z : ℕ) → max x y ≤ max x (max y z)
left x y z = omega arith

right : (x y z : ℕ) → max x z ≤ max x (max y z)
right x y z = omega arith

turned : (x y z : ℕ) → max x (max z y) ≤ max x (max y z)
turned x y z = omega arith

-- a further condition of a rule changes nothing
some : {A : Type 0} (r : Rule) (e : Exp) (s : ℕ) (x : Option A) (p : Parts) → Within r e s p → Within r e s (where_some x p)
some r e s None p h = none (cells e s)
some r e s (Some y) p h = h

so : (r : Rule) (e : Exp) (s : ℕ) (b : Bool) (p : Parts) → Within r e s p → Within r e s (where_true b p)
so r e s false p h = none (cells e s)
so r e s true p h = h

any : (r : Rule) (e : Exp) (s : ℕ) (m : Mode) (p : Parts) → Within r e s p → Within r e s (in_any m p)
any r e s Any p h = h
any r e s Push p h = none (cells e s)

sum : (r : Rule) (e : Exp) (s : ℕ) (op : Op) (p : Parts) → Within r e s p → Within r e s (for_sum op p)
sum r e s Add p h = h
sum r e s _ p h = none (cells e s)

difference : (r : Rule) (e : Exp) (s : ℕ) (op : Op) (p : Parts) → Within r e s p → Within r e s (for_difference op p)
difference r e s Subtract p h = h
difference r e s _ p h = none (cells e s)

conjunction : (r : Rule) (e : Exp) (s : ℕ) (op : Op) (p : Parts) → Within r e s p → Within r e s (for_and op p)
conjunction r e s And p h = h
conjunction r e s _ p h = none (cells e s)

disjunction : (r : Rule) (e : Exp) (s : ℕ) (op : Op) (p : Parts) → Within r e s p → Within r e s (for_or op p)
disjunction r e s Or p h = h
disjunction r e s _ p h = none (cells e s)

equal : (r : Rule) (e : Exp) (s : ℕ) (op : Op) (p : Parts) → Within r e s p → Within r e s (for_equal op p)
equal r e s Equal p h = h
equal r e s _ p h = none (cells e s)

not_equal : (r : Rule) (e : Exp) (s : ℕ) (op : Op) (p : Parts) → Within r e s p → Within r e s (for_not_equal op p)
not_equal r e s NotEqual p h = h
not_equal r e s _ p h = none (cells e s)

beside : (r : Rule) (e a b : Exp) (s : ℕ) (aim : Aim) (y z : Bool) → Within r e s (single aim a) → Within r e s (single aim b) → Within r e s (single_if aim (cond z (Some a) (cond y (Some b) None)))
beside r e a b s aim y true h i = h
beside r e a b s aim true false h i = i
beside r e a b s aim false false h i = none (cells e s)

minus : (r : Rule) (e a : Exp) (s : ℕ) (aim : Aim) (z : Bool) → Within r e s (single aim a) → Within r e s (single_if aim (cond z (Some a) None))
minus r e a s aim true h = h
minus r e a s aim false h = none (cells e s)

without : (op : Op) (a b : Exp) (s : ℕ) (m : Mode) → Within V8 (Bin op a b) s (single_if (Gets m) (without_zero op a b))
without Add a b s m = beside V8 (Bin Add a b) a b s (Gets m) (is_zero a) (is_zero b) (left (s + 2) (cells a (s + 1)) (cells b (s + 1))) (right (s + 2) (cells a (s + 1)) (cells b (s + 1)))
without Subtract a b s m = minus V8 (Bin Subtract a b) a s (Gets m) (is_zero b) (left (s + 2) (cells a (s + 1)) (cells b (s + 1)))
without op a b s m = none (cells (Bin op a b) s)

-- the forms of expression, rule by rule
value_within : (r : Rule) (m : Mode) (op : Op) (a b : Exp) (s : ℕ) → Within r (Bin op a b) s (value_parts r m op a b)
value_within V6 m op a b s = sum V6 (Bin op a b) s op _ (some V6 (Bin op a b) s (operand_of b) _ (left (s + 2) (cells a (s + 1)) (cells b (s + 1))))
value_within V7 m op a b s = sum V7 (Bin op a b) s op _ (some V7 (Bin op a b) s (operand_of a) _ (right (s + 2) (cells a (s + 1)) (cells b (s + 1))))
value_within V8 m op a b s = without op a b s m
value_within V9 m op a b s = difference V9 (Bin op a b) s op _ (some V9 (Bin op a b) s (constant_of b) _ (left (s + 2) (cells a (s + 1)) (cells b (s + 1))))
value_within V10 m op a b s = difference V10 (Bin op a b) s op _ (some V10 (Bin op a b) s (operand_of b) _ (left (s + 2) (cells a (s + 1)) (cells b (s + 1))))
value_within V11 m op a b s = difference V11 (Bin op a b) s op _ (some V11 (Bin op a b) s (operand_of a) _ (right (s + 2) (cells a (s + 1)) (cells b (s + 1))))
value_within V12 m op a b s = any V12 (Bin op a b) s m _ (whole (cells (Bin op a b) s))
value_within V13 m op a b s = any V13 (Bin op a b) s m _ (some V13 (Bin op a b) s (mirror_of op) _ (turned (s + 2) (cells a (s + 1)) (cells b (s + 1))))
value_within V14 m op a b s = any V14 (Bin op a b) s m _ (difference V14 (Bin op a b) s op _ (turned (s + 2) (cells a (s + 1)) (cells b (s + 1))))
value_within V15 m op a b s = any V15 (Bin op a b) s m _ (some V15 (Bin op a b) s (mirror_of op) _ (whole (cells (Bin op a b) s)))
value_within V16 m op a b s = any V16 (Bin op a b) s m _ (turned (s + 2) (cells a (s + 1)) (cells b (s + 1)))
value_within V17 m op a b s = any V17 (Bin op a b) s m _ (whole (cells (Bin op a b) s))
value_within V18 m op a b s = any V18 (Bin op a b) s m _ (sum V18 (Bin op a b) s op _ (whole (cells (Bin op a b) s)))
value_within V19 m op a b s = any V19 (Bin op a b) s m _ (difference V19 (Bin op a b) s op _ (whole (cells (Bin op a b) s)))
value_within _ m op a b s = none (cells (Bin op a b) s)

test_within : (r : Rule) (sense : Bool) (op : Op) (a b : Exp) (s : ℕ) → Within r (Bin op a b) s (test_parts r sense op a b)
test_within J2 sense op a b s = conjunction J2 (Bin op a b) s op _ (so J2 (Bin op a b) s (not sense) _ (whole (cells (Bin op a b) s)))
test_within J3 sense op a b s = conjunction J3 (Bin op a b) s op _ (so J3 (Bin op a b) s sense _ (whole (cells (Bin op a b) s)))
test_within J4 sense op a b s = disjunction J4 (Bin op a b) s op _ (so J4 (Bin op a b) s sense _ (whole (cells (Bin op a b) s)))
test_within J5 sense op a b s = disjunction J5 (Bin op a b) s op _ (so J5 (Bin op a b) s (not sense) _ (whole (cells (Bin op a b) s)))
test_within J8 sense op a b s = equal J8 (Bin op a b) s op _ (beside J8 (Bin op a b) a b s (Gets Any) (is_zero a) (is_zero b) (left (s + 2) (cells a (s + 1)) (cells b (s + 1))) (right (s + 2) (cells a (s + 1)) (cells b (s + 1))))
test_within J9 sense op a b s = not_equal J9 (Bin op a b) s op _ (beside J9 (Bin op a b) a b s (Gets Any) (is_zero a) (is_zero b) (left (s + 2) (cells a (s + 1)) (cells b (s + 1))) (right (s + 2) (cells a (s + 1)) (cells b (s + 1))))
test_within _ sense op a b s = none (cells (Bin op a b) s)

operator_within : (r : Rule) (aim : Aim) (op : Op) (a b : Exp) (s : ℕ) → Within r (Bin op a b) s (operator_parts r aim op a b)
operator_within r (Gets m) op a b s = value_within r m op a b s
operator_within r (Jumps sense) op a b s = test_within r sense op a b s

number_within : (r : Rule) (aim : Aim) (n s : ℕ) → Within r (Num n) s (number_parts r aim)
number_within J7 (Jumps sense) n s = none 0
number_within _ _ n s = none 0

load_within : (r : Rule) (aim : Aim) (e : Exp) (s : ℕ) → Within r (Load e) s (load_parts r aim e)
load_within V2 (Gets m) e s = unheld (cells e s)
load_within _ _ e s = none (cells e s)

neg_within : (r : Rule) (aim : Aim) (e : Exp) (s : ℕ) → Within r (Neg e) s (neg_parts r aim e)
neg_within V3 (Gets m) e s = unheld (cells e s)
neg_within _ _ e s = none (cells e s)

not_within : (r : Rule) (aim : Aim) (e : Exp) (s : ℕ) → Within r (Not e) s (not_parts r aim e)
not_within V4 (Gets m) e s = unheld (cells e s)
not_within J1 (Jumps sense) e s = unheld (cells e s)
not_within _ _ e s = none (cells e s)

cond_within : (r : Rule) (aim : Aim) (c x y : Exp) (s : ℕ) → Within r (Cond c x y) s (cond_parts r aim c x y)
cond_within V20 (Gets Any) c x y s = whole (cells (Cond c x y) s)
cond_within V21 (Gets Any) c x y s = turned (cells c s) (cells x s) (cells y s)
cond_within _ _ c x y s = none (cells (Cond c x y) s)

call_within : (r : Rule) (aim : Aim) (e : Exp) (es : _) (s : ℕ) → Within r (Call es e) s (call_parts r aim es e)
call_within V22 (Gets Any) e es s = whole (cells (Call es e) s)
call_within _ _ e es s = none (cells (Call es e) s)

valof_within : (r : Rule) (aim : Aim) (n s : ℕ) → Within r (Valof n) s (valof_parts r aim)
valof_within V22 (Gets Any) n s = none 0
valof_within _ _ n s = none 0

node_within : (r : Rule) (aim : Aim) (e : Exp) (s : ℕ) → Within r e s (node_parts r aim e)
node_within r aim (Num n) s = number_within r aim n s
node_within r aim (Frame k) s = none 0
node_within r aim (Glob n) s = none 0
node_within r aim (Place m) s = none 0
node_within r aim (Load e) s = load_within r aim e s
node_within r aim (Neg e) s = neg_within r aim e s
node_within r aim (Not e) s = not_within r aim e s
node_within r aim (Bin op a b) s = operator_within r aim op a b s
node_within r aim (Cond c x y) s = cond_within r aim c x y s
node_within r aim (Call es f) s = call_within r aim f es s
node_within r aim (Valof n) s = valof_within r aim n s

pub parts_within : (r : Rule) (aim : Aim) (e : Exp) (s : ℕ) → cells_of_parts r (parts_of r aim e) s ≤ cells e s
parts_within V0 (Gets Any) e s = unheld (cells e s)
parts_within V0 _ e s = none (cells e s)
parts_within V1 (Gets Push) e s = some V1 e s (operand_of e) (leaf false) (none (cells e s))
parts_within V1 _ e s = none (cells e s)
parts_within J6 (Jumps sense) e s = so J6 e s (is_plain e) (single (Gets Any) e) (unheld (cells e s))
parts_within J6 _ e s = none (cells e s)
parts_within r aim e s = node_within r aim e s

-- an assignment
assigned : (x : Option Operand) (v a : Exp) (s : ℕ) → operand_of a ≡ x → cells_of_sides (where_some x (single (Gets Any) v)) s ≤ cells_of_root (Assign s v a)
assigned None v a s h = none _
assigned (Some o) v a s h = rw h (omega arith)

held : (x : Option Operand) (p : Parts) (v a : Exp) (s : ℕ) → operand_of a ≡ x → cells_of_sides p s ≤ max (s + 2) (max (cells v (s + 1)) (cells a (s + 1))) → cells_of_sides (where_none x p) s ≤ cells_of_root (Assign s v a)
held None p v a s h i = rw h i
held (Some o) p v a s h i = none _

pub sides_within : (r : Rule) (v a : Exp) (s : ℕ) → cells_of_sides (assignment_parts r v a) s ≤ cells_of_root (Assign s v a)
sides_within A1 v a s = assigned (operand_of a) v a s refl
sides_within A2 v a s = held (operand_of a) _ v a s refl (turned (s + 2) (cells v (s + 1)) (cells a (s + 1)))
sides_within A3 v a s = held (operand_of a) _ v a s refl (whole _)
sides_within r v a s = none _
