-- Whether an expression contains a call or a VALOF follows from the parts of a rule.
use Rattle.std.proofs.Common.{◌≡◌, ℕ, Bool, true, false, not, cond, ◌||◌, Option, Some, None, refl, ap, sym, subst, ◌∙◌}
use Rattle.bc_word.specs.declared.operator.Op.{Op}
use Rattle.bc_word.specs.declared.operator.Op.TheVariants.{Add, Subtract, Equal, NotEqual, And, Or}
use Rattle.bc_word.specs.Mirror.{mirror_of}
use Rattle.bc_core.specs.declared.operands.Operand.{Operand}
use Rattle.bc_core.specs.Tree.{Exp, Num, Frame, Glob, Place, Load, Neg, Not, Bin, Cond, Call, Valof}
use Rattle.bc_core.specs.Operand.{operand_of, constant_of, content_of, moved, first_some}
use Rattle.bc_core.specs.Value.{has_call}
use Rattle.bc_rules_defs.specs.declared.rule.Mode.{Mode}
use Rattle.bc_rules_defs.specs.declared.rule.Mode.TheVariants.{Any, Push}
use Rattle.bc_rules_defs.specs.declared.rule.Aim.{Aim}
use Rattle.bc_rules_defs.specs.declared.rule.Aim.TheVariants.{Gets, Jumps}
use Rattle.bc_rules_defs.specs.declared.rule.Rule.{Rule}
use Rattle.bc_rules_defs.specs.declared.rule.Rule.TheVariants.{V0, V1, V2, V3, V4, V6, V7, V8, V9, V10, V11, V12, V13, V14, V15, V16, V17, V18, V19, V20, V21, V22, J1, J2, J3, J4, J5, J6, J7, J8, J9}
use Rattle.bc_rules_defs.specs.Free.{is_zero, is_plain, without_zero}
use Rattle.bc_rules_defs.specs.Parts.{Parts, no_rule, leaf, single, pair, triple, called, where_true, where_some, in_any, for_sum, for_difference, for_and, for_or, for_equal, for_not_equal, single_if, value_parts, test_parts, operator_parts, number_parts, load_parts, neg_parts, not_parts, cond_parts, call_parts, valof_parts, node_parts, parts_of}
use Rattle.bc_rules.specs.Fits.{parts_call}

-- an operand contains no call
moved_calm : (a b : Exp) (o : Operand) → moved a (constant_of b) ≡ Some o → (has_call a ≡ false) × (has_call b ≡ false)
moved_calm (Frame k) (Num n) o h = (refl, refl)
moved_calm (Glob k) (Num n) o h = (refl, refl)
moved_calm (Frame k) _ o h = cc
moved_calm (Glob k) _ o h = cc
moved_calm _ _ o h = cc

sum_calm : (a b : Exp) (o : Operand) (x y : Option Operand) → moved a (constant_of b) ≡ x → moved b (constant_of a) ≡ y → first_some x y ≡ Some o → (has_call a || has_call b) ≡ false
sum_calm a b o (Some p) y hx hy h = let c = moved_calm a b p hx in ap (λ z. z || has_call b) c.0 ∙ c.1
sum_calm a b o None (Some p) hx hy h = let c = moved_calm b a p hy in ap (λ z. z || has_call b) c.1 ∙ c.0
sum_calm a b o None None hx hy h = cc

content_some : (x : Option Operand) (o : Operand) → content_of x ≡ Some o → (p : Operand) × (x ≡ Some p)
content_some None o h = cc
content_some (Some p) o h = (p, refl)

pub operand_calm : (e : Exp) (o : Operand) → operand_of e ≡ Some o → has_call e ≡ false
operand_calm (Num n) o h = refl
operand_calm (Frame k) o h = refl
operand_calm (Glob n) o h = refl
operand_calm (Place m) o h = refl
operand_calm (Load e) o h = let p = content_some (operand_of e) o h in operand_calm e p.0 p.1
operand_calm (Bin Add a b) o h = sum_calm a b o (moved a (constant_of b)) (moved b (constant_of a)) refl refl h
operand_calm _ o h = cc

constant_calm : (e : Exp) (n : ℕ) → constant_of e ≡ Some n → has_call e ≡ false
constant_calm (Num k) n h = refl
constant_calm _ n h = cc

zero_calm : (e : Exp) → is_zero e ≡ true → has_call e ≡ false
zero_calm (Num n) h = refl
zero_calm _ h = cc

-- if a rule applies, its parts decide
abbrev pub Tells : Exp → Parts → Type 0
Tells e no_rule = Unit {0}
Tells e (leaf v) = v ≡ has_call e
Tells e (single m a) = has_call a ≡ has_call e
Tells e (pair m a n b) = (has_call a || has_call b) ≡ has_call e
Tells e (triple m c n x l y) = ((has_call c || has_call x) || has_call y) ≡ has_call e
Tells e (called i es f) = true ≡ has_call e

tell_some : {A : Type 0} (e : Exp) (x : Option A) (p : Parts) → ((y : A) → x ≡ Some y → Tells e p) → Tells e (where_some x p)
tell_some e None p h = tt
tell_some e (Some y) p h = h y refl

tell_true : (e : Exp) (b : Bool) (p : Parts) → Tells e p → Tells e (where_true b p)
tell_true e false p h = tt
tell_true e true p h = h

tell_any : (e : Exp) (m : Mode) (p : Parts) → Tells e p → Tells e (in_any m p)
tell_any e Any p h = h
tell_any e Push p h = tt

tell_sum : (e : Exp) (op : Op) (p : Parts) → Tells e p → Tells e (for_sum op p)
tell_sum e Add p h = h
tell_sum e _ p h = tt

tell_difference : (e : Exp) (op : Op) (p : Parts) → Tells e p → Tells e (for_difference op p)
tell_difference e Subtract p h = h
tell_difference e _ p h = tt

tell_and : (e : Exp) (op : Op) (p : Parts) → Tells e p → Tells e (for_and op p)
tell_and e And p h = h
tell_and e _ p h = tt

tell_or : (e : Exp) (op : Op) (p : Parts) → Tells e p → Tells e (for_or op p)
tell_or e Or p h = h
tell_or e _ p h = tt

tell_equal : (e : Exp) (op : Op) (p : Parts) → Tells e p → Tells e (for_equal op p)
tell_equal e Equal p h = h
tell_equal e _ p h = tt

tell_not_equal : (e : Exp) (op : Op) (p : Parts) → Tells e p → Tells e (for_not_equal op p)
tell_not_equal e NotEqual p h = h
tell_not_equal e _ p h = tt

left_tells : (x y : Bool) → y ≡ false → x ≡ (x || y)
left_tells true y h = refl
left_tells false y h = sym h

right_tells : (x y : Bool) → x ≡ false → y ≡ (x || y)
right_tells x y h = ap (λ z. z || y) (sym h)

swapped : (x y : Bool) → (y || x) ≡ (x || y)
swapped true true = refl
swapped true false = refl
swapped false true = refl
swapped false false = refl

beside_tells : (op : Op) (a b : Exp) (aim : Aim) (y z : Bool) → is_zero b ≡ z → is_zero a ≡ y → Tells (Bin op a b) (single_if aim (cond z (Some a) (cond y (Some b) None)))
beside_tells op a b aim y true hz hy = left_tells (has_call a) (has_call b) (zero_calm b hz)
beside_tells op a b aim true false hz hy = right_tells (has_call a) (has_call b) (zero_calm a hy)
beside_tells op a b aim false false hz hy = tt

minus_tells : (op : Op) (a b : Exp) (aim : Aim) (z : Bool) → is_zero b ≡ z → Tells (Bin op a b) (single_if aim (cond z (Some a) None))
minus_tells op a b aim true hz = left_tells (has_call a) (has_call b) (zero_calm b hz)
minus_tells op a b aim false hz = tt

zero_tells : (op : Op) (a b : Exp) (aim : Aim) → Tells (Bin op a b) (single_if aim (without_zero op a b))
zero_tells Add a b aim = beside_tells Add a b aim (is_zero a) (is_zero b) refl refl
zero_tells Subtract a b aim = minus_tells Subtract a b aim (is_zero b) refl
zero_tells _ a b aim = tt

right_operand : (op : Op) (a b : Exp) (aim : Aim) → Tells (Bin op a b) (where_some (operand_of b) (single aim a))
right_operand op a b aim = tell_some (Bin op a b) (operand_of b) (single aim a) (λ o h. left_tells (has_call a) (has_call b) (operand_calm b o h))

left_operand : (op : Op) (a b : Exp) (aim : Aim) → Tells (Bin op a b) (where_some (operand_of a) (single aim b))
left_operand op a b aim = tell_some (Bin op a b) (operand_of a) (single aim b) (λ o h. right_tells (has_call a) (has_call b) (operand_calm a o h))

value_tells : (r : Rule) (m : Mode) (op : Op) (a b : Exp) → Tells (Bin op a b) (value_parts r m op a b)
value_tells V6 m op a b = tell_sum (Bin op a b) op _ (right_operand op a b (Gets m))
value_tells V7 m op a b = tell_sum (Bin op a b) op _ (left_operand op a b (Gets m))
value_tells V8 m op a b = zero_tells op a b (Gets m)
value_tells V9 m op a b = tell_difference (Bin op a b) op _ (tell_some (Bin op a b) (constant_of b) (single (Gets m) a) (λ n h. left_tells (has_call a) (has_call b) (constant_calm b n h)))
value_tells V10 m op a b = tell_difference (Bin op a b) op _ (right_operand op a b (Gets m))
value_tells V11 m op a b = tell_difference (Bin op a b) op _ (left_operand op a b (Gets m))
value_tells V12 m op a b = tell_any (Bin op a b) m (pair (Gets Any) a (Gets Push) b) refl
value_tells V13 m op a b = tell_any (Bin op a b) m _ (tell_some (Bin op a b) (mirror_of op) (pair (Gets Any) b (Gets Push) a) (λ q h. swapped (has_call a) (has_call b)))
value_tells V14 m op a b = tell_any (Bin op a b) m _ (tell_difference (Bin op a b) op (pair (Gets Any) b (Gets Push) a) (swapped (has_call a) (has_call b)))
value_tells V15 m op a b = tell_any (Bin op a b) m _ (tell_some (Bin op a b) (mirror_of op) (pair (Gets Any) a (Gets Any) b) (λ q h. refl))
value_tells V16 m op a b = tell_any (Bin op a b) m (pair (Gets Any) b (Gets Any) a) (swapped (has_call a) (has_call b))
value_tells V17 m op a b = tell_any (Bin op a b) m (pair (Gets Any) a (Gets Any) b) refl
value_tells V18 m op a b = tell_any (Bin op a b) m _ (tell_sum (Bin op a b) op (pair (Gets Any) a (Gets Any) b) refl)
value_tells V19 m op a b = tell_any (Bin op a b) m _ (tell_difference (Bin op a b) op (pair (Gets Any) a (Gets Any) b) refl)
value_tells _ m op a b = tt

test_tells : (r : Rule) (sense : Bool) (op : Op) (a b : Exp) → Tells (Bin op a b) (test_parts r sense op a b)
test_tells J2 sense op a b = tell_and (Bin op a b) op _ (tell_true (Bin op a b) (not sense) (pair (Jumps false) a (Jumps false) b) refl)
test_tells J3 sense op a b = tell_and (Bin op a b) op _ (tell_true (Bin op a b) sense (pair (Jumps false) a (Jumps true) b) refl)
test_tells J4 sense op a b = tell_or (Bin op a b) op _ (tell_true (Bin op a b) sense (pair (Jumps true) a (Jumps true) b) refl)
test_tells J5 sense op a b = tell_or (Bin op a b) op _ (tell_true (Bin op a b) (not sense) (pair (Jumps true) a (Jumps false) b) refl)
test_tells J8 sense op a b = tell_equal (Bin op a b) op _ (beside_tells op a b (Gets Any) (is_zero a) (is_zero b) refl refl)
test_tells J9 sense op a b = tell_not_equal (Bin op a b) op _ (beside_tells op a b (Gets Any) (is_zero a) (is_zero b) refl refl)
test_tells _ sense op a b = tt

operator_tells : (r : Rule) (aim : Aim) (op : Op) (a b : Exp) → Tells (Bin op a b) (operator_parts r aim op a b)
operator_tells r (Gets m) op a b = value_tells r m op a b
operator_tells r (Jumps sense) op a b = test_tells r sense op a b

number_tells : (r : Rule) (aim : Aim) (n : ℕ) → Tells (Num n) (number_parts r aim)
number_tells J7 (Jumps sense) n = refl
number_tells _ _ n = tt

load_tells : (r : Rule) (aim : Aim) (e : Exp) → Tells (Load e) (load_parts r aim e)
load_tells V2 (Gets m) e = refl
load_tells _ _ e = tt

neg_tells : (r : Rule) (aim : Aim) (e : Exp) → Tells (Neg e) (neg_parts r aim e)
neg_tells V3 (Gets m) e = refl
neg_tells _ _ e = tt

not_tells : (r : Rule) (aim : Aim) (e : Exp) → Tells (Not e) (not_parts r aim e)
not_tells V4 (Gets m) e = refl
not_tells J1 (Jumps sense) e = refl
not_tells _ _ e = tt

turned : (c x y : Bool) → ((c || y) || x) ≡ ((c || x) || y)
turned true x y = refl
turned false x y = swapped x y

cond_tells : (r : Rule) (aim : Aim) (c x y : Exp) → Tells (Cond c x y) (cond_parts r aim c x y)
cond_tells V20 (Gets Any) c x y = refl
cond_tells V21 (Gets Any) c x y = turned (has_call c) (has_call x) (has_call y)
cond_tells _ _ c x y = tt

call_tells : (r : Rule) (aim : Aim) (e : Exp) (es : _) → Tells (Call es e) (call_parts r aim es e)
call_tells V22 (Gets Any) e es = refl
call_tells _ _ e es = tt

valof_tells : (r : Rule) (aim : Aim) (n : ℕ) → Tells (Valof n) (valof_parts r aim)
valof_tells V22 (Gets Any) n = refl
valof_tells _ _ n = tt

node_tells : (r : Rule) (aim : Aim) (e : Exp) → Tells e (node_parts r aim e)
node_tells r aim (Num n) = number_tells r aim n
node_tells r aim (Frame k) = tt
node_tells r aim (Glob n) = tt
node_tells r aim (Place m) = tt
node_tells r aim (Load e) = load_tells r aim e
node_tells r aim (Neg e) = neg_tells r aim e
node_tells r aim (Not e) = not_tells r aim e
node_tells r aim (Bin op a b) = operator_tells r aim op a b
node_tells r aim (Cond c x y) = cond_tells r aim c x y
node_tells r aim (Call es f) = call_tells r aim f es
node_tells r aim (Valof n) = valof_tells r aim n

pub parts_tell : (r : Rule) (aim : Aim) (e : Exp) → Tells e (parts_of r aim e)
parts_tell V0 (Gets Any) e = refl
parts_tell V0 _ e = tt
parts_tell V1 (Gets Push) e = tell_some e (operand_of e) (leaf false) (λ o h. sym (operand_calm e o h))
parts_tell V1 _ e = tt
parts_tell J6 (Jumps sense) e = tell_true e (is_plain e) (single (Gets Any) e) refl
parts_tell J6 _ e = tt
parts_tell r aim e = node_tells r aim e

tells_call : (e : Exp) (p : Parts) → (p ≡ no_rule → ⊥) → Tells e p → parts_call p ≡ has_call e
tells_call e no_rule f h = absurd (f refl)
tells_call e (leaf v) f h = h
tells_call e (single m a) f h = h
tells_call e (pair m a n b) f h = h
tells_call e (triple m c n x l y) f h = h
tells_call e (called i es g) f h = h

pub whole_call : (r : Rule) (aim : Aim) (e : Exp) → (parts_of r aim e ≡ no_rule → ⊥) → parts_call (parts_of r aim e) ≡ has_call e
whole_call r aim e f = tells_call e (parts_of r aim e) f (parts_tell r aim e)

-- a rule without parts applies: the expression contains a call or VALOF exactly if it is a VALOF
pub leaf_calls : (r : Rule) (aim : Aim) (e : Exp) (v : Bool) → leaf v ≡ parts_of r aim e → v ≡ has_call e
leaf_calls r aim e v h = subst (λ p. Tells e p) (sym h) (parts_tell r aim e)
