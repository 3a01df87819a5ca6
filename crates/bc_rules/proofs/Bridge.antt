-- A tree of rule names fits exactly if it is the shape of a derivation.
use Rattle.std.proofs.Common.{◌≡◌, ℕ, ◌+◌, Bool, true, false, not, ◌&&◌, ◌||◌, ◌↔◌, Option, Some, None, refl, sym, ap, ◌∙◌, IsTrue}
use Rattle.bc_word.specs.declared.operator.Op.{Op}
use Rattle.bc_word.specs.declared.operator.Op.TheVariants.{Add, Subtract, Equal, NotEqual, And, Or}
use Rattle.bc_word.specs.Mirror.{mirror_of}
use Rattle.bc_core.specs.declared.operands.Operand.{Operand}
use Rattle.bc_core.specs.Tree.{Exp, Num, Frame, Glob, Place, Load, Neg, Not, Bin, Cond, Call, Valof, Args, no_argument, argument, Root, Value, Test, Assign}
use Rattle.bc_core.specs.Operand.{operand_of, constant_of}
use Rattle.bc_core.specs.Value.{has_call}
use Rattle.bc_rules_defs.specs.declared.rule.Table.{Table}
use Rattle.bc_rules_defs.specs.declared.rule.Table.TheVariants.{One, Two}
use Rattle.bc_rules_defs.specs.declared.rule.Mode.{Mode}
use Rattle.bc_rules_defs.specs.declared.rule.Mode.TheVariants.{Any, Push}
use Rattle.bc_rules_defs.specs.declared.rule.Aim.{Aim}
use Rattle.bc_rules_defs.specs.declared.rule.Aim.TheVariants.{Gets, Jumps}
use Rattle.bc_rules_defs.specs.declared.rule.Rule.{Rule}
use Rattle.bc_rules_defs.specs.declared.rule.Rule.TheVariants.{V0, V1, V2, V3, V4, V6, V7, V8, V9, V10, V11, V12, V13, V14, V15, V16, V17, V18, V19, V20, V21, V22, J1, J2, J3, J4, J5, J6, J7, J8, J9, A1, A2, A3}
use Rattle.bc_rules_defs.specs.Free.{are_free, is_direct, is_plain, beside_zero, without_zero}
use Rattle.bc_rules_defs.specs.Rules.{Derives, v0, v1, v2, v3, v4, v6, v7, v8, v9, v10, v11, v12, v13, v14, v15, v16, v17, v18, v19, v20, v21, v22, v22_valof, j1, j2, j3, j4, j5, j6, j7, j8, j9, DerivesAll, no_more, one_more, RootDerives, value, test, a1, a2, a3, Tree, Trees, by, no_part, part, one, two, three, end_with, shape, shapes, root_shape}
use Rattle.bc_rules_defs.specs.Parts.{Parts, no_rule, leaf, single, pair, triple, called, where_true, where_some, where_none, in_any, for_sum, for_difference, for_and, for_or, for_equal, for_not_equal, single_if, value_parts, test_parts, number_parts, load_parts, neg_parts, not_parts, cond_parts, call_parts, valof_parts, node_parts, parts_of, assignment_parts}
use Rattle.bc_rules.specs.Derivation.{IsDerivation}
use Rattle.bc_rules.specs.Fits.{is_two, in_table, may_turn, fits, parts_fit, sides_free, root_fits}

both_true : (a b : Bool) → a ≡ true → b ≡ true → (a && b) ≡ true
both_true true b h i = i
both_true false b h i = h

left_true : (a b : Bool) → (a && b) ≡ true → a ≡ true
left_true true b h = refl
left_true false b h = h

right_true : (a b : Bool) → (a && b) ≡ true → b ≡ true
right_true true b h = h
right_true false b h = cc

-- free operands, by the definition and in the form that the rules use
to_turn : (x y z : Bool) → (not x || y || z) ≡ true → (not x || (y || z)) ≡ true
to_turn false y z h = refl
to_turn true true z h = refl
to_turn true false z h = h

to_free : (x y z : Bool) → (not x || (y || z)) ≡ true → (not x || y || z) ≡ true
to_free false y z h = refl
to_free true true z h = refl
to_free true false z h = h

turned : (a b : Exp) → are_free a b ≡ true → (not (has_call a || has_call b) || (is_direct a || is_direct b)) ≡ true
turned a b h = to_turn (has_call a || has_call b) (is_direct a) (is_direct b) h

freed : (a b : Exp) → (not (has_call a || has_call b) || (is_direct a || is_direct b)) ≡ true → are_free a b ≡ true
freed a b h = to_free (has_call a || has_call b) (is_direct a) (is_direct b) h

-- a derivation's shape fits
rule_fits : (T : Table) (r : Rule) (aim : Aim) (e : Exp) (ds : Trees) (p : Parts) → in_table T r ≡ true → may_turn r e ≡ true → parts_of r aim e ≡ p → parts_fit T p ds ≡ true → fits T (by r ds) aim e ≡ true
rule_fits T r aim e ds p h i hp k = both_true (in_table T r) _ h (both_true (may_turn r e) _ i (ap (λ q. parts_fit T q ds) hp ∙ k))

some_of : {A : Type 0} (x : Option A) (y : A) (p : Parts) → x ≡ Some y → where_some x p ≡ p
some_of x y p h = ap (λ z. where_some z p) h

none_of : {A : Type 0} (x : Option A) (p : Parts) → x ≡ None → where_none x p ≡ p
none_of x p h = ap (λ z. where_none z p) h

true_of : (b : Bool) (p : Parts) → b ≡ true → where_true b p ≡ p
true_of b p h = ap (λ z. where_true z p) h

mutual
  pub shape_fits : {T : Table} {e : Exp} {aim : Aim} (d : Derives T e aim) → fits T (shape d) aim e ≡ true
  shape_fits {T = T} (v0 {e = e} d) = rule_fits T V0 (Gets Any) e (one (shape d)) (single (Gets Push) e) refl refl refl (shape_fits d)
  shape_fits {T = T} (v1 {e = e} {o = o} h) = rule_fits T V1 (Gets Push) e no_part (leaf false) refl refl (some_of (operand_of e) o _ h) refl
  shape_fits {T = T} (v2 {e = e} {m = m} d) = rule_fits T V2 (Gets m) (Load e) (one (shape d)) (single (Gets m) e) refl refl refl (shape_fits d)
  shape_fits {T = T} (v3 {e = e} {m = m} d) = rule_fits T V3 (Gets m) (Neg e) (one (shape d)) (single (Gets m) e) refl refl refl (shape_fits d)
  shape_fits {T = T} (v4 {e = e} {m = m} d) = rule_fits T V4 (Gets m) (Not e) (one (shape d)) (single (Gets m) e) refl refl refl (shape_fits d)
  shape_fits {T = T} (v6 {a = a} {b = b} {m = m} {o = o} h d) = rule_fits T V6 (Gets m) (Bin Add a b) (one (shape d)) (single (Gets m) a) refl refl (some_of (operand_of b) o _ h) (shape_fits d)
  shape_fits {T = T} (v7 {a = a} {b = b} {m = m} {o = o} h free d) = rule_fits T V7 (Gets m) (Bin Add a b) (one (shape d)) (single (Gets m) b) refl (turned a b free) (some_of (operand_of a) o _ h) (shape_fits d)
  shape_fits {T = T} (v8 {op = op} {a = a} {b = b} {c = c} {m = m} h d) = rule_fits T V8 (Gets m) (Bin op a b) (one (shape d)) (single (Gets m) c) refl refl (ap (single_if (Gets m)) h) (shape_fits d)
  shape_fits {T = T} (v9 {a = a} {n = n} {m = m} d) = rule_fits T V9 (Gets m) (Bin Subtract a (Num n)) (one (shape d)) (single (Gets m) a) refl refl refl (shape_fits d)
  shape_fits {T = T} (v10 {a = a} {b = b} {m = m} {o = o} h d) = rule_fits T V10 (Gets m) (Bin Subtract a b) (one (shape d)) (single (Gets m) a) refl refl (some_of (operand_of b) o _ h) (shape_fits d)
  shape_fits {T = T} (v11 {a = a} {b = b} {m = m} {o = o} h free d) = rule_fits T V11 (Gets m) (Bin Subtract a b) (one (shape d)) (single (Gets m) b) refl (turned a b free) (some_of (operand_of a) o _ h) (shape_fits d)
  shape_fits {T = T} (v12 {op = op} {a = a} {b = b} x y) = rule_fits T V12 (Gets Any) (Bin op a b) (two (shape x) (shape y)) (pair (Gets Any) a (Gets Push) b) refl refl refl (both_true (fits T (shape x) (Gets Any) a) _ (shape_fits x) (shape_fits y))
  shape_fits {T = T} (v13 {op = op} {q = q} {a = a} {b = b} h free x y) = rule_fits T V13 (Gets Any) (Bin op a b) (two (shape x) (shape y)) (pair (Gets Any) b (Gets Push) a) refl (turned a b free) (some_of (mirror_of op) q _ h) (both_true (fits T (shape x) (Gets Any) b) _ (shape_fits x) (shape_fits y))
  shape_fits {T = T} (v14 {a = a} {b = b} free x y) = rule_fits T V14 (Gets Any) (Bin Subtract a b) (two (shape x) (shape y)) (pair (Gets Any) b (Gets Push) a) refl (turned a b free) refl (both_true (fits T (shape x) (Gets Any) b) _ (shape_fits x) (shape_fits y))
  shape_fits {T = T} (v15 {op = op} {q = q} {a = a} {b = b} h x y) = rule_fits T V15 (Gets Any) (Bin op a b) (two (shape x) (shape y)) (pair (Gets Any) a (Gets Any) b) refl refl (some_of (mirror_of op) q _ h) (both_true (fits T (shape x) (Gets Any) a) _ (shape_fits x) (shape_fits y))
  shape_fits {T = T} (v16 {op = op} {a = a} {b = b} free x y) = rule_fits T V16 (Gets Any) (Bin op a b) (two (shape x) (shape y)) (pair (Gets Any) b (Gets Any) a) refl (turned a b free) refl (both_true (fits T (shape x) (Gets Any) b) _ (shape_fits x) (shape_fits y))
  shape_fits {T = T} (v17 {op = op} {a = a} {b = b} x y) = rule_fits T V17 (Gets Any) (Bin op a b) (two (shape x) (shape y)) (pair (Gets Any) a (Gets Any) b) refl refl refl (both_true (fits T (shape x) (Gets Any) a) _ (shape_fits x) (shape_fits y))
  shape_fits {T = T} (v18 {a = a} {b = b} x y) = rule_fits T V18 (Gets Any) (Bin Add a b) (two (shape x) (shape y)) (pair (Gets Any) a (Gets Any) b) refl refl refl (both_true (fits T (shape x) (Gets Any) a) _ (shape_fits x) (shape_fits y))
  shape_fits {T = T} (v19 {a = a} {b = b} x y) = rule_fits T V19 (Gets Any) (Bin Subtract a b) (two (shape x) (shape y)) (pair (Gets Any) a (Gets Any) b) refl refl refl (both_true (fits T (shape x) (Gets Any) a) _ (shape_fits x) (shape_fits y))
  shape_fits {T = T} (v20 {c = c} {x = x} {y = y} d g h) = rule_fits T V20 (Gets Any) (Cond c x y) (three (shape d) (shape g) (shape h)) (triple (Jumps false) c (Gets Any) x (Gets Any) y) refl refl refl (both_true (fits T (shape d) (Jumps false) c) _ (shape_fits d) (both_true (fits T (shape g) (Gets Any) x) _ (shape_fits g) (shape_fits h)))
  shape_fits {T = T} (v21 {c = c} {x = x} {y = y} d g h) = rule_fits T V21 (Gets Any) (Cond c x y) (three (shape d) (shape g) (shape h)) (triple (Jumps true) c (Gets Any) y (Gets Any) x) refl refl refl (both_true (fits T (shape d) (Jumps true) c) _ (shape_fits d) (both_true (fits T (shape g) (Gets Any) y) _ (shape_fits g) (shape_fits h)))
  shape_fits {T = T} (v22 {es = es} {f = f} ds d) = rule_fits T V22 (Gets Any) (Call es f) (end_with (shapes ds) (shape d)) (called 0 es f) refl refl refl (shapes_fit ds 0 f (shape d) (shape_fits d))
  shape_fits v22_valof = refl
  shape_fits {T = T} (j1 {e = e} {sense = sense} d) = rule_fits T J1 (Jumps sense) (Not e) (one (shape d)) (single (Jumps (not sense)) e) refl refl refl (shape_fits d)
  shape_fits {T = T} (j2 {a = a} {b = b} x y) = rule_fits T J2 (Jumps false) (Bin And a b) (two (shape x) (shape y)) (pair (Jumps false) a (Jumps false) b) refl refl refl (both_true (fits T (shape x) (Jumps false) a) _ (shape_fits x) (shape_fits y))
  shape_fits {T = T} (j3 {a = a} {b = b} x y) = rule_fits T J3 (Jumps true) (Bin And a b) (two (shape x) (shape y)) (pair (Jumps false) a (Jumps true) b) refl refl refl (both_true (fits T (shape x) (Jumps false) a) _ (shape_fits x) (shape_fits y))
  shape_fits {T = T} (j4 {a = a} {b = b} x y) = rule_fits T J4 (Jumps true) (Bin Or a b) (two (shape x) (shape y)) (pair (Jumps true) a (Jumps true) b) refl refl refl (both_true (fits T (shape x) (Jumps true) a) _ (shape_fits x) (shape_fits y))
  shape_fits {T = T} (j5 {a = a} {b = b} x y) = rule_fits T J5 (Jumps false) (Bin Or a b) (two (shape x) (shape y)) (pair (Jumps true) a (Jumps false) b) refl refl refl (both_true (fits T (shape x) (Jumps true) a) _ (shape_fits x) (shape_fits y))
  shape_fits {T = T} (j6 {e = e} {sense = sense} h d) = rule_fits T J6 (Jumps sense) e (one (shape d)) (single (Gets Any) e) refl refl (true_of (is_plain e) _ h) (shape_fits d)
  shape_fits j7 = refl
  shape_fits {T = T} (j8 {a = a} {b = b} {c = c} {sense = sense} k h d) = rule_fits T J8 (Jumps sense) (Bin Equal a b) (one (shape d)) (single (Gets Any) c) (ap is_two k) refl (ap (single_if (Gets Any)) h) (shape_fits d)
  shape_fits {T = T} (j9 {a = a} {b = b} {c = c} {sense = sense} k h d) = rule_fits T J9 (Jumps sense) (Bin NotEqual a b) (one (shape d)) (single (Gets Any) c) (ap is_two k) refl (ap (single_if (Gets Any)) h) (shape_fits d)

  shapes_fit : {T : Table} {es : Args} (ds : DerivesAll T es) (i : ℕ) (f : Exp) (x : Tree) → fits T x (Gets Any) f ≡ true → parts_fit T (called i es f) (end_with (shapes ds) x) ≡ true
  shapes_fit no_more i f x h = h
  shapes_fit {T = T} (one_more {e = e} d ds) i f x h = both_true (fits T (shape d) (Gets Any) e) _ (shape_fits d) (shapes_fit ds (i + 1) f x h)

-- a derivation of this shape
abbrev pub Found : Table → Exp → Aim → Tree → Type 0
Found T e aim x = (d : Derives T e aim) × (shape d ≡ x)

abbrev Fitting : Table → Parts → Trees → Type 0
Fitting T (leaf v) no_part = Unit {0}
Fitting T (single m a) (part d no_part) = Found T a m d
Fitting T (pair m a n b) (part d (part c no_part)) = Found T a m d × Found T b n c
Fitting T (triple m h n x l y) (part d (part c (part g no_part))) = Found T h m d × Found T x n c × Found T y l g
Fitting T (called i no_argument e) (part d no_part) = Found T e (Gets Any) d
Fitting T (called i (argument a es) e) (part d ds) = Found T a (Gets Any) d × Fitting T (called (i + 1) es e) ds
Fitting T p ds = ⊥

-- each rule's parts make a derivation
single_found : (T : Table) (e a : Exp) (aim m : Aim) (r : Rule) (ds : Trees) (f : Derives T a m → Derives T e aim) → ((d : Derives T a m) → shape (f d) ≡ by r (one (shape d))) → Fitting T (single m a) ds → Found T e aim (by r ds)
single_found T e a aim m r no_part f w h = absurd h
single_found T e a aim m r (part d no_part) f w h = (f h.0, w h.0 ∙ ap (λ x. by r (one x)) h.1)
single_found T e a aim m r (part d (part c ds)) f w h = absurd h

pair_found : (T : Table) (e a b : Exp) (aim m n : Aim) (r : Rule) (ds : Trees) (f : Derives T a m → Derives T b n → Derives T e aim) → ((d : Derives T a m) (c : Derives T b n) → shape (f d c) ≡ by r (two (shape d) (shape c))) → Fitting T (pair m a n b) ds → Found T e aim (by r ds)
pair_found T e a b aim m n r no_part f w h = absurd h
pair_found T e a b aim m n r (part d no_part) f w h = absurd h
pair_found T e a b aim m n r (part d (part c no_part)) f w h = (f h.0.0 h.1.0, w h.0.0 h.1.0 ∙ ap (λ x. by r (two x (shape h.1.0))) h.0.1 ∙ ap (λ y. by r (two d y)) h.1.1)
pair_found T e a b aim m n r (part d (part c (part g ds))) f w h = absurd h

triple_found : (T : Table) (e a b c : Exp) (aim m n l : Aim) (r : Rule) (ds : Trees) (f : Derives T a m → Derives T b n → Derives T c l → Derives T e aim) → ((x : Derives T a m) (y : Derives T b n) (z : Derives T c l) → shape (f x y z) ≡ by r (three (shape x) (shape y) (shape z))) → Fitting T (triple m a n b l c) ds → Found T e aim (by r ds)
triple_found T e a b c aim m n l r no_part f w h = absurd h
triple_found T e a b c aim m n l r (part d no_part) f w h = absurd h
triple_found T e a b c aim m n l r (part d (part g no_part)) f w h = absurd h
triple_found T e a b c aim m n l r (part d (part g (part k no_part))) f w h =
    (f h.0.0 h.1.0 h.2.0, w h.0.0 h.1.0 h.2.0 ∙ ap (λ x. by r (three x (shape h.1.0) (shape h.2.0))) h.0.1 ∙ ap (λ y. by r (three d y (shape h.2.0))) h.1.1 ∙ ap (λ z. by r (three d g z)) h.2.1)
triple_found T e a b c aim m n l r (part d (part g (part k (part j ds)))) f w h = absurd h

call_found : (T : Table) (es : Args) (f : Exp) (i : ℕ) (ds : Trees) → Fitting T (called i es f) ds → (p : DerivesAll T es × Derives T f (Gets Any)) × (end_with (shapes p.0) (shape p.1) ≡ ds)
call_found T no_argument f i no_part h = absurd h
call_found T no_argument f i (part d no_part) h = ((no_more, h.0), ap one h.1)
call_found T no_argument f i (part d (part c ds)) h = absurd h
call_found T (argument a es) f i no_part h = absurd h
call_found T (argument a es) f i (part d ds) h =
    let r = call_found T es f (i + 1) ds h.1 in
    ((one_more h.0.0 r.0.0, r.0.1), ap (λ x. part x (end_with (shapes r.0.0) (shape r.0.1))) h.0.1 ∙ ap (part d) r.1)

-- if a rule's condition holds
with_some : {A : Type 0} (T : Table) (x : Option A) (p : Parts) (ds : Trees) (X : Type 0) → ((y : A) → x ≡ Some y → Fitting T p ds → X) → Fitting T (where_some x p) ds → X
with_some T None p ds X k h = absurd h
with_some T (Some y) p ds X k h = k y refl h

with_single : (T : Table) (aim : Aim) (x : Option Exp) (ds : Trees) (X : Type 0) → ((c : Exp) → x ≡ Some c → Fitting T (single aim c) ds → X) → Fitting T (single_if aim x) ds → X
with_single T aim None ds X k h = absurd h
with_single T aim (Some c) ds X k h = k c refl h

with_true : (T : Table) (b : Bool) (p : Parts) (ds : Trees) (X : Type 0) → (b ≡ true → Fitting T p ds → X) → Fitting T (where_true b p) ds → X
with_true T false p ds X k h = absurd h
with_true T true p ds X k h = k refl h

with_sense : (T : Table) (sense : Bool) (p : Parts) (ds : Trees) (X : Bool → Type 0) → (Fitting T p ds → X true) → Fitting T (where_true sense p) ds → X sense
with_sense T false p ds X k h = absurd h
with_sense T true p ds X k h = k h

with_other : (T : Table) (sense : Bool) (p : Parts) (ds : Trees) (X : Bool → Type 0) → (Fitting T p ds → X false) → Fitting T (where_true (not sense) p) ds → X sense
with_other T true p ds X k h = absurd h
with_other T false p ds X k h = k h

with_any : (T : Table) (m : Mode) (p : Parts) (ds : Trees) (X : Mode → Type 0) → (Fitting T p ds → X Any) → Fitting T (in_any m p) ds → X m
with_any T Any p ds X k h = k h
with_any T Push p ds X k h = absurd h

with_sum : (T : Table) (op : Op) (p : Parts) (ds : Trees) (X : Op → Type 0) → (Fitting T p ds → X Add) → Fitting T (for_sum op p) ds → X op
with_sum T Add p ds X k h = k h
with_sum T _ p ds X k h = absurd h

with_difference : (T : Table) (op : Op) (p : Parts) (ds : Trees) (X : Op → Type 0) → (Fitting T p ds → X Subtract) → Fitting T (for_difference op p) ds → X op
with_difference T Subtract p ds X k h = k h
with_difference T _ p ds X k h = absurd h

with_and : (T : Table) (op : Op) (p : Parts) (ds : Trees) (X : Op → Type 0) → (Fitting T p ds → X And) → Fitting T (for_and op p) ds → X op
with_and T And p ds X k h = k h
with_and T _ p ds X k h = absurd h

with_or : (T : Table) (op : Op) (p : Parts) (ds : Trees) (X : Op → Type 0) → (Fitting T p ds → X Or) → Fitting T (for_or op p) ds → X op
with_or T Or p ds X k h = k h
with_or T _ p ds X k h = absurd h

with_equal : (T : Table) (op : Op) (p : Parts) (ds : Trees) (X : Op → Type 0) → (Fitting T p ds → X Equal) → Fitting T (for_equal op p) ds → X op
with_equal T Equal p ds X k h = k h
with_equal T _ p ds X k h = absurd h

with_not_equal : (T : Table) (op : Op) (p : Parts) (ds : Trees) (X : Op → Type 0) → (Fitting T p ds → X NotEqual) → Fitting T (for_not_equal op p) ds → X op
with_not_equal T NotEqual p ds X k h = k h
with_not_equal T _ p ds X k h = absurd h

-- the parts of a rule, the table and free operands make a derivation
number_found : (T : Table) (m : Mode) (a b : Exp) (ds : Trees) → Fitting T (where_some (constant_of b) (single (Gets m) a)) ds → Found T (Bin Subtract a b) (Gets m) (by V9 ds)
number_found T m a (Num n) ds h = single_found T (Bin Subtract a (Num n)) a (Gets m) (Gets m) V9 ds (λ d. v9 d) (λ d. refl) h
number_found T m a _ ds h = absurd h

minus_found : (T : Table) (m : Mode) (op : Op) (a b : Exp) (ds : Trees) → Fitting T (for_difference op (where_some (constant_of b) (single (Gets m) a))) ds → Found T (Bin op a b) (Gets m) (by V9 ds)
minus_found T m op a b ds h = with_difference T op _ ds (λ z. Found T (Bin z a b) (Gets m) (by V9 ds)) (λ i. number_found T m a b ds i) h

value_found : (T : Table) (r : Rule) (m : Mode) (op : Op) (a b : Exp) (ds : Trees) → may_turn r (Bin op a b) ≡ true → Fitting T (value_parts r m op a b) ds → Found T (Bin op a b) (Gets m) (by r ds)
value_found T V6 m op a b ds t h = with_sum T op _ ds (λ z. Found T (Bin z a b) (Gets m) (by V6 ds)) (λ i. with_some T (operand_of b) _ ds _ (λ o e j. single_found T (Bin Add a b) a (Gets m) (Gets m) V6 ds (λ d. v6 e d) (λ d. refl) j) i) h
value_found T V7 m op a b ds t h = with_sum T op _ ds (λ z. Found T (Bin z a b) (Gets m) (by V7 ds)) (λ i. with_some T (operand_of a) _ ds _ (λ o e j. single_found T (Bin Add a b) b (Gets m) (Gets m) V7 ds (λ d. v7 e (freed a b t) d) (λ d. refl) j) i) h
value_found T V8 m op a b ds t h = with_single T (Gets m) (without_zero op a b) ds _ (λ c e j. single_found T (Bin op a b) c (Gets m) (Gets m) V8 ds (λ d. v8 e d) (λ d. refl) j) h
value_found T V9 m op a b ds t h = minus_found T m op a b ds h
value_found T V10 m op a b ds t h = with_difference T op _ ds (λ z. Found T (Bin z a b) (Gets m) (by V10 ds)) (λ i. with_some T (operand_of b) _ ds _ (λ o e j. single_found T (Bin Subtract a b) a (Gets m) (Gets m) V10 ds (λ d. v10 e d) (λ d. refl) j) i) h
value_found T V11 m op a b ds t h = with_difference T op _ ds (λ z. Found T (Bin z a b) (Gets m) (by V11 ds)) (λ i. with_some T (operand_of a) _ ds _ (λ o e j. single_found T (Bin Subtract a b) b (Gets m) (Gets m) V11 ds (λ d. v11 e (freed a b t) d) (λ d. refl) j) i) h
value_found T V12 m op a b ds t h = with_any T m _ ds (λ z. Found T (Bin op a b) (Gets z) (by V12 ds)) (λ i. pair_found T (Bin op a b) a b (Gets Any) (Gets Any) (Gets Push) V12 ds (λ d c. v12 d c) (λ d c. refl) i) h
value_found T V13 m op a b ds t h = with_any T m _ ds (λ z. Found T (Bin op a b) (Gets z) (by V13 ds)) (λ i. with_some T (mirror_of op) _ ds _ (λ q e j. pair_found T (Bin op a b) b a (Gets Any) (Gets Any) (Gets Push) V13 ds (λ d c. v13 e (freed a b t) d c) (λ d c. refl) j) i) h
value_found T V14 m op a b ds t h = with_any T m _ ds (λ z. Found T (Bin op a b) (Gets z) (by V14 ds)) (λ i. with_difference T op _ ds (λ z. Found T (Bin z a b) (Gets Any) (by V14 ds)) (λ j. pair_found T (Bin Subtract a b) b a (Gets Any) (Gets Any) (Gets Push) V14 ds (λ d c. v14 (freed a b t) d c) (λ d c. refl) j) i) h
value_found T V15 m op a b ds t h = with_any T m _ ds (λ z. Found T (Bin op a b) (Gets z) (by V15 ds)) (λ i. with_some T (mirror_of op) _ ds _ (λ q e j. pair_found T (Bin op a b) a b (Gets Any) (Gets Any) (Gets Any) V15 ds (λ d c. v15 e d c) (λ d c. refl) j) i) h
value_found T V16 m op a b ds t h = with_any T m _ ds (λ z. Found T (Bin op a b) (Gets z) (by V16 ds)) (λ i. pair_found T (Bin op a b) b a (Gets Any) (Gets Any) (Gets Any) V16 ds (λ d c. v16 (freed a b t) d c) (λ d c. refl) i) h
value_found T V17 m op a b ds t h = with_any T m _ ds (λ z. Found T (Bin op a b) (Gets z) (by V17 ds)) (λ i. pair_found T (Bin op a b) a b (Gets Any) (Gets Any) (Gets Any) V17 ds (λ d c. v17 d c) (λ d c. refl) i) h
value_found T V18 m op a b ds t h = with_any T m _ ds (λ z. Found T (Bin op a b) (Gets z) (by V18 ds)) (λ i. with_sum T op _ ds (λ z. Found T (Bin z a b) (Gets Any) (by V18 ds)) (λ j. pair_found T (Bin Add a b) a b (Gets Any) (Gets Any) (Gets Any) V18 ds (λ d c. v18 d c) (λ d c. refl) j) i) h
value_found T V19 m op a b ds t h = with_any T m _ ds (λ z. Found T (Bin op a b) (Gets z) (by V19 ds)) (λ i. with_difference T op _ ds (λ z. Found T (Bin z a b) (Gets Any) (by V19 ds)) (λ j. pair_found T (Bin Subtract a b) a b (Gets Any) (Gets Any) (Gets Any) V19 ds (λ d c. v19 d c) (λ d c. refl) j) i) h
value_found T _ m op a b ds t h = absurd h

table_two : (T : Table) → is_two T ≡ true → T ≡ Two
table_two One h = cc
table_two Two h = refl

test_found : (T : Table) (r : Rule) (sense : Bool) (op : Op) (a b : Exp) (ds : Trees) → in_table T r ≡ true → Fitting T (test_parts r sense op a b) ds → Found T (Bin op a b) (Jumps sense) (by r ds)
test_found T J2 sense op a b ds t h = with_and T op _ ds (λ z. Found T (Bin z a b) (Jumps sense) (by J2 ds)) (λ i. with_other T sense _ ds (λ z. Found T (Bin And a b) (Jumps z) (by J2 ds)) (λ j. pair_found T (Bin And a b) a b (Jumps false) (Jumps false) (Jumps false) J2 ds (λ d c. j2 d c) (λ d c. refl) j) i) h
test_found T J3 sense op a b ds t h = with_and T op _ ds (λ z. Found T (Bin z a b) (Jumps sense) (by J3 ds)) (λ i. with_sense T sense _ ds (λ z. Found T (Bin And a b) (Jumps z) (by J3 ds)) (λ j. pair_found T (Bin And a b) a b (Jumps true) (Jumps false) (Jumps true) J3 ds (λ d c. j3 d c) (λ d c. refl) j) i) h
test_found T J4 sense op a b ds t h = with_or T op _ ds (λ z. Found T (Bin z a b) (Jumps sense) (by J4 ds)) (λ i. with_sense T sense _ ds (λ z. Found T (Bin Or a b) (Jumps z) (by J4 ds)) (λ j. pair_found T (Bin Or a b) a b (Jumps true) (Jumps true) (Jumps true) J4 ds (λ d c. j4 d c) (λ d c. refl) j) i) h
test_found T J5 sense op a b ds t h = with_or T op _ ds (λ z. Found T (Bin z a b) (Jumps sense) (by J5 ds)) (λ i. with_other T sense _ ds (λ z. Found T (Bin Or a b) (Jumps z) (by J5 ds)) (λ j. pair_found T (Bin Or a b) a b (Jumps false) (Jumps true) (Jumps false) J5 ds (λ d c. j5 d c) (λ d c. refl) j) i) h
test_found T J8 sense op a b ds t h = with_equal T op _ ds (λ z. Found T (Bin z a b) (Jumps sense) (by J8 ds)) (λ i. with_single T (Gets Any) (beside_zero a b) ds _ (λ c e j. single_found T (Bin Equal a b) c (Jumps sense) (Gets Any) J8 ds (λ d. j8 (table_two T t) e d) (λ d. refl) j) i) h
test_found T J9 sense op a b ds t h = with_not_equal T op _ ds (λ z. Found T (Bin z a b) (Jumps sense) (by J9 ds)) (λ i. with_single T (Gets Any) (beside_zero a b) ds _ (λ c e j. single_found T (Bin NotEqual a b) c (Jumps sense) (Gets Any) J9 ds (λ d. j9 (table_two T t) e d) (λ d. refl) j) i) h
test_found T _ sense op a b ds t h = absurd h

number_rule : (T : Table) (r : Rule) (aim : Aim) (n : ℕ) (ds : Trees) → Fitting T (number_parts r aim) ds → Found T (Num n) aim (by r ds)
number_rule T J7 (Jumps sense) n no_part h = (j7, refl)
number_rule T J7 (Jumps sense) n (part d ds) h = absurd h
number_rule T _ _ n ds h = absurd h

load_rule : (T : Table) (r : Rule) (aim : Aim) (e : Exp) (ds : Trees) → Fitting T (load_parts r aim e) ds → Found T (Load e) aim (by r ds)
load_rule T V2 (Gets m) e ds h = single_found T (Load e) e (Gets m) (Gets m) V2 ds (λ d. v2 d) (λ d. refl) h
load_rule T _ _ e ds h = absurd h

neg_rule : (T : Table) (r : Rule) (aim : Aim) (e : Exp) (ds : Trees) → Fitting T (neg_parts r aim e) ds → Found T (Neg e) aim (by r ds)
neg_rule T V3 (Gets m) e ds h = single_found T (Neg e) e (Gets m) (Gets m) V3 ds (λ d. v3 d) (λ d. refl) h
neg_rule T _ _ e ds h = absurd h

not_rule : (T : Table) (r : Rule) (aim : Aim) (e : Exp) (ds : Trees) → Fitting T (not_parts r aim e) ds → Found T (Not e) aim (by r ds)
not_rule T V4 (Gets m) e ds h = single_found T (Not e) e (Gets m) (Gets m) V4 ds (λ d. v4 d) (λ d. refl) h
not_rule T J1 (Jumps sense) e ds h = single_found T (Not e) e (Jumps sense) (Jumps (not sense)) J1 ds (λ d. j1 d) (λ d. refl) h
not_rule T _ _ e ds h = absurd h

cond_rule : (T : Table) (r : Rule) (aim : Aim) (c x y : Exp) (ds : Trees) → Fitting T (cond_parts r aim c x y) ds → Found T (Cond c x y) aim (by r ds)
cond_rule T V20 (Gets Any) c x y ds h = triple_found T (Cond c x y) c x y (Gets Any) (Jumps false) (Gets Any) (Gets Any) V20 ds (λ d g k. v20 d g k) (λ d g k. refl) h
cond_rule T V21 (Gets Any) c x y ds h = triple_found T (Cond c x y) c y x (Gets Any) (Jumps true) (Gets Any) (Gets Any) V21 ds (λ d g k. v21 d g k) (λ d g k. refl) h
cond_rule T _ _ c x y ds h = absurd h

call_rule : (T : Table) (r : Rule) (aim : Aim) (es : Args) (f : Exp) (ds : Trees) → Fitting T (call_parts r aim es f) ds → Found T (Call es f) aim (by r ds)
call_rule T V22 (Gets Any) es f ds h = let p = call_found T es f 0 ds h in (v22 p.0.0 p.0.1, ap (by V22) p.1)
call_rule T _ _ es f ds h = absurd h

valof_rule : (T : Table) (r : Rule) (aim : Aim) (n : ℕ) (ds : Trees) → Fitting T (valof_parts r aim) ds → Found T (Valof n) aim (by r ds)
valof_rule T V22 (Gets Any) n no_part h = (v22_valof, refl)
valof_rule T V22 (Gets Any) n (part d ds) h = absurd h
valof_rule T _ _ n ds h = absurd h

node_found : (T : Table) (r : Rule) (aim : Aim) (e : Exp) (ds : Trees) → in_table T r ≡ true → may_turn r e ≡ true → Fitting T (node_parts r aim e) ds → Found T e aim (by r ds)
node_found T r aim (Num n) ds t f h = number_rule T r aim n ds h
node_found T r aim (Frame k) ds t f h = absurd h
node_found T r aim (Glob n) ds t f h = absurd h
node_found T r aim (Place m) ds t f h = absurd h
node_found T r aim (Load e) ds t f h = load_rule T r aim e ds h
node_found T r aim (Neg e) ds t f h = neg_rule T r aim e ds h
node_found T r aim (Not e) ds t f h = not_rule T r aim e ds h
node_found T r (Gets m) (Bin op a b) ds t f h = value_found T r m op a b ds f h
node_found T r (Jumps sense) (Bin op a b) ds t f h = test_found T r sense op a b ds t h
node_found T r aim (Cond c x y) ds t f h = cond_rule T r aim c x y ds h
node_found T r aim (Call es g) ds t f h = call_rule T r aim es g ds h
node_found T r aim (Valof n) ds t f h = valof_rule T r aim n ds h

pub found_by_rule : (T : Table) (r : Rule) (aim : Aim) (e : Exp) (ds : Trees) → in_table T r ≡ true → may_turn r e ≡ true → Fitting T (parts_of r aim e) ds → Found T e aim (by r ds)
found_by_rule T V0 (Gets Any) e ds t f h = single_found T e e (Gets Any) (Gets Push) V0 ds (λ d. v0 d) (λ d. refl) h
found_by_rule T V0 _ e ds t f h = absurd h
found_by_rule T V1 (Gets Push) e no_part t f h = with_some T (operand_of e) (leaf false) no_part _ (λ o i j. (v1 i, refl)) h
found_by_rule T V1 (Gets Push) e (part d ds) t f h = with_some T (operand_of e) (leaf false) (part d ds) _ (λ o i j. absurd j) h
found_by_rule T V1 _ e ds t f h = absurd h
found_by_rule T J6 (Jumps sense) e ds t f h = with_true T (is_plain e) _ ds _ (λ p j. single_found T e e (Jumps sense) (Gets Any) J6 ds (λ d. j6 p d) (λ d. refl) j) h
found_by_rule T J6 _ e ds t f h = absurd h
found_by_rule T r aim e ds t f h = node_found T r aim e ds t f h

mutual
  pub found : (T : Table) (x : Tree) (aim : Aim) (e : Exp) → fits T x aim e ≡ true → Found T e aim x
  found T (by r ds) aim e h =
      let rest = right_true (in_table T r) (may_turn r e && parts_fit T (parts_of r aim e) ds) h in
      found_by_rule T r aim e ds (left_true (in_table T r) _ h) (left_true (may_turn r e) _ rest) (all_found T (parts_of r aim e) ds (right_true (may_turn r e) _ rest))

  all_found : (T : Table) (p : Parts) (ds : Trees) → parts_fit T p ds ≡ true → Fitting T p ds
  all_found T no_rule ds h = cc
  all_found T (leaf v) no_part h = tt
  all_found T (leaf v) (part d ds) h = cc
  all_found T (single m a) no_part h = cc
  all_found T (single m a) (part d no_part) h = found T d m a h
  all_found T (single m a) (part d (part c ds)) h = cc
  all_found T (pair m a n b) no_part h = cc
  all_found T (pair m a n b) (part d no_part) h = cc
  all_found T (pair m a n b) (part d (part c no_part)) h = (found T d m a (left_true (fits T d m a) _ h), found T c n b (right_true (fits T d m a) _ h))
  all_found T (pair m a n b) (part d (part c (part g ds))) h = cc
  all_found T (triple m a n b l c) no_part h = cc
  all_found T (triple m a n b l c) (part d no_part) h = cc
  all_found T (triple m a n b l c) (part d (part g no_part)) h = cc
  all_found T (triple m a n b l c) (part d (part g (part k no_part))) h =
      let rest = right_true (fits T d m a) (fits T g n b && fits T k l c) h in
      (found T d m a (left_true (fits T d m a) _ h), found T g n b (left_true (fits T g n b) _ rest), found T k l c (right_true (fits T g n b) _ rest))
  all_found T (triple m a n b l c) (part d (part g (part k (part j ds)))) h = cc
  all_found T (called i no_argument f) no_part h = cc
  all_found T (called i no_argument f) (part d no_part) h = found T d (Gets Any) f h
  all_found T (called i no_argument f) (part d (part c ds)) h = cc
  all_found T (called i (argument a es) f) no_part h = cc
  all_found T (called i (argument a es) f) (part d ds) h = (found T d (Gets Any) a (left_true (fits T d (Gets Any) a) _ h), all_found T (called (i + 1) es f) ds (right_true (fits T d (Gets Any) a) _ h))

-- the same for roots
with_none : {A : Type 0} (T : Table) (x : Option A) (p : Parts) (ds : Trees) (X : Type 0) → (x ≡ None → Fitting T p ds → X) → Fitting T (where_none x p) ds → X
with_none T None p ds X k h = k refl h
with_none T (Some y) p ds X k h = absurd h

pub root_shape_fits : {T : Table} {r : Root} (d : RootDerives T r) → root_fits T r (root_shape d) ≡ true
root_shape_fits (value d) = shape_fits d
root_shape_fits (test d) = shape_fits d
root_shape_fits {T = T} (a1 {v = v} {a = a} {o = o} h d) = ap (λ p. parts_fit T p (one (shape d))) (some_of (operand_of a) o _ h) ∙ shape_fits d
root_shape_fits {T = T} (a2 {v = v} {a = a} h free d c) =
    both_true (sides_free A2 v a) _ free (ap (λ p. parts_fit T p (two (shape d) (shape c))) (none_of (operand_of a) _ h) ∙ both_true (fits T (shape d) (Gets Any) a) _ (shape_fits d) (shape_fits c))
root_shape_fits {T = T} (a3 {v = v} {a = a} h d c) =
    ap (λ p. parts_fit T p (two (shape d) (shape c))) (none_of (operand_of a) _ h) ∙ both_true (fits T (shape d) (Gets Any) v) _ (shape_fits d) (shape_fits c)

one_side : (T : Table) (s : ℕ) (v a : Exp) (o : Operand) (ds : Trees) → operand_of a ≡ Some o → Fitting T (single (Gets Any) v) ds → IsDerivation T (Assign s v a) (by A1 ds)
one_side T s v a o no_part i h = absurd h
one_side T s v a o (part d no_part) i h = (a1 i h.0, ap (λ z. by A1 (one z)) h.1)
one_side T s v a o (part d (part c ds)) i h = absurd h

two_sides : (T : Table) (s : ℕ) (v a x y : Exp) (r : Rule) (ds : Trees) (f : Derives T x (Gets Any) → Derives T y (Gets Any) → RootDerives T (Assign s v a)) → ((d : Derives T x (Gets Any)) (c : Derives T y (Gets Any)) → root_shape (f d c) ≡ by r (two (shape d) (shape c))) → Fitting T (pair (Gets Any) x (Gets Any) y) ds → IsDerivation T (Assign s v a) (by r ds)
two_sides T s v a x y r no_part f w h = absurd h
two_sides T s v a x y r (part d no_part) f w h = absurd h
two_sides T s v a x y r (part d (part c no_part)) f w h = (f h.0.0 h.1.0, w h.0.0 h.1.0 ∙ ap (λ z. by r (two z (shape h.1.0))) h.0.1 ∙ ap (λ z. by r (two d z)) h.1.1)
two_sides T s v a x y r (part d (part c (part g ds))) f w h = absurd h

assignment_found : (T : Table) (s : ℕ) (v a : Exp) (r : Rule) (ds : Trees) → sides_free r v a ≡ true → Fitting T (assignment_parts r v a) ds → IsDerivation T (Assign s v a) (by r ds)
assignment_found T s v a A1 ds f h = with_some T (operand_of a) _ ds _ (λ o i j. one_side T s v a o ds i j) h
assignment_found T s v a A2 ds f h = with_none T (operand_of a) _ ds _ (λ i j. two_sides T s v a a v A2 ds (λ d c. a2 i f d c) (λ d c. refl) j) h
assignment_found T s v a A3 ds f h = with_none T (operand_of a) _ ds _ (λ i j. two_sides T s v a v a A3 ds (λ d c. a3 i d c) (λ d c. refl) j) h
assignment_found T s v a _ ds f h = absurd h

pub root_found : (T : Table) (r : Root) (x : Tree) → root_fits T r x ≡ true → IsDerivation T r x
root_found T (Value s e) x h = let d = found T x (Gets Any) e h in (value d.0, d.1)
root_found T (Test s sense e) x h = let d = found T x (Jumps sense) e h in (test d.0, d.1)
root_found T (Assign s v a) (by r ds) h = assignment_found T s v a r ds (left_true (sides_free r v a) _ h) (all_found T (assignment_parts r v a) ds (right_true (sides_free r v a) _ h))

pub decides : (T : Table) (r : Root) (x : Tree) (b : Bool) → b ≡ root_fits T r x → IsTrue b ↔ IsDerivation T r x
decides T r x b e = ((λ h. root_found T r x (sym e ∙ h)), (λ d. e ∙ sym (ap (root_fits T r) d.1) ∙ root_shape_fits d.0))
