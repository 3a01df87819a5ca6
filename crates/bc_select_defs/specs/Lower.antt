-- For proofs: no derivation has fewer words than the choice for its aim, and none with as few begins with a rule of a lower number.
use Rattle.std.proofs.Common.{◌≡◌, ℕ, ◌+◌, Bool, true, false, Option, Some, None, IsTrue, cond, refl, ap, sym, subst, ◌∙◌, arith}
use Rattle.std.specs.Prelude.{is_some}
use Rattle.bc_word.specs.declared.operator.Op.{Op}
use Rattle.bc_word.specs.declared.operator.Op.TheVariants as operators
use Rattle.bc_word.specs.Words.{negated}
use Rattle.bc_core.specs.declared.operands.Operand.{Operand}
use Rattle.bc_core.specs.Tree.{Exp, Num, Frame, Glob, Place, Load, Neg, Not, Bin, Cond, Call, Valof, Args, count}
use Rattle.bc_core.specs.Operand.{operand_of, constant_of}
use Rattle.bc_rules_defs.specs.declared.rule.Table.{Table}
use Rattle.bc_rules_defs.specs.declared.rule.Table.TheVariants.{Two}
use Rattle.bc_rules_defs.specs.declared.rule.Mode.TheVariants.{Any, Push}
use Rattle.bc_rules_defs.specs.declared.rule.Aim.{Aim}
use Rattle.bc_rules_defs.specs.declared.rule.Aim.TheVariants.{Gets, Jumps}
use Rattle.bc_rules_defs.specs.Free.{is_plain, is_zero, beside_zero, without_zero}
use Rattle.bc_rules_defs.specs.Piece.{w, operand_words}
use Rattle.bc_rules_defs.specs.Rules.{Derives, v0, v1, v2, v3, v4, v6, v7, v8, v9, v10, v11, v12, v13, v14, v15, v16, v17, v18, v19, v20, v21, v22, v22_valof, j1, j2, j3, j4, j5, j6, j7, j8, j9, DerivesAll, no_more, one_more}
use Rattle.bc_rules_defs.specs.Code.{cost, all_cost}
use Rattle.bc_select_defs.specs.Least.{first_rule}
use Rattle.bc_rules_defs.specs.Names.{rule_number}
use Rattle.bc_select_defs.specs.Options.{plus, more, sum, given, operand_cost, words_of}
use Rattle.bc_select_defs.specs.Choices.{choice_for, words_for, number_cost, zero_number, without, beside, has_tests_of_zero, choices, words_of_all, node_of}
use Rattle.bc_select_defs.specs.Folds.{Within, Reaches, AtMost, by_rule, words}

plus_within : (x : Option ℕ) (k j : ℕ) → Within x j → Within (plus x k) (j + k)
unfolding plus
plus_within None k j h = h
plus_within (Some x) k j h = omega arith

pub more_words : (x : Option ℕ) (k j : ℕ) → Reaches x j → Reaches (plus x k) (j + k)
more_words x k j h = record { fact = plus_within x k j h.fact }

sum_within : (x y : Option ℕ) (j k : ℕ) → Within x j → Within y k → Within (sum x y) (j + k)
unfolding sum
sum_within None y j k h i = h
sum_within (Some x) None j k h i = i
sum_within (Some x) (Some y) j k h i = omega arith

pub both : (x y : Option ℕ) (j k : ℕ) → Reaches x j → Reaches y k → Reaches (sum x y) (j + k)
both x y j k h i = record { fact = sum_within x y j k h.fact i.fact }

operand_within : (p : Option Operand) (o : Operand) → p ≡ Some o → Within (operand_cost p) (operand_words o)
unfolding operand_cost
operand_within p o e = subst (λ q. Within (operand_cost q) (operand_words o)) (sym e) (omega arith)

pub of_operand : (p : Option Operand) (o : Operand) → p ≡ Some o → Reaches (operand_cost p) (operand_words o)
of_operand p o e = record { fact = operand_within p o e }

more_within : (x : Option ℕ) (k j : ℕ) → Within x j → Within (more k x) (k + j)
unfolding more
more_within None k j h = h
more_within (Some x) k j h = omega arith

pub more_before : (x : Option ℕ) (k j : ℕ) → Reaches x j → Reaches (more k x) (k + j)
more_before x k j h = record { fact = more_within x k j h.fact }

pub by_given : (b : Bool) (x : Option ℕ) (j : ℕ) → IsTrue b → Reaches x j → Reaches (given b x) j
unfolding given
by_given true x j e h = h
by_given false x j e h = cc

pub exactly : (n : ℕ) → Reaches (Some n) n
exactly n = record { fact = omega arith }

pub number_costs : (n : ℕ) → Reaches (number_cost (Some n)) (w (negated n))
unfolding number_cost
number_costs n = exactly (w (negated n))

pub is_mirrored : (p : Option Op) (q : Op) → p ≡ Some q → IsTrue (is_some p)
is_mirrored p q e = subst (λ o. IsTrue (is_some o)) (sym e) refl

-- V0, V1 and J6, which are candidates at every node
v0_least : (T : Table) (e : Exp) (s k : ℕ) → Reaches (words_of (choices T e s).push) k → AtMost (choices T e s).any k 0
v0_least T (Num n) s k h = by_rule _ k 0 refl h
v0_least T (Frame n) s k h = by_rule _ k 0 refl h
v0_least T (Glob n) s k h = by_rule _ k 0 refl h
v0_least T (Place n) s k h = by_rule _ k 0 refl h
v0_least T (Load e) s k h = by_rule _ k 0 refl h
v0_least T (Neg e) s k h = by_rule _ k 0 refl h
v0_least T (Not e) s k h = by_rule _ k 0 refl h
v0_least T (Bin op a b) s k h = by_rule _ k 0 refl h
v0_least T (Cond c x y) s k h = by_rule _ k 0 refl h
v0_least T (Call es f) s k h = by_rule _ k 0 refl h
v0_least T (Valof n) s k h = by_rule _ k 0 refl h

v1_least : (T : Table) (e : Exp) (s : ℕ) (o : Operand) → operand_of e ≡ Some o → AtMost (choices T e s).push (operand_words o) 1
v1_least T (Num n) s o h = by_rule _ (operand_words o) 1 refl (of_operand (operand_of (Num n)) o h)
v1_least T (Frame n) s o h = by_rule _ (operand_words o) 1 refl (of_operand (operand_of (Frame n)) o h)
v1_least T (Glob n) s o h = by_rule _ (operand_words o) 1 refl (of_operand (operand_of (Glob n)) o h)
v1_least T (Place n) s o h = by_rule _ (operand_words o) 1 refl (of_operand (operand_of (Place n)) o h)
v1_least T (Load e) s o h = by_rule _ (operand_words o) 1 refl (of_operand (operand_of (Load e)) o h)
v1_least T (Neg e) s o h = cc
v1_least T (Not e) s o h = cc
v1_least T (Bin op a b) s o h = by_rule _ (operand_words o) 1 refl (of_operand (operand_of (Bin op a b)) o h)
v1_least T (Cond c x y) s o h = cc
v1_least T (Call es f) s o h = cc
v1_least T (Valof n) s o h = cc

j6_least : (T : Table) (e : Exp) (s k : ℕ) (sense : Bool) → IsTrue (is_plain e) → Reaches (words_of (choices T e s).any) k
    → AtMost (choice_for (Jumps sense) (choices T e s)) (k + 2) 6
j6_least T (Num n) s k true p h = by_rule _ (k + 2) 6 refl (more_words _ 2 k h)
j6_least T (Num n) s k false p h = by_rule _ (k + 2) 6 refl (more_words _ 2 k h)
j6_least T (Frame n) s k true p h = by_rule _ (k + 2) 6 refl (more_words _ 2 k h)
j6_least T (Frame n) s k false p h = by_rule _ (k + 2) 6 refl (more_words _ 2 k h)
j6_least T (Glob n) s k true p h = by_rule _ (k + 2) 6 refl (more_words _ 2 k h)
j6_least T (Glob n) s k false p h = by_rule _ (k + 2) 6 refl (more_words _ 2 k h)
j6_least T (Place n) s k true p h = by_rule _ (k + 2) 6 refl (more_words _ 2 k h)
j6_least T (Place n) s k false p h = by_rule _ (k + 2) 6 refl (more_words _ 2 k h)
j6_least T (Load e) s k true p h = by_rule _ (k + 2) 6 refl (more_words _ 2 k h)
j6_least T (Load e) s k false p h = by_rule _ (k + 2) 6 refl (more_words _ 2 k h)
j6_least T (Neg e) s k true p h = by_rule _ (k + 2) 6 refl (more_words _ 2 k h)
j6_least T (Neg e) s k false p h = by_rule _ (k + 2) 6 refl (more_words _ 2 k h)
j6_least T (Not e) s k true p h = cc
j6_least T (Not e) s k false p h = cc
j6_least T (Bin op a b) s k true p h = by_rule _ (k + 2) 6 refl (by_given _ _ _ p (more_words _ 2 k h))
j6_least T (Bin op a b) s k false p h = by_rule _ (k + 2) 6 refl (by_given _ _ _ p (more_words _ 2 k h))
j6_least T (Cond c x y) s k true p h = by_rule _ (k + 2) 6 refl (more_words _ 2 k h)
j6_least T (Cond c x y) s k false p h = by_rule _ (k + 2) 6 refl (more_words _ 2 k h)
j6_least T (Call es f) s k true p h = by_rule _ (k + 2) 6 refl (more_words _ 2 k h)
j6_least T (Call es f) s k false p h = by_rule _ (k + 2) 6 refl (more_words _ 2 k h)
j6_least T (Valof n) s k true p h = by_rule _ (k + 2) 6 refl (more_words _ 2 k h)
j6_least T (Valof n) s k false p h = by_rule _ (k + 2) 6 refl (more_words _ 2 k h)

-- a sum or difference with its 0 dropped, and the operand beside a 0
pub is_zero_is : (e : Exp) → zero_number (constant_of e) ≡ is_zero e
is_zero_is (Num n) = refl
is_zero_is (Frame n) = refl
is_zero_is (Glob n) = refl
is_zero_is (Place n) = refl
is_zero_is (Load e) = refl
is_zero_is (Neg e) = refl
is_zero_is (Not e) = refl
is_zero_is (Bin op a b) = refl
is_zero_is (Cond c x y) = refl
is_zero_is (Call es f) = refl
is_zero_is (Valof n) = refl

-- the words of an expression, if there is one
abbrev pub at : Option Exp → (Exp → Option ℕ) → Option ℕ
at None f = None
at (Some e) f = f e

beside_of : (a b : Bool) (x y : Exp) (f : Exp → Option ℕ) → cond b (f x) (cond a (f y) None) ≡ at (cond b (Some x) (cond a (Some y) None)) f
beside_of true true x y f = refl
beside_of false true x y f = refl
beside_of true false x y f = refl
beside_of false false x y f = refl

pub beside_is : (T : Table) (a b : Exp) (s : ℕ) (f : Exp → Option ℕ) → beside (node_of T a s) (node_of T b s) (f a) (f b) ≡ at (beside_zero a b) f
beside_is T a b s f = rw (is_zero_is a, is_zero_is b) (beside_of (is_zero a) (is_zero b) a b f)

subtract_of : (b : Bool) (x : Exp) (f : Exp → Option ℕ) → cond b (f x) None ≡ at (cond b (Some x) None) f
subtract_of true x f = refl
subtract_of false x f = refl

pub without_is : (T : Table) (op : Op) (a b : Exp) (s : ℕ) (f : Exp → Option ℕ) → without op (node_of T a s) (node_of T b s) (f a) (f b)
    ≡ at (without_zero op a b) f
without_is T operators.Multiply a b s f = refl
without_is T operators.Divide a b s f = refl
without_is T operators.Remainder a b s f = refl
without_is T operators.Add a b s f = beside_is T a b s f
without_is T operators.Subtract a b s f = rw (is_zero_is b) (subtract_of (is_zero b) a f)
without_is T operators.Equal a b s f = refl
without_is T operators.NotEqual a b s f = refl
without_is T operators.Less a b s f = refl
without_is T operators.GreaterEqual a b s f = refl
without_is T operators.Greater a b s f = refl
without_is T operators.LessEqual a b s f = refl
without_is T operators.ShiftLeft a b s f = refl
without_is T operators.ShiftRight a b s f = refl
without_is T operators.And a b s f = refl
without_is T operators.Or a b s f = refl
without_is T operators.NotEquivalent a b s f = refl
without_is T operators.Equivalent a b s f = refl

-- the words of the operand that a rule finds beside a 0
pub part_at : (x : Option ℕ) (p : Option Exp) (c : Exp) (f : Exp → Option ℕ) (k : ℕ) → x ≡ at p f → p ≡ Some c → Reaches (f c) k → Reaches x k
part_at x p c f k e i h = let P : Option ℕ → Type 0 = λ y. Reaches y k in subst P (sym (e ∙ ap (λ q. at q f) i)) h

pub with_tests : (T : Table) (x : Option ℕ) (j : ℕ) → T ≡ Two → Reaches x j → Reaches (given (has_tests_of_zero T) x) j
with_tests T x j e h = by_given (has_tests_of_zero T) x j (ap has_tests_of_zero e) h

abbrev pub words_at : (T : Table) (aim : Aim) (s : ℕ) → Exp → Option ℕ
words_at T aim s e = words_for aim (choices T e s)

-- no derivation has fewer words than the choice for its aim
mutual
  pub lower : {T : Table} {e : Exp} {aim : Aim} (d : Derives T e aim) (s : ℕ) → AtMost (choice_for aim (choices T e s)) (cost d s) (rule_number (first_rule d))
  lower (v0 {T = T} {e = e} d) s = v0_least T e s _ (words _ _ _ (lower d s))
  lower (v1 {T = T} {e = e} {o = o} h) s = v1_least T e s o h
  lower (v2 {m = Any} d) s = by_rule _ _ _ refl (more_words _ _ _ (words _ _ _ (lower d s)))
  lower (v2 {m = Push} d) s = by_rule _ _ _ refl (more_words _ _ _ (words _ _ _ (lower d s)))
  lower (v3 {m = Any} d) s = by_rule _ _ _ refl (more_words _ _ _ (words _ _ _ (lower d s)))
  lower (v3 {m = Push} d) s = by_rule _ _ _ refl (more_words _ _ _ (words _ _ _ (lower d s)))
  lower (v4 {m = Any} d) s = by_rule _ _ _ refl (more_words _ _ _ (words _ _ _ (lower d s)))
  lower (v4 {m = Push} d) s = by_rule _ _ _ refl (more_words _ _ _ (words _ _ _ (lower d s)))
  lower (v6 {m = Any} h d) s = by_rule _ _ _ refl (by_given _ _ _ refl (both _ _ _ _ (words _ _ _ (lower d (s + 1))) (of_operand _ _ h)))
  lower (v7 {m = Any} h free d) s =
      by_rule _ _ _ refl (by_given _ _ _ refl (by_given _ _ _ free (both _ _ _ _ (words _ _ _ (lower d (s + 1))) (of_operand _ _ h))))
  lower (v8 {T = T} {op = op} {a = a} {b = b} {c = c} {m = Any} h d) s =
      by_rule _ _ _ refl (part_at _ (without_zero op a b) c (words_at T (Gets Any) (s + 1)) _
      (without_is T op a b (s + 1) (words_at T (Gets Any) (s + 1))) h (words _ _ _ (lower d (s + 1))))
  lower (v9 {n = n} {m = Any} d) s = by_rule _ _ _ refl (by_given _ _ _ refl (both _ _ _ _ (words _ _ _ (lower d (s + 1))) (number_costs n)))
  lower (v10 {m = Any} h d) s = by_rule _ _ _ refl (by_given _ _ _ refl (both _ _ _ _ (words _ _ _ (lower d (s + 1))) (more_before _ 2 _ (of_operand _ _ h))))
  lower (v11 {m = Any} h free d) s =
      by_rule _ _ _ refl (by_given _ _ _ refl (by_given _ _ _ free (both _ _ _ _ (words _ _ _ (lower d (s + 1))) (more_before _ 1 _ (of_operand _ _ h)))))
  lower (v6 {m = Push} h d) s = by_rule _ _ _ refl (by_given _ _ _ refl (both _ _ _ _ (words _ _ _ (lower d (s + 1))) (of_operand _ _ h)))
  lower (v7 {m = Push} h free d) s =
      by_rule _ _ _ refl (by_given _ _ _ refl (by_given _ _ _ free (both _ _ _ _ (words _ _ _ (lower d (s + 1))) (of_operand _ _ h))))
  lower (v8 {T = T} {op = op} {a = a} {b = b} {c = c} {m = Push} h d) s =
      by_rule _ _ _ refl (part_at _ (without_zero op a b) c (words_at T (Gets Push) (s + 1)) _
      (without_is T op a b (s + 1) (words_at T (Gets Push) (s + 1))) h (words _ _ _ (lower d (s + 1))))
  lower (v9 {n = n} {m = Push} d) s = by_rule _ _ _ refl (by_given _ _ _ refl (both _ _ _ _ (words _ _ _ (lower d (s + 1))) (number_costs n)))
  lower (v10 {m = Push} h d) s = by_rule _ _ _ refl (by_given _ _ _ refl (both _ _ _ _ (words _ _ _ (lower d (s + 1))) (more_before _ 2 _ (of_operand _ _ h))))
  lower (v11 {m = Push} h free d) s =
      by_rule _ _ _ refl (by_given _ _ _ refl (by_given _ _ _ free (both _ _ _ _ (words _ _ _ (lower d (s + 1))) (more_before _ 1 _ (of_operand _ _ h)))))
  lower (v12 a b) s = by_rule _ _ _ refl (more_words _ _ _ (both _ _ _ _ (words _ _ _ (lower a (s + 1))) (words _ _ _ (lower b (s + 1)))))
  lower (v13 h free b a) s = by_rule _ _ _ refl
      (by_given _ _ _ (is_mirrored _ _ h)
      (by_given _ _ _ free (more_words _ _ _ (both _ _ _ _ (words _ _ _ (lower b (s + 1))) (words _ _ _ (lower a (s + 1)))))))
  lower (v14 free b a) s = by_rule _ _ _ refl
      (by_given _ _ _ refl (by_given _ _ _ free (more_words _ _ _ (both _ _ _ _ (words _ _ _ (lower b (s + 1))) (words _ _ _ (lower a (s + 1)))))))
  lower (v15 h a b) s = by_rule _ _ _ refl
      (by_given _ _ _ (is_mirrored _ _ h) (more_words _ _ _ (both _ _ _ _ (words _ _ _ (lower a (s + 1))) (words _ _ _ (lower b (s + 1))))))
  lower (v16 free b a) s = by_rule _ _ _ refl
      (by_given _ _ _ free (more_words _ _ _ (both _ _ _ _ (words _ _ _ (lower b (s + 1))) (words _ _ _ (lower a (s + 1))))))
  lower (v17 a b) s = by_rule _ _ _ refl (more_words _ _ _ (both _ _ _ _ (words _ _ _ (lower a (s + 1))) (words _ _ _ (lower b (s + 1)))))
  lower (v18 a b) s = by_rule _ _ _ refl (by_given _ _ _ refl (more_words _ _ _ (both _ _ _ _ (words _ _ _ (lower a (s + 1))) (words _ _ _ (lower b (s + 1))))))
  lower (v19 a b) s = by_rule _ _ _ refl (by_given _ _ _ refl (more_words _ _ _ (both _ _ _ _ (words _ _ _ (lower a (s + 1))) (words _ _ _ (lower b (s + 1))))))
  lower (v20 c x y) s = by_rule _ _ _ refl
      (more_words _ _ _ (both _ _ _ _ (both _ _ _ _ (words _ _ _ (lower c s)) (words _ _ _ (lower x s))) (words _ _ _ (lower y s))))
  lower (v21 c y x) s = by_rule _ _ _ refl
      (more_words _ _ _ (both _ _ _ _ (both _ _ _ _ (words _ _ _ (lower c s)) (words _ _ _ (lower y s))) (words _ _ _ (lower x s))))
  lower (v22 {es = es} ds f) s = by_rule _ _ _ refl (more_words _ _ _ (both _ _ _ _ (all_lower ds (s + 2)) (words _ _ _ (lower f (s + 2 + count es)))))
  lower v22_valof s = by_rule _ _ _ refl (exactly 0)
  lower (j1 {sense = true} d) s = by_rule _ _ _ refl (words _ _ _ (lower d s))
  lower (j1 {sense = false} d) s = by_rule _ _ _ refl (words _ _ _ (lower d s))
  lower (j2 a b) s = by_rule _ _ _ refl (by_given _ _ _ refl (both _ _ _ _ (words _ _ _ (lower a (s + 1))) (words _ _ _ (lower b (s + 1)))))
  lower (j3 a b) s = by_rule _ _ _ refl (by_given _ _ _ refl (both _ _ _ _ (words _ _ _ (lower a (s + 1))) (words _ _ _ (lower b (s + 1)))))
  lower (j4 a b) s = by_rule _ _ _ refl (by_given _ _ _ refl (both _ _ _ _ (words _ _ _ (lower a (s + 1))) (words _ _ _ (lower b (s + 1)))))
  lower (j5 a b) s = by_rule _ _ _ refl (by_given _ _ _ refl (both _ _ _ _ (words _ _ _ (lower a (s + 1))) (words _ _ _ (lower b (s + 1)))))
  lower (j6 {T = T} {e = e} {sense = sense} h d) s = j6_least T e s _ sense h (words _ _ _ (lower d s))
  lower (j7 {sense = true}) s = by_rule _ _ _ refl (exactly _)
  lower (j7 {sense = false}) s = by_rule _ _ _ refl (exactly _)
  lower (j8 {T = T} {a = a} {b = b} {c = c} {sense = true} k h d) s =
      by_rule _ _ _ refl (with_tests T _ _ k
      (by_given _ _ _ refl (more_words _ 2 _
      (part_at _ (beside_zero a b) c (words_at T (Gets Any) (s + 1)) _ (beside_is T a b (s + 1) (words_at T (Gets Any) (s + 1))) h
      (words _ _ _ (lower d (s + 1)))))))
  lower (j8 {T = T} {a = a} {b = b} {c = c} {sense = false} k h d) s =
      by_rule _ _ _ refl (with_tests T _ _ k
      (by_given _ _ _ refl (more_words _ 2 _
      (part_at _ (beside_zero a b) c (words_at T (Gets Any) (s + 1)) _ (beside_is T a b (s + 1) (words_at T (Gets Any) (s + 1))) h
      (words _ _ _ (lower d (s + 1)))))))
  lower (j9 {T = T} {a = a} {b = b} {c = c} {sense = true} k h d) s =
      by_rule _ _ _ refl (with_tests T _ _ k
      (by_given _ _ _ refl (more_words _ 2 _
      (part_at _ (beside_zero a b) c (words_at T (Gets Any) (s + 1)) _ (beside_is T a b (s + 1) (words_at T (Gets Any) (s + 1))) h
      (words _ _ _ (lower d (s + 1)))))))
  lower (j9 {T = T} {a = a} {b = b} {c = c} {sense = false} k h d) s =
      by_rule _ _ _ refl (with_tests T _ _ k
      (by_given _ _ _ refl (more_words _ 2 _
      (part_at _ (beside_zero a b) c (words_at T (Gets Any) (s + 1)) _ (beside_is T a b (s + 1) (words_at T (Gets Any) (s + 1))) h
      (words _ _ _ (lower d (s + 1)))))))

  pub all_lower : {T : Table} {es : Args} (ds : DerivesAll T es) (s : ℕ) → Reaches (words_of_all T es s) (all_cost ds s)
  all_lower no_more s = exactly 0
  all_lower (one_more d ds) s = both _ _ _ _ (more_words _ _ _ (words _ _ _ (lower d s))) (all_lower ds (s + 1))
