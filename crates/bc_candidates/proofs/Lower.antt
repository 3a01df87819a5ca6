-- A derivation has at least the words that its first rule has in the list for its aim.
use Rattle.std.proofs.Common.{◌≡◌, ℕ, ◌+◌, Bool, true, false, Some, IsTrue, refl}
use Rattle.bc_core.specs.declared.operands.Operand.{Operand}
use Rattle.bc_core.specs.Tree.{Exp, Num, Frame, Glob, Place, Load, Neg, Not, Bin, Cond, Call, Valof, count}
use Rattle.bc_core.specs.Operand.{operand_of}
use Rattle.bc_rules_defs.specs.declared.rule.Table.{Table}
use Rattle.bc_rules_defs.specs.declared.rule.Mode.TheVariants.{Any, Push}
use Rattle.bc_rules_defs.specs.declared.rule.Aim.{Aim}
use Rattle.bc_rules_defs.specs.declared.rule.Aim.TheVariants.{Gets, Jumps}
use Rattle.bc_rules_defs.specs.Free.{is_plain, beside_zero, without_zero}
use Rattle.bc_rules_defs.specs.Piece.{operand_words}
use Rattle.bc_rules_defs.specs.Rules.{Derives, v0, v1, v2, v3, v4, v6, v7, v8, v9, v10, v11, v12, v13, v14, v15, v16, v17, v18, v19, v20, v21, v22, v22_valof, j1, j2, j3, j4, j5, j6, j7, j8, j9}
use Rattle.bc_rules_defs.specs.Code.{cost}
use Rattle.bc_select_defs.specs.Least.{first_rule}
use Rattle.bc_rules_defs.specs.Names.{rule_number}
use Rattle.bc_select_defs.specs.Options.{words_of}
use Rattle.bc_select_defs.specs.Choices.{choices}
use Rattle.bc_select_defs.specs.Folds.{Reaches, of_rule, words}
use Rattle.bc_select_defs.specs.Lower.{more_words, both, of_operand, more_before, by_given, exactly, number_costs, is_mirrored, beside_is, without_is, part_at, with_tests, words_at, lower, all_lower}
use Rattle.bc_candidates.specs.Lists.{list_for, lists}

-- V0, V1 and J6 are in the lists of every node
by_v0 : (T : Table) (e : Exp) (s k : ℕ) → Reaches (words_of (choices T e s).push) k → Reaches (of_rule 0 (lists T e s).any) k
by_v0 T (Num n) s k h = h
by_v0 T (Frame n) s k h = h
by_v0 T (Glob n) s k h = h
by_v0 T (Place n) s k h = h
by_v0 T (Load e) s k h = h
by_v0 T (Neg e) s k h = h
by_v0 T (Not e) s k h = h
by_v0 T (Bin op a b) s k h = h
by_v0 T (Cond c x y) s k h = h
by_v0 T (Call es f) s k h = h
by_v0 T (Valof n) s k h = h

by_v1 : (T : Table) (e : Exp) (s : ℕ) (o : Operand) → operand_of e ≡ Some o → Reaches (of_rule 1 (lists T e s).push) (operand_words o)
by_v1 T (Num n) s o h = of_operand (operand_of (Num n)) o h
by_v1 T (Frame n) s o h = of_operand (operand_of (Frame n)) o h
by_v1 T (Glob n) s o h = of_operand (operand_of (Glob n)) o h
by_v1 T (Place n) s o h = of_operand (operand_of (Place n)) o h
by_v1 T (Load e) s o h = of_operand (operand_of (Load e)) o h
by_v1 T (Neg e) s o h = cc
by_v1 T (Not e) s o h = cc
by_v1 T (Bin op a b) s o h = of_operand (operand_of (Bin op a b)) o h
by_v1 T (Cond c x y) s o h = cc
by_v1 T (Call es f) s o h = cc
by_v1 T (Valof n) s o h = cc

by_j6 : (T : Table) (e : Exp) (s k : ℕ) (sense : Bool) → IsTrue (is_plain e) → Reaches (words_of (choices T e s).any) k → Reaches (of_rule 6 (list_for (Jumps sense) (lists T e s))) (k + 2)
by_j6 T (Num n) s k true p h = more_words _ 2 k h
by_j6 T (Num n) s k false p h = more_words _ 2 k h
by_j6 T (Frame n) s k true p h = more_words _ 2 k h
by_j6 T (Frame n) s k false p h = more_words _ 2 k h
by_j6 T (Glob n) s k true p h = more_words _ 2 k h
by_j6 T (Glob n) s k false p h = more_words _ 2 k h
by_j6 T (Place n) s k true p h = more_words _ 2 k h
by_j6 T (Place n) s k false p h = more_words _ 2 k h
by_j6 T (Load e) s k true p h = more_words _ 2 k h
by_j6 T (Load e) s k false p h = more_words _ 2 k h
by_j6 T (Neg e) s k true p h = more_words _ 2 k h
by_j6 T (Neg e) s k false p h = more_words _ 2 k h
by_j6 T (Not e) s k true p h = cc
by_j6 T (Not e) s k false p h = cc
by_j6 T (Bin op a b) s k true p h = by_given _ _ _ p (more_words _ 2 k h)
by_j6 T (Bin op a b) s k false p h = by_given _ _ _ p (more_words _ 2 k h)
by_j6 T (Cond c x y) s k true p h = more_words _ 2 k h
by_j6 T (Cond c x y) s k false p h = more_words _ 2 k h
by_j6 T (Call es f) s k true p h = more_words _ 2 k h
by_j6 T (Call es f) s k false p h = more_words _ 2 k h
by_j6 T (Valof n) s k true p h = more_words _ 2 k h
by_j6 T (Valof n) s k false p h = more_words _ 2 k h

pub starts : {T : Table} {e : Exp} {aim : Aim} (d : Derives T e aim) (s : ℕ) → Reaches (of_rule (rule_number (first_rule d)) (list_for aim (lists T e s))) (cost d s)
starts (v0 {T = T} {e = e} d) s = by_v0 T e s _ (words _ _ _ (lower d s))
starts (v1 {T = T} {e = e} {o = o} h) s = by_v1 T e s o h
starts (v2 {m = Any} d) s = more_words _ _ _ (words _ _ _ (lower d s))
starts (v2 {m = Push} d) s = more_words _ _ _ (words _ _ _ (lower d s))
starts (v3 {m = Any} d) s = more_words _ _ _ (words _ _ _ (lower d s))
starts (v3 {m = Push} d) s = more_words _ _ _ (words _ _ _ (lower d s))
starts (v4 {m = Any} d) s = more_words _ _ _ (words _ _ _ (lower d s))
starts (v4 {m = Push} d) s = more_words _ _ _ (words _ _ _ (lower d s))
starts (v6 {m = Any} h d) s = by_given _ _ _ refl (both _ _ _ _ (words _ _ _ (lower d (s + 1))) (of_operand _ _ h))
starts (v7 {m = Any} h free d) s = by_given _ _ _ refl (by_given _ _ _ free (both _ _ _ _ (words _ _ _ (lower d (s + 1))) (of_operand _ _ h)))
starts (v8 {T = T} {op = op} {a = a} {b = b} {c = c} {m = Any} h d) s = part_at _ (without_zero op a b) c (words_at T (Gets Any) (s + 1)) _ (without_is T op a b (s + 1) (words_at T (Gets Any) (s + 1))) h (words _ _ _ (lower d (s + 1)))
starts (v9 {n = n} {m = Any} d) s = by_given _ _ _ refl (both _ _ _ _ (words _ _ _ (lower d (s + 1))) (number_costs n))
starts (v10 {m = Any} h d) s = by_given _ _ _ refl (both _ _ _ _ (words _ _ _ (lower d (s + 1))) (more_before _ 2 _ (of_operand _ _ h)))
starts (v11 {m = Any} h free d) s = by_given _ _ _ refl (by_given _ _ _ free (both _ _ _ _ (words _ _ _ (lower d (s + 1))) (more_before _ 1 _ (of_operand _ _ h))))
starts (v6 {m = Push} h d) s = by_given _ _ _ refl (both _ _ _ _ (words _ _ _ (lower d (s + 1))) (of_operand _ _ h))
starts (v7 {m = Push} h free d) s = by_given _ _ _ refl (by_given _ _ _ free (both _ _ _ _ (words _ _ _ (lower d (s + 1))) (of_operand _ _ h)))
starts (v8 {T = T} {op = op} {a = a} {b = b} {c = c} {m = Push} h d) s = part_at _ (without_zero op a b) c (words_at T (Gets Push) (s + 1)) _ (without_is T op a b (s + 1) (words_at T (Gets Push) (s + 1))) h (words _ _ _ (lower d (s + 1)))
starts (v9 {n = n} {m = Push} d) s = by_given _ _ _ refl (both _ _ _ _ (words _ _ _ (lower d (s + 1))) (number_costs n))
starts (v10 {m = Push} h d) s = by_given _ _ _ refl (both _ _ _ _ (words _ _ _ (lower d (s + 1))) (more_before _ 2 _ (of_operand _ _ h)))
starts (v11 {m = Push} h free d) s = by_given _ _ _ refl (by_given _ _ _ free (both _ _ _ _ (words _ _ _ (lower d (s + 1))) (more_before _ 1 _ (of_operand _ _ h))))
starts (v12 a b) s = more_words _ _ _ (both _ _ _ _ (words _ _ _ (lower a (s + 1))) (words _ _ _ (lower b (s + 1))))
starts (v13 h free b a) s = by_given _ _ _ (is_mirrored _ _ h) (by_given _ _ _ free (more_words _ _ _ (both _ _ _ _ (words _ _ _ (lower b (s + 1))) (words _ _ _ (lower a (s + 1))))))
starts (v14 free b a) s = by_given _ _ _ refl (by_given _ _ _ free (more_words _ _ _ (both _ _ _ _ (words _ _ _ (lower b (s + 1))) (words _ _ _ (lower a (s + 1))))))
starts (v15 h a b) s = by_given _ _ _ (is_mirrored _ _ h) (more_words _ _ _ (both _ _ _ _ (words _ _ _ (lower a (s + 1))) (words _ _ _ (lower b (s + 1)))))
starts (v16 free b a) s = by_given _ _ _ free (more_words _ _ _ (both _ _ _ _ (words _ _ _ (lower b (s + 1))) (words _ _ _ (lower a (s + 1)))))
starts (v17 a b) s = more_words _ _ _ (both _ _ _ _ (words _ _ _ (lower a (s + 1))) (words _ _ _ (lower b (s + 1))))
starts (v18 a b) s = by_given _ _ _ refl (more_words _ _ _ (both _ _ _ _ (words _ _ _ (lower a (s + 1))) (words _ _ _ (lower b (s + 1)))))
starts (v19 a b) s = by_given _ _ _ refl (more_words _ _ _ (both _ _ _ _ (words _ _ _ (lower a (s + 1))) (words _ _ _ (lower b (s + 1)))))
starts (v20 c x y) s = more_words _ _ _ (both _ _ _ _ (both _ _ _ _ (words _ _ _ (lower c s)) (words _ _ _ (lower x s))) (words _ _ _ (lower y s)))
starts (v21 c y x) s = more_words _ _ _ (both _ _ _ _ (both _ _ _ _ (words _ _ _ (lower c s)) (words _ _ _ (lower y s))) (words _ _ _ (lower x s)))
starts (v22 {es = es} ds f) s = more_words _ _ _ (both _ _ _ _ (all_lower ds (s + 2)) (words _ _ _ (lower f (s + 2 + count es))))
starts v22_valof s = exactly 0
starts (j1 {sense = true} d) s = words _ _ _ (lower d s)
starts (j1 {sense = false} d) s = words _ _ _ (lower d s)
starts (j2 a b) s = by_given _ _ _ refl (both _ _ _ _ (words _ _ _ (lower a (s + 1))) (words _ _ _ (lower b (s + 1))))
starts (j3 a b) s = by_given _ _ _ refl (both _ _ _ _ (words _ _ _ (lower a (s + 1))) (words _ _ _ (lower b (s + 1))))
starts (j4 a b) s = by_given _ _ _ refl (both _ _ _ _ (words _ _ _ (lower a (s + 1))) (words _ _ _ (lower b (s + 1))))
starts (j5 a b) s = by_given _ _ _ refl (both _ _ _ _ (words _ _ _ (lower a (s + 1))) (words _ _ _ (lower b (s + 1))))
starts (j6 {T = T} {e = e} {sense = sense} h d) s = by_j6 T e s _ sense h (words _ _ _ (lower d s))
starts (j7 {sense = true}) s = exactly _
starts (j7 {sense = false}) s = exactly _
starts (j8 {T = T} {a = a} {b = b} {c = c} {sense = true} k h d) s = with_tests T _ _ k (by_given _ _ _ refl (more_words _ 2 _ (part_at _ (beside_zero a b) c (words_at T (Gets Any) (s + 1)) _ (beside_is T a b (s + 1) (words_at T (Gets Any) (s + 1))) h (words _ _ _ (lower d (s + 1))))))
starts (j8 {T = T} {a = a} {b = b} {c = c} {sense = false} k h d) s = with_tests T _ _ k (by_given _ _ _ refl (more_words _ 2 _ (part_at _ (beside_zero a b) c (words_at T (Gets Any) (s + 1)) _ (beside_is T a b (s + 1) (words_at T (Gets Any) (s + 1))) h (words _ _ _ (lower d (s + 1))))))
starts (j9 {T = T} {a = a} {b = b} {c = c} {sense = true} k h d) s = with_tests T _ _ k (by_given _ _ _ refl (more_words _ 2 _ (part_at _ (beside_zero a b) c (words_at T (Gets Any) (s + 1)) _ (beside_is T a b (s + 1) (words_at T (Gets Any) (s + 1))) h (words _ _ _ (lower d (s + 1))))))
starts (j9 {T = T} {a = a} {b = b} {c = c} {sense = false} k h d) s = with_tests T _ _ k (by_given _ _ _ refl (more_words _ 2 _ (part_at _ (beside_zero a b) c (words_at T (Gets Any) (s + 1)) _ (beside_is T a b (s + 1) (words_at T (Gets Any) (s + 1))) h (words _ _ _ (lower d (s + 1))))))
