-- The nodes that a derivation shows are those computed from its tree of rule names, with one line for each rule.
use Rattle.std.proofs.Common.{◌≡◌, ℕ, ◌+◌, Bool, true, false, cond, Some, None, List, [], ◌∷◌, ◌++◌, refl, ap, sym, ◌∙◌}
use Rattle.std.specs.Prelude.{is_some}
use Rattle.bc_word.specs.declared.operator.Op.{Op}
use Rattle.bc_word.specs.declared.operator.Op.TheVariants as operators
use Rattle.bc_core.specs.Tree.{Exp, Num, Frame, Glob, Place, Load, Neg, Not, Bin, Cond, Call, Valof, Args, no_argument, argument, count, Root}
use Rattle.bc_rules_defs.specs.declared.rule.Table.{Table}
use Rattle.bc_rules_defs.specs.declared.rule.Mode.TheVariants.{Any, Push}
use Rattle.bc_rules_defs.specs.declared.rule.Aim.{Aim}
use Rattle.bc_rules_defs.specs.declared.rule.Aim.TheVariants.{Gets}
use Rattle.bc_rules_defs.specs.declared.rule.Rule.TheVariants.{V1, J6}
use Rattle.bc_rules_defs.specs.Free.{is_zero, without_zero}
use Rattle.bc_rules_defs.specs.Takes.{beside}
use Rattle.bc_rules_defs.specs.Rules.{Derives, v0, v1, v2, v3, v4, v6, v7, v8, v9, v10, v11, v12, v13, v14, v15, v16, v17, v18, v19, v20, v21, v22, v22_valof, j1, j2, j3, j4, j5, j6, j7, j8, j9, DerivesAll, no_more, one_more, RootDerives, value, test, a1, a2, a3, Tree, by, no_part, one, end_with, shape, shapes, root_shape}
use Rattle.bc_select_defs.specs.Least.{top}
use Rattle.bc_cert_write.specs.Shown.{Shown, ended, bare, rules_of_value, rules_at, below, all_shown, shown, root_shown}
use Rattle.bc_cert_write.specs.Walked.{first, top_of, is_v0, is_j6, following, own, at_slot, first_slot, second_slot, after_arguments, after_value, after_test, chain_of_value, chain_of, rules_of, below_with, all_with, whole_with, root_with}
use Rattle.bc_cert_write.specs.Nodes.{shown_at}
use Rattle.bc_cert_write.proofs.Bare.{all_bare, bare_parts, bare_is, below_is}

both : (xs ys us vs : List Shown) → xs ≡ us → ys ≡ vs → xs ++ ys ≡ us ++ vs
both xs ys us vs h i = ap (λ l. l ++ ys) h ∙ ap (λ l. us ++ l) i

-- the rules at one node
top_some : (x : Tree) → top_of (Some x) ≡ Some (top x)
top_some (by r xs) = refl

value_chain : {T : Table} {e : Exp} {aim : Aim} (d : Derives T e aim) → rules_of (chain_of_value (Some (shape d))) ≡ rules_of_value d
value_chain (v0 d) = ap (λ o. rules_of (after_value o)) (top_some (shape d))
value_chain d = refl

test_chain : {T : Table} {e : Exp} {aim : Aim} (d : Derives T e aim) → rules_of (after_test (chain_of_value (Some (shape d)))) ≡ J6 ∷ rules_of_value d
test_chain (v0 d) = ap (λ o. rules_of (after_test (after_value o))) (top_some (shape d))
test_chain d = refl

chain_is : {T : Table} {e : Exp} {aim : Aim} (d : Derives T e aim) → rules_of (chain_of (Some (shape d))) ≡ rules_at d
chain_is (j6 h d) = test_chain d
chain_is d = value_chain d

-- the tree itself, unless its outermost rule is J6 or V0
own_pushed : {T : Table} {e : Exp} (d : Derives T e (Gets Push)) → own (Some (shape d)) ≡ Some (shape d)
own_pushed (v1 h) = refl
own_pushed (v2 d) = refl
own_pushed (v3 d) = refl
own_pushed (v4 d) = refl
own_pushed (v6 h d) = refl
own_pushed (v7 h free d) = refl
own_pushed (v8 h d) = refl
own_pushed (v9 d) = refl
own_pushed (v10 h d) = refl
own_pushed (v11 h free d) = refl

no_test : {T : Table} {e : Exp} (d : Derives T e (Gets Any)) → following is_j6 (Some (shape d)) ≡ Some (shape d)
no_test (v0 d) = refl
no_test (v2 d) = refl
no_test (v3 d) = refl
no_test (v4 d) = refl
no_test (v6 h d) = refl
no_test (v7 h free d) = refl
no_test (v8 h d) = refl
no_test (v9 d) = refl
no_test (v10 h d) = refl
no_test (v11 h free d) = refl
no_test (v12 a b) = refl
no_test (v13 h free b a) = refl
no_test (v14 free b a) = refl
no_test (v15 h a b) = refl
no_test (v16 free b a) = refl
no_test (v17 a b) = refl
no_test (v18 a b) = refl
no_test (v19 a b) = refl
no_test (v20 c x y) = refl
no_test (v21 c y x) = refl
no_test (v22 ds f) = refl
no_test v22_valof = refl

-- nodes that show no rule
none_after : (es : Args) → first (after_arguments es no_part) ≡ None
none_after no_argument = refl
none_after (argument e es) = none_after es

bare_node : (e : Exp) (s : ℕ) → below_with shown_at e s None ≡ bare_parts e s → whole_with shown_at e s None ≡ bare e s
bare_node e s h = ap (λ l. ended l e s []) h ∙ sym (bare_is e s)

mutual
  bare_below : (e : Exp) (s : ℕ) → below_with shown_at e s None ≡ bare_parts e s
  bare_below (Num n) s = refl
  bare_below (Frame k) s = refl
  bare_below (Glob n) s = refl
  bare_below (Place m) s = refl
  bare_below (Load e) s = bare_node e s (bare_below e s)
  bare_below (Neg e) s = bare_node e s (bare_below e s)
  bare_below (Not e) s = bare_node e s (bare_below e s)
  bare_below (Bin op a b) s = both _ _ _ _ (bare_node a (s + 1) (bare_below a (s + 1))) (bare_node b (s + 1) (bare_below b (s + 1)))
  bare_below (Cond c x y) s = both _ _ _ _ (both _ _ _ _ (bare_node c s (bare_below c s)) (bare_node x s (bare_below x s))) (bare_node y s (bare_below y s))
  bare_below (Call es f) s =
      both _ _ _ _ (bare_all es (s + 2))
      (ap (λ x. whole_with shown_at f (s + 2 + count es) x) (none_after es) ∙ bare_node f (s + 2 + count es) (bare_below f (s + 2 + count es)))
  bare_below (Valof n) s = refl

  bare_all : (es : Args) (s : ℕ) → all_with shown_at es s no_part ≡ all_bare es s
  bare_all no_argument s = refl
  bare_all (argument e es) s = both _ _ _ _ (bare_node e s (bare_below e s)) (bare_all es (s + 1))

bare_whole : (e : Exp) (s : ℕ) → whole_with shown_at e s None ≡ bare e s
bare_whole e s = bare_node e s (bare_below e s)

operand_below : (e : Exp) (s : ℕ) → below_with shown_at e s (Some (by V1 no_part)) ≡ bare_parts e s
operand_below (Load e) s = bare_below (Load e) s
operand_below e s = bare_below e s

-- the node itself after those below it
whole : {T : Table} {e : Exp} {aim : Aim} (d : Derives T e aim) (s : ℕ) → below_with shown_at e s (own (Some (shape d))) ≡ below d s → whole_with shown_at e s (Some (shape d)) ≡ shown d s
whole {e = e} d s h =
    ap (λ l. l ++ shown_at e s (Some (shape d)) ∷ []) h
    ∙ ap (λ r. ended (below d s) e s r) (chain_is d)

-- the operand beside a 0
dropped : {T : Table} {c : Exp} {aim : Aim} (z : Bool) (a b : Exp) (d : Derives T c aim) (s : ℕ) → cond z (Some a) (Some b) ≡ Some c → whole_with shown_at c s (Some (shape d)) ≡ shown d s
    → whole_with shown_at a s (at_slot (first_slot (beside (Gets Any) z)) (one (shape d))) ++ whole_with shown_at b s (at_slot (second_slot (beside (Gets Any) z)) (one (shape d))) ≡ cond z (shown d s ++ bare b s) (bare a s ++ shown d s)
dropped {c = c} true a b d s h k =
    let i : a ≡ c = cc in
    both _ _ _ _ (ap (λ e. whole_with shown_at e s (Some (shape d))) i ∙ k) (bare_whole b s)
dropped {c = c} false a b d s h k =
    let i : b ≡ c = cc in
    both _ _ _ _ (bare_whole a s) (ap (λ e. whole_with shown_at e s (Some (shape d))) i ∙ k)

kept_of : (y z : Bool) (a b c : Exp) → cond z (Some a) (cond y (Some b) None) ≡ Some c → cond z (Some a) (Some b) ≡ Some c
kept_of y true a b c h = h
kept_of true false a b c h = h
kept_of false false a b c h = cc

kept_left : (z : Bool) (a b c : Exp) → cond z (Some a) None ≡ Some c → cond z (Some a) (Some b) ≡ Some c
kept_left true a b c h = h
kept_left false a b c h = cc

pub kept : (op : Op) (a b c : Exp) → without_zero op a b ≡ Some c → cond (is_zero b) (Some a) (Some b) ≡ Some c
kept operators.Add a b c h = kept_of (is_zero a) (is_zero b) a b c h
kept operators.Subtract a b c h = kept_left (is_zero b) a b c h
kept op a b c h = cc

-- the routine's tree is after those of the arguments
routine_tree : {T : Table} {es : Args} (ds : DerivesAll T es) (x : Tree) → first (after_arguments es (end_with (shapes ds) x)) ≡ Some x
routine_tree no_more x = refl
routine_tree (one_more d ds) x = routine_tree ds x

mutual
  pub nodes_below : {T : Table} {e : Exp} {aim : Aim} (d : Derives T e aim) (s : ℕ) → below_with shown_at e s (own (Some (shape d))) ≡ below d s
  nodes_below (v0 {e = e} d) s = ap (λ y. below_with shown_at e s y) (sym (own_pushed d)) ∙ nodes_below d s
  nodes_below (v1 {e = e} h) s = operand_below e s ∙ sym (below_is e s)
  nodes_below (v2 d) s = whole d s (nodes_below d s)
  nodes_below (v3 d) s = whole d s (nodes_below d s)
  nodes_below (v4 d) s = whole d s (nodes_below d s)
  nodes_below (v6 {b = b} h d) s = both _ _ _ _ (whole d (s + 1) (nodes_below d (s + 1))) (bare_whole b (s + 1))
  nodes_below (v7 {a = a} h free d) s = both _ _ _ _ (bare_whole a (s + 1)) (whole d (s + 1) (nodes_below d (s + 1)))
  nodes_below (v8 {op = op} {a = a} {b = b} {c = c} h d) s = dropped (is_zero b) a b d (s + 1) (kept op a b c h) (whole d (s + 1) (nodes_below d (s + 1)))
  nodes_below (v9 {n = n} d) s = both _ _ _ _ (whole d (s + 1) (nodes_below d (s + 1))) (bare_whole (Num n) (s + 1))
  nodes_below (v10 {b = b} h d) s = both _ _ _ _ (whole d (s + 1) (nodes_below d (s + 1))) (bare_whole b (s + 1))
  nodes_below (v11 {a = a} h free d) s = both _ _ _ _ (bare_whole a (s + 1)) (whole d (s + 1) (nodes_below d (s + 1)))
  nodes_below (v12 a b) s = both _ _ _ _ (whole a (s + 1) (nodes_below a (s + 1))) (whole b (s + 1) (nodes_below b (s + 1)))
  nodes_below (v13 h free b a) s = both _ _ _ _ (whole a (s + 1) (nodes_below a (s + 1))) (whole b (s + 1) (nodes_below b (s + 1)))
  nodes_below (v14 free b a) s = both _ _ _ _ (whole a (s + 1) (nodes_below a (s + 1))) (whole b (s + 1) (nodes_below b (s + 1)))
  nodes_below (v15 h a b) s = both _ _ _ _ (whole a (s + 1) (nodes_below a (s + 1))) (whole b (s + 1) (nodes_below b (s + 1)))
  nodes_below (v16 free b a) s = both _ _ _ _ (whole a (s + 1) (nodes_below a (s + 1))) (whole b (s + 1) (nodes_below b (s + 1)))
  nodes_below (v17 a b) s = both _ _ _ _ (whole a (s + 1) (nodes_below a (s + 1))) (whole b (s + 1) (nodes_below b (s + 1)))
  nodes_below (v18 a b) s = both _ _ _ _ (whole a (s + 1) (nodes_below a (s + 1))) (whole b (s + 1) (nodes_below b (s + 1)))
  nodes_below (v19 a b) s = both _ _ _ _ (whole a (s + 1) (nodes_below a (s + 1))) (whole b (s + 1) (nodes_below b (s + 1)))
  nodes_below (v20 c x y) s = both _ _ _ _ (both _ _ _ _ (whole c s (nodes_below c s)) (whole x s (nodes_below x s))) (whole y s (nodes_below y s))
  nodes_below (v21 c y x) s = both _ _ _ _ (both _ _ _ _ (whole c s (nodes_below c s)) (whole x s (nodes_below x s))) (whole y s (nodes_below y s))
  nodes_below (v22 {es = es} {f = e} ds f) s =
      both _ _ _ _ (nodes_of_all ds (shape f) (s + 2))
      (ap (λ x. whole_with shown_at e (s + 2 + count es) x) (routine_tree ds (shape f)) ∙ whole f (s + 2 + count es) (nodes_below f (s + 2 + count es)))
  nodes_below v22_valof s = refl
  nodes_below (j1 d) s = whole d s (nodes_below d s)
  nodes_below (j2 a b) s = both _ _ _ _ (whole a (s + 1) (nodes_below a (s + 1))) (whole b (s + 1) (nodes_below b (s + 1)))
  nodes_below (j3 a b) s = both _ _ _ _ (whole a (s + 1) (nodes_below a (s + 1))) (whole b (s + 1) (nodes_below b (s + 1)))
  nodes_below (j4 a b) s = both _ _ _ _ (whole a (s + 1) (nodes_below a (s + 1))) (whole b (s + 1) (nodes_below b (s + 1)))
  nodes_below (j5 a b) s = both _ _ _ _ (whole a (s + 1) (nodes_below a (s + 1))) (whole b (s + 1) (nodes_below b (s + 1)))
  nodes_below (j6 {e = e} h d) s = ap (λ y. below_with shown_at e s (following is_v0 y)) (sym (no_test d)) ∙ nodes_below d s
  nodes_below j7 s = refl
  nodes_below (j8 {a = a} {b = b} {c = c} h k d) s = dropped (is_zero b) a b d (s + 1) (kept_of (is_zero a) (is_zero b) a b c k) (whole d (s + 1) (nodes_below d (s + 1)))
  nodes_below (j9 {a = a} {b = b} {c = c} h k d) s = dropped (is_zero b) a b d (s + 1) (kept_of (is_zero a) (is_zero b) a b c k) (whole d (s + 1) (nodes_below d (s + 1)))

  pub nodes_of_all : {T : Table} {es : Args} (ds : DerivesAll T es) (x : Tree) (s : ℕ) → all_with shown_at es s (end_with (shapes ds) x) ≡ all_shown ds s
  nodes_of_all no_more x s = refl
  nodes_of_all (one_more d ds) x s = both _ _ _ _ (whole d s (nodes_below d s)) (nodes_of_all ds x (s + 1))

pub nodes_shown : {T : Table} {e : Exp} {aim : Aim} (d : Derives T e aim) (s : ℕ) → whole_with shown_at e s (Some (shape d)) ≡ shown d s
nodes_shown d s = whole d s (nodes_below d s)

pub root_nodes_shown : {T : Table} {r : Root} (d : RootDerives T r) → root_with shown_at r (root_shape d) ≡ root_shown d
root_nodes_shown (value {s = s} d) = nodes_shown d s
root_nodes_shown (test {s = s} d) = nodes_shown d s
root_nodes_shown (a1 {s = s} {v = v} {a = a} h d) =
    ap (λ p. whole_with shown_at v (cond (is_some p) s (s + 1)) (Some (shape d)) ++ whole_with shown_at a (cond (is_some p) s (s + 1)) None) h
    ∙ both _ _ _ _ (nodes_shown d s) (bare_whole a s)
root_nodes_shown (a2 {s = s} {v = v} {a = a} h free b d) =
    ap (λ p. whole_with shown_at v (cond (is_some p) s (s + 1)) (Some (shape d)) ++ whole_with shown_at a (cond (is_some p) s (s + 1)) (Some (shape b))) h
    ∙ both _ _ _ _ (nodes_shown d (s + 1)) (nodes_shown b (s + 1))
root_nodes_shown (a3 {s = s} {v = v} {a = a} h d b) =
    ap (λ p. whole_with shown_at v (cond (is_some p) s (s + 1)) (Some (shape d)) ++ whole_with shown_at a (cond (is_some p) s (s + 1)) (Some (shape b))) h
    ∙ both _ _ _ _ (nodes_shown d (s + 1)) (nodes_shown b (s + 1))
