-- `fits` over lists of derivations, as the program walks them.
use Rattle.std.proofs.Common.{◌≡◌, ℕ, ◌+◌, ◌<◌, ◌≤◌, Bool, true, false, not, ◌&&◌, ◌||◌, Option, Some, None, is_some, List, [], ◌∷◌, length, get_or, drop, refl, sym, ap, ◌∙◌, arith, ⊎_elim, length-drop}
use Rattle.std.proofs.lemmas.List.{drop_all}
use Rattle.std.proofs.lemmas.Bool.{cases_lt}
use Rattle.bc_core.specs.declared.expression.CoreExp.{CoreExp}
use Rattle.bc_core.specs.declared.operands.Operand.{Operand}
use Rattle.bc_core.specs.Operand.{operand_of}
use Rattle.bc_rules_defs.specs.Free.{is_direct}
use Rattle.bc_core.specs.Tree.{Exp, Args, no_argument, argument}
use Rattle.bc_core.specs.Value.{has_call}
use Rattle.bc_core.specs.View.{exp, args}
use Rattle.bc_rules_defs.specs.declared.derivation.Derivation.{Derivation, out-Derivation}
use Rattle.bc_rules_defs.specs.declared.rule.Table.{Table}
use Rattle.bc_rules_defs.specs.declared.rule.Mode.TheVariants.{Any}
use Rattle.bc_rules_defs.specs.declared.rule.Aim.{Aim}
use Rattle.bc_rules_defs.specs.declared.rule.Aim.TheVariants.{Gets}
use Rattle.bc_rules_defs.specs.declared.rule.Rule.{Rule}
use Rattle.bc_rules_defs.specs.declared.rule.Rule.TheVariants.{A1, A2, A3}
use Rattle.bc_rules_defs.specs.Rules.{Trees, by, no_part, part}
use Rattle.bc_rules_defs.specs.Parts.{Parts, no_rule, leaf, single, pair, triple, called, parts_of, assignment_parts, where_none}
use Rattle.bc_rules_defs.specs.View.{derivation, derivations}
use Rattle.bc_rules.specs.Fits.{in_table, turns_freely, may_turn, fits, parts_fit, parts_call, found, sides_free, sides_turn, assignment_fits}
use Rattle.bc_rules.proofs.Trees.{tree_view, one_tree, two_trees, three_trees, next_tree, next_argument}
use Rattle.bc_rules.proofs.Calls.{whole_call}

found_false : (b c : Bool) → found b c ≡ None → b ≡ false
found_false true c h = cc
found_false false c h = refl

found_true : (b c x : Bool) → found b c ≡ Some x → (b ≡ true) × (c ≡ x)
found_true true c x h = (refl, cc)
found_true false c x h = cc

none_by : (b c : Bool) → b ≡ false → found b c ≡ None
none_by b c h = ap (λ z. found z c) h

some_by : (b c x : Bool) → b ≡ true → c ≡ x → found b c ≡ Some x
some_by b c x h i = ap (λ z. found z c) h ∙ ap Some i

left_false : (a b : Bool) → a ≡ false → (a && b) ≡ false
left_false a b h = ap (λ z. z && b) h

right_false : (a b : Bool) → b ≡ false → (a && b) ≡ false
right_false true b h = h
right_false false b h = refl

both_true : (a b : Bool) → a ≡ true → b ≡ true → (a && b) ≡ true
both_true a b h i = ap (λ z. z && b) h ∙ i

-- one, two and three parts
not_one : (T : Table) (xs : List Derivation) (m : Aim) (a : Exp) → (length xs ≡ 1 → ⊥) → parts_fit T (single m a) (derivations xs) ≡ false
not_one T [] m a h = refl
not_one T (x ∷ []) m a h = absurd (h (omega arith))
not_one T (x ∷ y ∷ xs) m a h = refl

not_two : (T : Table) (xs : List Derivation) (m n : Aim) (a b : Exp) → (length xs ≡ 2 → ⊥) → parts_fit T (pair m a n b) (derivations xs) ≡ false
not_two T [] m n a b h = refl
not_two T (x ∷ []) m n a b h = refl
not_two T (x ∷ y ∷ []) m n a b h = absurd (h (omega arith))
not_two T (x ∷ y ∷ z ∷ xs) m n a b h = refl

not_three : (T : Table) (xs : List Derivation) (m n l : Aim) (a b c : Exp) → (length xs ≡ 3 → ⊥) → parts_fit T (triple m a n b l c) (derivations xs) ≡ false
not_three T [] m n l a b c h = refl
not_three T (x ∷ []) m n l a b c h = refl
not_three T (x ∷ y ∷ []) m n l a b c h = refl
not_three T (x ∷ y ∷ z ∷ []) m n l a b c h = absurd (h (omega arith))
not_three T (x ∷ y ∷ z ∷ u ∷ xs) m n l a b c h = refl

pub misfit_one : (T : Table) (xs : List Derivation) (m : Aim) (a : Exp) (k : Bool) → (length xs ≡ 1 → ⊥) → None ≡ found (parts_fit T (single m a) (derivations xs)) k
misfit_one T xs m a k h = sym (none_by _ k (not_one T xs m a h))

pub fit_one : (T : Table) (xs : List Derivation) (d : Derivation) (m : Aim) (a : Exp) (k : Bool) → length xs ≡ 1 → found (fits T (derivation (get_or xs 0 d)) m a) k ≡ found (parts_fit T (single m a) (derivations xs)) k
fit_one T xs d m a k h = sym (ap (λ ds. found (parts_fit T (single m a) ds) k) (one_tree xs d h))

pub misfit_two : (T : Table) (xs : List Derivation) (m n : Aim) (a b : Exp) (k : Bool) → (length xs ≡ 2 → ⊥) → None ≡ found (parts_fit T (pair m a n b) (derivations xs)) k
misfit_two T xs m n a b k h = sym (none_by _ k (not_two T xs m n a b h))

pair_is : (T : Table) (xs : List Derivation) (d : Derivation) (m n : Aim) (a b : Exp) → length xs ≡ 2 → parts_fit T (pair m a n b) (derivations xs) ≡ (fits T (derivation (get_or xs 0 d)) m a && fits T (derivation (get_or xs 1 d)) n b)
pair_is T xs d m n a b h = ap (parts_fit T (pair m a n b)) (two_trees xs d h)

pub pair_no_first : (T : Table) (xs : List Derivation) (d : Derivation) (m n : Aim) (a b : Exp) (k l : Bool) → length xs ≡ 2 → found (fits T (derivation (get_or xs 0 d)) m a) l ≡ None → None ≡ found (parts_fit T (pair m a n b) (derivations xs)) k
pair_no_first T xs d m n a b k l h i = sym (none_by _ k (pair_is T xs d m n a b h ∙ left_false _ _ (found_false _ l i)))

pub pair_no_second : (T : Table) (xs : List Derivation) (d : Derivation) (m n : Aim) (a b : Exp) (k l : Bool) → length xs ≡ 2 → found (fits T (derivation (get_or xs 1 d)) n b) l ≡ None → None ≡ found (parts_fit T (pair m a n b) (derivations xs)) k
pair_no_second T xs d m n a b k l h i = sym (none_by _ k (pair_is T xs d m n a b h ∙ right_false _ _ (found_false _ l i)))

pub pair_both : (T : Table) (xs : List Derivation) (d : Derivation) (m n : Aim) (a b : Exp) (x y : Bool) → length xs ≡ 2
    → found (fits T (derivation (get_or xs 0 d)) m a) (has_call a) ≡ Some x → found (fits T (derivation (get_or xs 1 d)) n b) (has_call b) ≡ Some y
    → Some (x || y) ≡ found (parts_fit T (pair m a n b) (derivations xs)) (has_call a || has_call b)
pair_both T xs d m n a b x y h i j =
    let p = found_true _ (has_call a) x i in let q = found_true _ (has_call b) y j in
    sym (some_by _ _ (x || y) (pair_is T xs d m n a b h ∙ both_true _ _ p.0 q.0) (ap (λ z. z || has_call b) p.1 ∙ ap (λ z. x || z) q.1))

pub misfit_three : (T : Table) (xs : List Derivation) (m n l : Aim) (a b c : Exp) (k : Bool) → (length xs ≡ 3 → ⊥) → None ≡ found (parts_fit T (triple m a n b l c) (derivations xs)) k
misfit_three T xs m n l a b c k h = sym (none_by _ k (not_three T xs m n l a b c h))

triple_is : (T : Table) (xs : List Derivation) (d : Derivation) (m n l : Aim) (a b c : Exp) → length xs ≡ 3 → parts_fit T (triple m a n b l c) (derivations xs) ≡ (fits T (derivation (get_or xs 0 d)) m a && (fits T (derivation (get_or xs 1 d)) n b && fits T (derivation (get_or xs 2 d)) l c))
triple_is T xs d m n l a b c h = ap (parts_fit T (triple m a n b l c)) (three_trees xs d h)

pub triple_no_first : (T : Table) (xs : List Derivation) (d : Derivation) (m n l : Aim) (a b c : Exp) (k j : Bool) → length xs ≡ 3 → found (fits T (derivation (get_or xs 0 d)) m a) j ≡ None → None ≡ found (parts_fit T (triple m a n b l c) (derivations xs)) k
triple_no_first T xs d m n l a b c k j h i = sym (none_by _ k (triple_is T xs d m n l a b c h ∙ left_false _ _ (found_false _ j i)))

pub triple_no_second : (T : Table) (xs : List Derivation) (d : Derivation) (m n l : Aim) (a b c : Exp) (k j : Bool) → length xs ≡ 3 → found (fits T (derivation (get_or xs 1 d)) n b) j ≡ None → None ≡ found (parts_fit T (triple m a n b l c) (derivations xs)) k
triple_no_second T xs d m n l a b c k j h i = sym (none_by _ k (triple_is T xs d m n l a b c h ∙ right_false _ _ (left_false _ _ (found_false _ j i))))

pub triple_no_third : (T : Table) (xs : List Derivation) (d : Derivation) (m n l : Aim) (a b c : Exp) (k j : Bool) → length xs ≡ 3 → found (fits T (derivation (get_or xs 2 d)) l c) j ≡ None → None ≡ found (parts_fit T (triple m a n b l c) (derivations xs)) k
triple_no_third T xs d m n l a b c k j h i = sym (none_by _ k (triple_is T xs d m n l a b c h ∙ right_false _ _ (right_false _ _ (found_false _ j i))))

pub triple_all : (T : Table) (xs : List Derivation) (d : Derivation) (m n l : Aim) (a b c : Exp) (x y z : Bool) → length xs ≡ 3
    → found (fits T (derivation (get_or xs 0 d)) m a) (has_call a) ≡ Some x → found (fits T (derivation (get_or xs 1 d)) n b) (has_call b) ≡ Some y → found (fits T (derivation (get_or xs 2 d)) l c) (has_call c) ≡ Some z
    → Some ((x || y) || z) ≡ found (parts_fit T (triple m a n b l c) (derivations xs)) ((has_call a || has_call b) || has_call c)
triple_all T xs d m n l a b c x y z h i j k =
    let p = found_true _ (has_call a) x i in let q = found_true _ (has_call b) y j in let r = found_true _ (has_call c) z k in
    sym (some_by _ _ ((x || y) || z) (triple_is T xs d m n l a b c h ∙ both_true _ _ p.0 (both_true _ _ q.0 r.0)) (ap (λ u. (u || has_call b) || has_call c) p.1 ∙ ap (λ u. (x || u) || has_call c) q.1 ∙ ap (λ u. (x || y) || u) r.1))

-- no parts
pub leaf_misfit : (T : Table) (xs : List Derivation) (v k : Bool) → 1 ≤ length xs → None ≡ found (parts_fit T (leaf v) (derivations xs)) k
leaf_misfit T [] v k h = absurd (omega arith)
leaf_misfit T (x ∷ xs) v k h = refl

-- a call's parts, from the i-th on
call_first : (T : Table) (xs : List Derivation) (es : List CoreExp) (f : Exp) (i n : ℕ) (d : Derivation) (e : CoreExp) → i < length xs → i < length es
    → parts_fit T (called n (args (drop i es)) f) (derivations (drop i xs)) ≡ (fits T (derivation (get_or xs i d)) (Gets Any) (exp (get_or es i e)) && parts_fit T (called (n + 1) (args (drop (i + 1) es)) f) (derivations (drop (i + 1) xs)))
call_first T xs es f i n d e h k =
    ap (λ ds. parts_fit T (called n (args (drop i es)) f) ds) (next_tree xs i d h)
    ∙ ap (λ more. parts_fit T (called n more f) (part (derivation (get_or xs i d)) (derivations (drop (i + 1) xs)))) (next_argument es i e k)

pub call_next : (T : Table) (xs : List Derivation) (es : List CoreExp) (f : Exp) (i : ℕ) (d : Derivation) (e : CoreExp) (c : Bool) → i < length xs → i < length es
    → found (fits T (derivation (get_or xs i d)) (Gets Any) (exp (get_or es i e))) (has_call (exp (get_or es i e))) ≡ Some c
    → parts_fit T (called i (args (drop i es)) f) (derivations (drop i xs)) ≡ parts_fit T (called (i + 1) (args (drop (i + 1) es)) f) (derivations (drop (i + 1) xs))
call_next T xs es f i d e c h k j = call_first T xs es f i i d e h k ∙ ap (λ z. z && parts_fit T (called (i + 1) (args (drop (i + 1) es)) f) (derivations (drop (i + 1) xs))) (found_true _ _ c j).0

pub call_stops : (T : Table) (xs : List Derivation) (es : List CoreExp) (f : Exp) (i : ℕ) (d : Derivation) (e : CoreExp) (c : Bool) → i < length xs → i < length es
    → found (fits T (derivation (get_or xs i d)) (Gets Any) (exp (get_or es i e))) c ≡ None
    → parts_fit T (called i (args (drop i es)) f) (derivations (drop i xs)) ≡ false
call_stops T xs es f i d e c h k j = call_first T xs es f i i d e h k ∙ left_false _ _ (found_false _ c j)

pub call_short : (T : Table) (xs : List Derivation) (es : List CoreExp) (f : Exp) (i : ℕ) → length xs ≤ i → parts_fit T (called i (args (drop i es)) f) (derivations (drop i xs)) ≡ false
call_short T xs es f i h = ap (λ ds. parts_fit T (called i (args (drop i es)) f) (derivations ds)) (drop_all i xs h) ∙ nothing (args (drop i es)) where
  nothing : (more : Args) → parts_fit T (called i more f) no_part ≡ false
  nothing no_argument = refl
  nothing (argument a more) = refl

pub call_last : (T : Table) (xs : List Derivation) (es : List CoreExp) (f : Exp) (n : ℕ) (d : Derivation) → n ≡ length es → length xs ≡ n + 1
    → parts_fit T (called n (args (drop n es)) f) (derivations (drop n xs)) ≡ fits T (derivation (get_or xs n d)) (Gets Any) f
call_last T xs es f n d h k =
    let end : drop n es ≡ [] = drop_all n es (omega arith) in
    let last : drop (n + 1) xs ≡ [] = drop_all (n + 1) xs (omega arith) in
    ap (λ more. parts_fit T (called n (args more) f) (derivations (drop n xs))) end
    ∙ ap (λ ds. parts_fit T (called n no_argument f) ds) (next_tree xs n d (omega arith))
    ∙ ap (λ ds. parts_fit T (called n no_argument f) (part (derivation (get_or xs n d)) (derivations ds))) last

two_more : (T : Table) (n : ℕ) (ys : List Derivation) (f : Exp) → 2 ≤ length ys → parts_fit T (called n no_argument f) (derivations ys) ≡ false
two_more T n [] f h = absurd (omega arith)
two_more T n (y ∷ []) f h = absurd (omega arith)
two_more T n (y ∷ z ∷ ys) f h = refl

call_long : (T : Table) (xs : List Derivation) (es : List CoreExp) (f : Exp) (n : ℕ) → n ≡ length es → n + 2 ≤ length xs
    → parts_fit T (called n (args (drop n es)) f) (derivations (drop n xs)) ≡ false
call_long T xs es f n h k =
    let end : drop n es ≡ [] = drop_all n es (omega arith) in
    ap (λ more. parts_fit T (called n (args more) f) (derivations (drop n xs))) end
    ∙ two_more T n (drop n xs) f (omega (arith, length-drop n xs))

-- a rule, its table, and its order of evaluation
rule_view : (T : Table) (d : Derivation) (aim : Aim) (e : Exp) → fits T (derivation d) aim e ≡ fits T (by (out-Derivation d).rule (derivations (out-Derivation d).parts.items)) aim e
rule_view T d aim e = ap (λ x. fits T x aim e) (tree_view d)

pub no_table : (T : Table) (d : Derivation) (aim : Aim) (e : Exp) → in_table T (out-Derivation d).rule ≡ false → None ≡ found (fits T (derivation d) aim e) (has_call e)
no_table T d aim e h = sym (none_by _ (has_call e) (rule_view T d aim e ∙ left_false _ _ h))

pub no_parts : (T : Table) (d : Derivation) (aim : Aim) (e : Exp) → found (parts_fit T (parts_of (out-Derivation d).rule aim e) (derivations (out-Derivation d).parts.items)) (parts_call (parts_of (out-Derivation d).rule aim e)) ≡ None → None ≡ found (fits T (derivation d) aim e) (has_call e)
no_parts T d aim e h =
    sym (none_by _ (has_call e) (rule_view T d aim e ∙ right_false (in_table T (out-Derivation d).rule) _ (right_false (may_turn (out-Derivation d).rule e) _ (found_false _ _ h))))

applies : (T : Table) (p : Parts) (ds : Trees) → parts_fit T p ds ≡ true → p ≡ no_rule → ⊥
applies T p ds h e = let no : parts_fit T no_rule ds ≡ true = sym (ap (λ z. parts_fit T z ds) e) ∙ h in cc

whole : (T : Table) (d : Derivation) (aim : Aim) (e : Exp) (c : Bool) → found (parts_fit T (parts_of (out-Derivation d).rule aim e) (derivations (out-Derivation d).parts.items)) (parts_call (parts_of (out-Derivation d).rule aim e)) ≡ Some c → has_call e ≡ c
whole T d aim e c h =
    let p = found_true _ _ c h in
    sym (whole_call (out-Derivation d).rule aim e (applies T (parts_of (out-Derivation d).rule aim e) (derivations (out-Derivation d).parts.items) p.0)) ∙ p.1

pub not_free : (T : Table) (d : Derivation) (aim : Aim) (e : Exp) (c : Bool) → found (parts_fit T (parts_of (out-Derivation d).rule aim e) (derivations (out-Derivation d).parts.items)) (parts_call (parts_of (out-Derivation d).rule aim e)) ≡ Some c → turns_freely (out-Derivation d).rule c e ≡ false → None ≡ found (fits T (derivation d) aim e) (has_call e)
not_free T d aim e c h i =
    sym (none_by _ (has_call e) (rule_view T d aim e ∙ right_false (in_table T (out-Derivation d).rule) _ (left_false _ _ (ap (λ z. turns_freely (out-Derivation d).rule z e) (whole T d aim e c h) ∙ i))))

pub derives_it : (T : Table) (d : Derivation) (aim : Aim) (e : Exp) (c : Bool) → in_table T (out-Derivation d).rule ≡ true → found (parts_fit T (parts_of (out-Derivation d).rule aim e) (derivations (out-Derivation d).parts.items)) (parts_call (parts_of (out-Derivation d).rule aim e)) ≡ Some c → turns_freely (out-Derivation d).rule c e ≡ true → Some c ≡ found (fits T (derivation d) aim e) (has_call e)
derives_it T d aim e c h i j =
    sym (some_by _ (has_call e) c (rule_view T d aim e ∙ both_true _ _ h (both_true _ _ (ap (λ z. turns_freely (out-Derivation d).rule z e) (whole T d aim e c i) ∙ j) (found_true _ _ c i).0)) (whole T d aim e c i))

-- a call, after the walk over its arguments
misfit_at_end : (T : Table) (xs : List Derivation) (es : List CoreExp) (f : Exp) (n : ℕ) → n ≡ length es → (length xs ≡ n + 1 → ⊥) → parts_fit T (called n (args (drop n es)) f) (derivations (drop n xs)) ≡ false
misfit_at_end T xs es f n h k =
    ⊎_elim (λ long. call_long T xs es f n h (over (length xs) n long k)) (λ short. call_short T xs es f n short) (cases_lt n (length xs)) where
      over : (m n : ℕ) → n < m → (m ≡ n + 1 → ⊥) → n + 2 ≤ m
      over m n h k = omega arith

pub call_end_misfit : (T : Table) (xs : List Derivation) (es : List CoreExp) (f : Exp) (i : ℕ) → parts_fit T (called 0 (args es) f) (derivations xs) ≡ parts_fit T (called i (args (drop i es)) f) (derivations (drop i xs)) → i ≡ length es → (length xs ≡ i + 1 → ⊥) → None ≡ found (parts_fit T (called 0 (args es) f) (derivations xs)) true
call_end_misfit T xs es f i e h k = sym (none_by _ true (e ∙ misfit_at_end T xs es f i h k))

pub call_end_none : (T : Table) (xs : List Derivation) (es : List CoreExp) (f : Exp) (i : ℕ) (d y : Derivation) (c : Bool) → parts_fit T (called 0 (args es) f) (derivations xs) ≡ parts_fit T (called i (args (drop i es)) f) (derivations (drop i xs)) → i ≡ length es → length xs ≡ i + 1 → y ≡ get_or xs (length es) d → found (fits T (derivation y) (Gets Any) f) c ≡ None → None ≡ found (parts_fit T (called 0 (args es) f) (derivations xs)) true
call_end_none T xs es f i d y c e h k g j = sym (none_by _ true (e ∙ call_last T xs es f i d h k ∙ ap (λ n. fits T (derivation (get_or xs n d)) (Gets Any) f) h ∙ ap (λ z. fits T (derivation z) (Gets Any) f) (sym g) ∙ found_false _ c j))

pub call_end_some : (T : Table) (xs : List Derivation) (es : List CoreExp) (f : Exp) (i : ℕ) (d y : Derivation) (c x : Bool) → parts_fit T (called 0 (args es) f) (derivations xs) ≡ parts_fit T (called i (args (drop i es)) f) (derivations (drop i xs)) → i ≡ length es → length xs ≡ i + 1 → y ≡ get_or xs (length es) d → found (fits T (derivation y) (Gets Any) f) c ≡ Some x → Some true ≡ found (parts_fit T (called 0 (args es) f) (derivations xs)) true
call_end_some T xs es f i d y c x e h k g j = sym (some_by _ true true (e ∙ call_last T xs es f i d h k ∙ ap (λ n. fits T (derivation (get_or xs n d)) (Gets Any) f) h ∙ ap (λ z. fits T (derivation z) (Gets Any) f) (sym g) ∙ (found_true _ c x j).0) refl)

-- an assignment
found_is_some : (b c : Bool) (r : Option Bool) → r ≡ found b c → is_some r ≡ b
found_is_some true c r h = ap is_some h
found_is_some false c r h = ap is_some h

pub is_found : (b c r : Bool) (o : Option Bool) → o ≡ found b c → r ≡ is_some o → r ≡ b
is_found b c r o h i = i ∙ found_is_some b c o h

assignment_view : (T : Table) (d : Derivation) (v a : Exp) → assignment_fits T (derivation d) v a ≡ assignment_fits T (by (out-Derivation d).rule (derivations (out-Derivation d).parts.items)) v a
assignment_view T d v a = ap (λ x. assignment_fits T x v a) (tree_view d)

pub not_assigned : (T : Table) (d : Derivation) (v a : Exp) (c : Bool) → found (parts_fit T (assignment_parts (out-Derivation d).rule v a) (derivations (out-Derivation d).parts.items)) c ≡ None → false ≡ assignment_fits T (derivation d) v a
not_assigned T d v a c h = sym (assignment_view T d v a ∙ right_false (sides_free (out-Derivation d).rule v a) _ (found_false _ c h))

-- the two forms of the condition that the sides are free
swapped : (x y : Bool) → (y || x) ≡ (x || y)
swapped true true = refl
swapped true false = refl
swapped false true = refl
swapped false false = refl

sides_known : (r : Rule) (v a : Exp) → (assignment_parts r v a ≡ no_rule → ⊥) → sides_turn r (parts_call (assignment_parts r v a)) v a ≡ sides_free r v a
sides_known A1 v a h = refl
sides_known A2 v a h = known (operand_of a) h where
  known : (x : Option Operand) → (where_none x (pair (Gets Any) a (Gets Any) v) ≡ no_rule → ⊥) → sides_turn A2 (parts_call (where_none x (pair (Gets Any) a (Gets Any) v))) v a ≡ sides_free A2 v a
  known None k = ap (λ z. not z || is_direct v || is_direct a) (swapped (has_call v) (has_call a))
  known (Some o) k = absurd (k refl)
sides_known A3 v a h = refl
sides_known r v a h = absurd (h refl)

pub assigned : (T : Table) (d : Derivation) (v a : Exp) (c x : Bool) → found (parts_fit T (assignment_parts (out-Derivation d).rule v a) (derivations (out-Derivation d).parts.items)) (parts_call (assignment_parts (out-Derivation d).rule v a)) ≡ Some c → x ≡ sides_turn (out-Derivation d).rule c v a → x ≡ assignment_fits T (derivation d) v a
assigned T d v a c x h i =
    let p = found_true _ (parts_call (assignment_parts (out-Derivation d).rule v a)) c h in
    let free = sides_known (out-Derivation d).rule v a (applies T (assignment_parts (out-Derivation d).rule v a) (derivations (out-Derivation d).parts.items) p.0) in
    i ∙ ap (λ z. sides_turn (out-Derivation d).rule z v a) (sym p.1) ∙ free ∙ sym (and_true _ _ p.0) ∙ sym (assignment_view T d v a) where
      and_true : (y z : Bool) → z ≡ true → (y && z) ≡ y
      and_true true z h = h
      and_true false z h = refl
