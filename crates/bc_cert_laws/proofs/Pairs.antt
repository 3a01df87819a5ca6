-- The rules at a dyadic operator: which ones the checker finds, from what the lines of the two operands show.
use Rattle.std.proofs.Common.{◌≡◌, ℕ, ◌+◌, ◌*◌, Bool, true, false, cond, Option, Some, None, List, [], ◌∷◌, ◌++◌, is_some, refl, ap, sym, subst, ◌∙◌, arith}
use Rattle.bc_word.specs.declared.operator.Op.{Op}
use Rattle.bc_word.specs.declared.operator.Op.TheVariants.{Add, Subtract, Equal, NotEqual, And, Or}
use Rattle.bc_word.specs.Words.{negated}
use Rattle.bc_word.specs.Mirror.{mirror_of}
use Rattle.bc_core.specs.Tree.{Exp, Num, Bin}
use Rattle.bc_core.specs.Value.{has_call}
use Rattle.bc_core.specs.Operand.{operand_of, constant_of}
use Rattle.bc_rules_defs.specs.declared.rule.Table.{Table}
use Rattle.bc_rules_defs.specs.declared.rule.Table.TheVariants.{One, Two}
use Rattle.bc_rules_defs.specs.declared.rule.Mode.{Mode}
use Rattle.bc_rules_defs.specs.declared.rule.Mode.TheVariants.{Any, Push}
use Rattle.bc_rules_defs.specs.declared.rule.Aim.{Aim}
use Rattle.bc_rules_defs.specs.declared.rule.Aim.TheVariants.{Gets, Jumps}
use Rattle.bc_rules_defs.specs.declared.rule.Rule.{Rule}
use Rattle.bc_rules_defs.specs.declared.rule.Rule.TheVariants.{V1, V6, V7, V8, V9, V10, V11, V12, V13, V14, V15, V16, V17, V18, V19, J2, J3, J4, J5, J8, J9}
use Rattle.bc_rules_defs.specs.Free.{is_zero, beside_zero as beside_zero_of, without_zero as without_zero_of}
use Rattle.bc_rules_defs.specs.Piece.{w, operand_words}
use Rattle.bc_rules_defs.specs.Rules.{Derives, Tree, v6, v7, v8, v9, v10, v11, v12, v13, v14, v15, v16, v17, v18, v19, v0, v1, j6, by, one, two as pair_of, shape, j2, j3, j4, j5, j8, j9}
use Rattle.bc_rules_defs.specs.Code.{cost}
use Rattle.bc_select_defs.specs.Least.{first_rule}
use Rattle.bc_select_defs.specs.Choices.{zero_number, has_tests_of_zero}
use Rattle.bc_select_defs.specs.Lower.{is_zero_is}
use Rattle.bc_cert_read.specs.declared.facts.Facts.{Facts}
use Rattle.bc_cert_read.specs.declared.form.Form.TheVariants as forms
use Rattle.bc_rules_defs.specs.declared.takes.Takes.TheVariants.{First, Second}
use Rattle.bc_cert_read.specs.declared.recipe.Recipe.{Recipe}
use Rattle.bc_cert_read.specs.Recipe.{recipe, value_of_two, test_of_two, without_zero, less_number, beside_zero, facts_of, where_so, words_of_operand_of}
use Rattle.bc_cert_read.specs.Node.{Node}
use Rattle.bc_cert_read.specs.Parts.{IsPart}
use Rattle.bc_cert_read.specs.declared.mark.TreeFacts.{TreeFacts}
use Rattle.bc_cert_read.specs.Showing.{makes}
use Rattle.bc_cert_write.specs.Shown.{Shown, rules_of_value, rules_at, shown, below, bare}
use Rattle.bc_cert_laws.specs.Standing.{IsFewest, Begins, begun}
use Rattle.bc_cert_laws.proofs.Over.{StandsAt}
use Rattle.bc_cert_laws.proofs.TwoParts.{TwoTrees, beside, tree_beside, over, Beside, Makes, never, made_so, made_at, made_with, with_made, so_made, parts_known, both_found, left_found, right_found, beside_found, both_taken, both_turned, left_taken, right_taken, beside_taken}

number_is : (e : Exp) (n : ℕ) → constant_of e ≡ Some n → e ≡ Num n
number_is (Num m) n h = let i : m ≡ n = cc in ap Num i
number_is e n h = absurd cc

record IsMirrored (o : Option Op) : Type 0 where
  mirror : Op
  is : o ≡ Some mirror

mirrored : (o : Option Op) → is_some o ≡ true → IsMirrored o
mirrored None h = never h
mirrored (Some q) h = record { mirror = q; is = refl }

second_table : (T : Table) → has_tests_of_zero T ≡ true → T ≡ Two
second_table One h = never h
second_table Two h = refl

module _ (T : Table) (a b : Exp) (s : ℕ) (l k : List Shown) (two : TwoTrees T a b s l k) where
  -- the facts of the parts
  abbrev left_facts : Facts
  left_facts = facts_of a (has_call a) two.left_costs

  abbrev right_facts : Facts
  right_facts = facts_of b (has_call b) two.right_costs

  abbrev BeginsWith : Op → Aim → Rule → ℕ → Type 0
  BeginsWith op aim r words = Begins T (Bin op a b) aim s r words (l ++ k)

  -- at another operator
  at_op : (op wanted : Op) (aim : Aim) (r : Rule) (words : ℕ) → op ≡ wanted → BeginsWith wanted aim r words → BeginsWith op aim r words
  at_op op wanted aim r words e h = let P : Op → Type 0 = λ o. BeginsWith o aim r words in subst P (sym e) h

  -- a part beside a 0, by the constants
  zeros : (z u : Bool) (p : Aim) (j words : ℕ) → z ≡ is_zero b → Beside T a b s (l ++ k) z u p j words → Beside T a b s (l ++ k) (is_zero b) u p j words
  zeros z u p j words e h = subst (λ z. Beside T a b s (l ++ k) z u p j words) e h

  beside_to : (op : Op) (p : Aim) (j words : ℕ) → Makes T a b s l k two op words (beside_zero V8 left_facts right_facts p j) → Beside T a b s (l ++ k) (is_zero b) (is_zero a) p j words
  beside_to op p j words h =
      let o = beside_taken T a b s l k two op words (zero_number (constant_of b)) (zero_number (constant_of a)) p j h in
      subst (λ u. Beside T a b s (l ++ k) (is_zero b) u p j words) (is_zero_is a) (zeros _ _ p j words (is_zero_is b) o)

  so_is : (z : Bool) (r : Option Recipe) → where_so z r ≡ cond z r None
  so_is true r = refl
  so_is false r = refl

  left_to : (op : Op) (p : Aim) (j words : ℕ) → Makes T a b s l k two op words (where_so (zero_number (constant_of b)) (recipe (First p) j)) → Beside T a b s (l ++ k) (is_zero b) false p j words
  left_to op p j words h =
      zeros _ false p j words (is_zero_is b)
      (beside_taken T a b s l k two op words (zero_number (constant_of b)) false p j (subst (Makes T a b s l k two op words) (so_is (zero_number (constant_of b)) (recipe (First p) j)) h))

  zero_to : (op : Op) (m : Mode) (words : ℕ) → Makes T a b s l k two op words (without_zero op left_facts right_facts (Gets m)) → BeginsWith op (Gets m) V8 words
  zero_to Add m words h = let q = beside_to Add (Gets m) 0 words h in record { derivation = v8 q.is q.derivation; first = refl; counted = omega (arith, q.counted); parts = q.parts }
  zero_to Subtract m words h = let q = left_to Subtract (Gets m) 0 words h in record { derivation = v8 q.is q.derivation; first = refl; counted = omega (arith, q.counted); parts = q.parts }
  zero_to op m words h = never h

  -- a number is taken off
  number_to : (o : Option ℕ) (m : Mode) (words : ℕ) → constant_of b ≡ o → Makes T a b s l k two Subtract words (less_number o (Gets m)) → BeginsWith Subtract (Gets m) V9 words
  number_to None m words e h = never h
  number_to (Some n) m words e h =
      let is = number_is b n e in
      let q = left_taken T a b s l k two Subtract words _ _ h in
      let P : Exp → Type 0 = λ c. Begins T (Bin Subtract a c) (Gets m) s V9 words (l ++ k) in
      subst P (sym is) (record { derivation = v9 {n = n} q.left; first = refl; counted = q.counted; parts = ap (λ c. shown q.left (s + 1) ++ bare c (s + 1)) (sym is) ∙ q.parts })

  value_to : (op : Op) (r : Rule) (m : Mode) (words : ℕ) → Makes T a b s l k two op words (value_of_two r m op s left_facts right_facts) → BeginsWith op (Gets m) r words
  value_to op V6 m words h =
      let o = made_at T a b s l k two op words Add _ h in
      let p = made_with T a b s l k two op words (operand_of b) _ _ o.1 in
      let q = left_taken T a b s l k two op words _ _ p.made in
      at_op op Add (Gets m) V6 words o.0 (record { derivation = v6 p.is q.left; first = refl; counted = omega (arith, q.counted); parts = q.parts })
  value_to op V7 m words h =
      let o = made_at T a b s l k two op words Add _ h in
      let free = made_so T a b s l k two op words _ _ o.1 in
      let p = made_with T a b s l k two op words (operand_of a) _ _ free.1 in
      let q = right_taken T a b s l k two op words _ _ p.made in
      at_op op Add (Gets m) V7 words o.0 (record { derivation = v7 p.is free.0 q.right; first = refl; counted = omega (arith, q.counted); parts = q.parts })
  value_to op V8 m words h = zero_to op m words h
  value_to op V9 m words h =
      let o = made_at T a b s l k two op words Subtract _ h in
      let e : Makes T a b s l k two Subtract words (less_number (constant_of b) (Gets m)) = o.1 in
      at_op op Subtract (Gets m) V9 words o.0 (number_to (constant_of b) m words refl e)
  value_to op V10 m words h =
      let o = made_at T a b s l k two op words Subtract _ h in
      let p = made_with T a b s l k two op words (operand_of b) _ _ o.1 in
      let q = left_taken T a b s l k two op words _ _ p.made in
      at_op op Subtract (Gets m) V10 words o.0 (record { derivation = v10 p.is q.left; first = refl; counted = omega (arith, q.counted); parts = q.parts })
  value_to op V11 m words h =
      let o = made_at T a b s l k two op words Subtract _ h in
      let free = made_so T a b s l k two op words _ _ o.1 in
      let p = made_with T a b s l k two op words (operand_of a) _ _ free.1 in
      let q = right_taken T a b s l k two op words _ _ p.made in
      at_op op Subtract (Gets m) V11 words o.0 (record { derivation = v11 p.is free.0 q.right; first = refl; counted = omega (arith, q.counted); parts = q.parts })
  value_to op V12 Any words h = let q = both_taken T a b s l k two op words _ _ _ h in record { derivation = v12 q.left q.right; first = refl; counted = q.counted; parts = q.parts }
  value_to op V13 Any words h =
      let o = made_so T a b s l k two op words _ _ h in
      let free = made_so T a b s l k two op words _ _ o.1 in
      let q = both_turned T a b s l k two op words _ _ _ free.1 in
      let mirror = mirrored (mirror_of op) o.0 in
      record { derivation = v13 mirror.is free.0 q.right q.left; first = refl; counted = omega (arith, q.counted); parts = q.parts }
  value_to op V14 Any words h =
      let o = made_at T a b s l k two op words Subtract _ h in
      let free = made_so T a b s l k two op words _ _ o.1 in
      let q = both_turned T a b s l k two op words _ _ _ free.1 in
      at_op op Subtract (Gets Any) V14 words o.0 (record { derivation = v14 free.0 q.right q.left; first = refl; counted = omega (arith, q.counted); parts = q.parts })
  value_to op V15 Any words h =
      let o = made_so T a b s l k two op words _ _ h in
      let q = both_taken T a b s l k two op words _ _ _ o.1 in
      let mirror = mirrored (mirror_of op) o.0 in
      record { derivation = v15 mirror.is q.left q.right; first = refl; counted = q.counted; parts = q.parts }
  value_to op V16 Any words h =
      let free = made_so T a b s l k two op words _ _ h in
      let q = both_turned T a b s l k two op words _ _ _ free.1 in
      record { derivation = v16 free.0 q.right q.left; first = refl; counted = omega (arith, q.counted); parts = q.parts }
  value_to op V17 Any words h = let q = both_taken T a b s l k two op words _ _ _ h in record { derivation = v17 q.left q.right; first = refl; counted = q.counted; parts = q.parts }
  value_to op V18 Any words h =
      let o = made_at T a b s l k two op words Add _ h in
      let q = both_taken T a b s l k two op words _ _ _ o.1 in
      at_op op Add (Gets Any) V18 words o.0 (record { derivation = v18 q.left q.right; first = refl; counted = q.counted; parts = q.parts })
  value_to op V19 Any words h =
      let o = made_at T a b s l k two op words Subtract _ h in
      let q = both_taken T a b s l k two op words _ _ _ o.1 in
      at_op op Subtract (Gets Any) V19 words o.0 (record { derivation = v19 q.left q.right; first = refl; counted = q.counted; parts = q.parts })
  value_to op r Any words h = never h
  value_to op r Push words h = never h

  test_to : (op : Op) (r : Rule) (sense : Bool) (words : ℕ) → Makes T a b s l k two op words (test_of_two r T sense op left_facts right_facts) → BeginsWith op (Jumps sense) r words
  test_to op J2 false words h =
      let o = made_at T a b s l k two op words And _ h in
      let q = both_taken T a b s l k two op words _ _ _ o.1 in
      at_op op And (Jumps false) J2 words o.0 (record { derivation = j2 q.left q.right; first = refl; counted = omega (arith, q.counted); parts = q.parts })
  test_to op J2 true words h = never (made_at T a b s l k two op words And _ h).1
  test_to op J3 true words h =
      let o = made_at T a b s l k two op words And _ h in
      let q = both_taken T a b s l k two op words _ _ _ o.1 in
      at_op op And (Jumps true) J3 words o.0 (record { derivation = j3 q.left q.right; first = refl; counted = omega (arith, q.counted); parts = q.parts })
  test_to op J3 false words h = never (made_at T a b s l k two op words And _ h).1
  test_to op J4 true words h =
      let o = made_at T a b s l k two op words Or _ h in
      let q = both_taken T a b s l k two op words _ _ _ o.1 in
      at_op op Or (Jumps true) J4 words o.0 (record { derivation = j4 q.left q.right; first = refl; counted = omega (arith, q.counted); parts = q.parts })
  test_to op J4 false words h = never (made_at T a b s l k two op words Or _ h).1
  test_to op J5 false words h =
      let o = made_at T a b s l k two op words Or _ h in
      let q = both_taken T a b s l k two op words _ _ _ o.1 in
      at_op op Or (Jumps false) J5 words o.0 (record { derivation = j5 q.left q.right; first = refl; counted = omega (arith, q.counted); parts = q.parts })
  test_to op J5 true words h = never (made_at T a b s l k two op words Or _ h).1
  test_to op J8 sense words h =
      let o = made_at T a b s l k two op words Equal _ h in
      let p = made_so T a b s l k two op words _ _ o.1 in
      let q = beside_to op (Gets Any) 2 words p.1 in
      at_op op Equal (Jumps sense) J8 words o.0 (record { derivation = j8 (second_table T p.0) q.is q.derivation; first = refl; counted = q.counted; parts = q.parts })
  test_to op J9 sense words h =
      let o = made_at T a b s l k two op words NotEqual _ h in
      let p = made_so T a b s l k two op words _ _ o.1 in
      let q = beside_to op (Gets Any) 2 words p.1 in
      at_op op NotEqual (Jumps sense) J9 words o.0 (record { derivation = j9 (second_table T p.0) q.is q.derivation; first = refl; counted = q.counted; parts = q.parts })
  test_to op r sense words h = never h

  -- the rule that the checker finds
  rule_to : (op : Op) (r : Rule) (aim : Aim) (words : ℕ) → ¬ (r ≡ V1) → makes (over T a b s l k two op) (two.left_mark ∷ two.right_mark ∷ []) r aim (Some words) ≡ true → BeginsWith op aim r words
  rule_to op V1 aim words other h = absurd (other refl)
  rule_to op r (Gets m) words other h = value_to op r m words h
  rule_to op r (Jumps sense) words other h = test_to op r sense words h

  -- a derivation of the part beside a 0
  abbrev Dropped : Op → ℕ → Bool → Option Recipe → Tree → Type 0
  Dropped op words z r t = Makes T a b s l k two op words r × (one t ≡ tree_beside T a b s l k two op words z)

  beside_from : (op : Op) (p : Aim) (j words : ℕ) (e : Exp) → beside_zero_of a b ≡ Some e → (d : Derives T e p) → cond (is_zero b) (shown d (s + 1) ++ bare b (s + 1)) (bare a (s + 1) ++ shown d (s + 1)) ≡ l ++ k
      → IsFewest d (s + 1) → cost d (s + 1) + j ≡ words → Dropped op words (zero_number (constant_of b)) (beside_zero V8 left_facts right_facts p j) (shape d)
  beside_from op p j words e i d h low c =
      let q = beside_found T a b s l k two op words (is_zero b) (is_zero a) p j e i d h low c in
      let P : Bool → Bool → Type 0 = λ z u. Dropped op words z (beside T a b s l k two op words z u p j) (shape d) in
      subst (λ z. P z (zero_number (constant_of a))) (sym (is_zero_is b)) (subst (λ u. P (is_zero b) u) (sym (is_zero_is a)) q)

  zero_from : (op : Op) (m : Mode) (words : ℕ) (e : Exp) → without_zero_of op a b ≡ Some e → (d : Derives T e (Gets m)) → cond (is_zero b) (shown d (s + 1) ++ bare b (s + 1)) (bare a (s + 1) ++ shown d (s + 1)) ≡ l ++ k
      → IsFewest d (s + 1) → cost d (s + 1) + 0 ≡ words → Dropped op words (zero_number (constant_of b)) (without_zero op left_facts right_facts (Gets m)) (shape d)
  zero_from Add m words e i d h low c = beside_from Add (Gets m) 0 words e i d h low c
  zero_from Subtract m words e i d h low c =
      let q = beside_found T a b s l k two Subtract words (is_zero b) false (Gets m) 0 e i d h low c in
      let P : Bool → Type 0 = λ z. Dropped Subtract words z (cond z (recipe (First (Gets m)) 0) None) (shape d) in
      let r = subst P (sym (is_zero_is b)) q in
      (subst (Makes T a b s l k two Subtract words) (sym (so_is (zero_number (constant_of b)) (recipe (First (Gets m)) 0))) r.0, r.1)
  zero_from op m words e i d h low c = absurd cc

-- the checker finds the rule of a derivation
abbrev pub Finds : {T : Table} {op : Op} {a b : Exp} {aim : Aim} (s : ℕ) (l k : List Shown) (two : TwoTrees T a b s l k) → Derives T (Bin op a b) aim → Type 0
Finds {T = T} {op = op} {a = a} {b = b} {aim = aim} s l k two d =
    (makes (over T a b s l k two op) (two.left_mark ∷ two.right_mark ∷ []) (first_rule d) aim (Some (cost d s)) ≡ true) × (shape d ≡ begun (first_rule d) (parts_known T a b s l k two) (two.left_tree ∷ two.right_tree ∷ []))

same_two : (r : Rule) (t u x y : Tree) → t ≡ x → u ≡ y → by r (pair_of t u) ≡ by r (pair_of x y)
same_two r t u x y h i = ap (λ z. by r (pair_of z u)) h ∙ ap (λ z. by r (pair_of x z)) i

no_rules : {T : Table} {e : Exp} {aim : Aim} (d : Derives T e aim) → ¬ (rules_of_value d ≡ [])
no_rules (v0 d) h = cc
no_rules d h = cc

rule_from : {T : Table} {op : Op} {a b : Exp} {aim : Aim} (d : Derives T (Bin op a b) aim) (s : ℕ) (l k : List Shown) (two : TwoTrees T a b s l k)
    → rules_at d ≡ first_rule d ∷ [] → ¬ (first_rule d ≡ V1) → below d s ≡ l ++ k → IsFewest d s → Finds s l k two d
rule_from (v0 d) s l k two alone other h low = absurd cc
rule_from (v1 e) s l k two alone other h low = absurd (other refl)
rule_from (j6 e d) s l k two alone other h low = let none : rules_of_value d ≡ [] = cc in absurd (no_rules d none)
rule_from {T = T} (v6 {a = a} {b = b} {m = m} {o = o} e d) s l k two alone other h low =
    let q = left_found T a b s l k two Add _ (Gets m) (operand_words o + 0) d h (λ c. omega (arith, low (v6 e c))) (omega arith) in
    (with_made T a b s l k two Add _ (operand_of b) o (First (Gets m)) 0 e q.0, ap (λ t. by V6 (one t)) q.1)
rule_from {T = T} (v7 {a = a} {b = b} {m = m} {o = o} e free d) s l k two alone other h low =
    let q = right_found T a b s l k two Add _ (Gets m) (operand_words o + 0) d h (λ c. omega (arith, low (v7 e free c))) (omega arith) in
    (so_made T a b s l k two Add _ _ _ free (with_made T a b s l k two Add _ (operand_of a) o (Second (Gets m)) 0 e q.0), ap (λ t. by V7 (one t)) q.1)
rule_from {T = T} (v8 {op = op} {a = a} {b = b} {c = c} {m = m} e d) s l k two alone other h low =
    let q = zero_from T a b s l k two op m _ c e d h (λ i. low (v8 e i)) (omega arith) in
    (q.0, ap (λ ts. by V8 ts) q.1)
rule_from {T = T} (v9 {a = a} {n = n} {m = m} d) s l k two alone other h low =
    let q = left_found T a (Num n) s l k two Subtract _ (Gets m) (w (negated n)) d h (λ c. omega (arith, low (v9 c))) refl in
    (q.0, ap (λ t. by V9 (one t)) q.1)
rule_from {T = T} (v10 {a = a} {b = b} {m = m} {o = o} e d) s l k two alone other h low =
    let q = left_found T a b s l k two Subtract _ (Gets m) (operand_words o + 2) d h (λ c. omega (arith, low (v10 e c))) (omega arith) in
    (with_made T a b s l k two Subtract _ (operand_of b) o (First (Gets m)) 2 e q.0, ap (λ t. by V10 (one t)) q.1)
rule_from {T = T} (v11 {a = a} {b = b} {m = m} {o = o} e free d) s l k two alone other h low =
    let q = right_found T a b s l k two Subtract _ (Gets m) (operand_words o + 1) d h (λ c. omega (arith, low (v11 e free c))) (omega arith) in
    (so_made T a b s l k two Subtract _ _ _ free (with_made T a b s l k two Subtract _ (operand_of a) o (Second (Gets m)) 1 e q.0), ap (λ t. by V11 (one t)) q.1)
rule_from {T = T} (v12 {op = op} {a = a} {b = b} d e) s l k two alone other h low =
    let q = both_found T a b s l k two op _ (Gets Any) (Gets Push) 1 d e h (λ c. omega (arith, low (v12 c e))) (λ c. omega (arith, low (v12 d c))) refl in
    (q.0, same_two V12 _ _ _ _ q.1 q.2)
rule_from {T = T} (v13 {op = op} {a = a} {b = b} i free e d) s l k two alone other h low =
    let q = both_found T a b s l k two op _ (Gets Push) (Gets Any) 1 d e h (λ c. omega (arith, low (v13 i free e c))) (λ c. omega (arith, low (v13 i free c d))) (omega arith) in
    (so_made T a b s l k two op _ _ _ (ap is_some i) (so_made T a b s l k two op _ _ _ free q.0), same_two V13 _ _ _ _ q.2 q.1)
rule_from {T = T} (v14 {a = a} {b = b} free e d) s l k two alone other h low =
    let q = both_found T a b s l k two Subtract _ (Gets Push) (Gets Any) 2 d e h (λ c. omega (arith, low (v14 free e c))) (λ c. omega (arith, low (v14 free c d))) (omega arith) in
    (so_made T a b s l k two Subtract _ _ _ free q.0, same_two V14 _ _ _ _ q.2 q.1)
rule_from {T = T} (v15 {op = op} {a = a} {b = b} i d e) s l k two alone other h low =
    let q = both_found T a b s l k two op _ (Gets Any) (Gets Any) (1 + 2 * w s) d e h (λ c. omega (arith, low (v15 i c e))) (λ c. omega (arith, low (v15 i d c))) refl in
    (so_made T a b s l k two op _ _ _ (ap is_some i) q.0, same_two V15 _ _ _ _ q.1 q.2)
rule_from {T = T} (v16 {op = op} {a = a} {b = b} free e d) s l k two alone other h low =
    let q = both_found T a b s l k two op _ (Gets Any) (Gets Any) (1 + 2 * w s) d e h (λ c. omega (arith, low (v16 free e c))) (λ c. omega (arith, low (v16 free c d))) (omega arith) in
    (so_made T a b s l k two op _ _ _ free q.0, same_two V16 _ _ _ _ q.2 q.1)
rule_from {T = T} (v17 {op = op} {a = a} {b = b} d e) s l k two alone other h low =
    let q = both_found T a b s l k two op _ (Gets Any) (Gets Any) (1 + 2 * w s + 2 * w (s + 1)) d e h (λ c. omega (arith, low (v17 c e))) (λ c. omega (arith, low (v17 d c))) refl in
    (q.0, same_two V17 _ _ _ _ q.1 q.2)
rule_from {T = T} (v18 {a = a} {b = b} d e) s l k two alone other h low =
    let q = both_found T a b s l k two Add _ (Gets Any) (Gets Any) (2 * w s) d e h (λ c. omega (arith, low (v18 c e))) (λ c. omega (arith, low (v18 d c))) refl in
    (q.0, same_two V18 _ _ _ _ q.1 q.2)
rule_from {T = T} (v19 {a = a} {b = b} d e) s l k two alone other h low =
    let q = both_found T a b s l k two Subtract _ (Gets Any) (Gets Any) (1 + 2 * w s) d e h (λ c. omega (arith, low (v19 c e))) (λ c. omega (arith, low (v19 d c))) refl in
    (q.0, same_two V19 _ _ _ _ q.1 q.2)
rule_from {T = T} (j2 {a = a} {b = b} d e) s l k two alone other h low =
    let q = both_found T a b s l k two And _ (Jumps false) (Jumps false) 0 d e h (λ c. omega (arith, low (j2 c e))) (λ c. omega (arith, low (j2 d c))) (omega arith) in
    (q.0, same_two J2 _ _ _ _ q.1 q.2)
rule_from {T = T} (j3 {a = a} {b = b} d e) s l k two alone other h low =
    let q = both_found T a b s l k two And _ (Jumps false) (Jumps true) 0 d e h (λ c. omega (arith, low (j3 c e))) (λ c. omega (arith, low (j3 d c))) (omega arith) in
    (q.0, same_two J3 _ _ _ _ q.1 q.2)
rule_from {T = T} (j4 {a = a} {b = b} d e) s l k two alone other h low =
    let q = both_found T a b s l k two Or _ (Jumps true) (Jumps true) 0 d e h (λ c. omega (arith, low (j4 c e))) (λ c. omega (arith, low (j4 d c))) (omega arith) in
    (q.0, same_two J4 _ _ _ _ q.1 q.2)
rule_from {T = T} (j5 {a = a} {b = b} d e) s l k two alone other h low =
    let q = both_found T a b s l k two Or _ (Jumps true) (Jumps false) 0 d e h (λ c. omega (arith, low (j5 c e))) (λ c. omega (arith, low (j5 d c))) (omega arith) in
    (q.0, same_two J5 _ _ _ _ q.1 q.2)
rule_from {T = T} (j8 {a = a} {b = b} {c = c} {sense = sense} t e d) s l k two alone other h low =
    let q = beside_from T a b s l k two Equal (Gets Any) 2 _ c e d h (λ i. omega (arith, low (j8 t e i))) refl in
    (so_made T a b s l k two Equal _ _ _ (ap has_tests_of_zero t) q.0, ap (λ ts. by J8 ts) q.1)
rule_from {T = T} (j9 {a = a} {b = b} {c = c} {sense = sense} t e d) s l k two alone other h low =
    let q = beside_from T a b s l k two NotEqual (Gets Any) 2 _ c e d h (λ i. omega (arith, low (j9 t e i))) refl in
    (so_made T a b s l k two NotEqual _ _ _ (ap has_tests_of_zero t) q.0, ap (λ ts. by J9 ts) q.1)

-- the two results, if what is kept of the parts is true; V1 is a rule of any operand, and V0 and J6 are followed by another rule
both_known : (T : Table) (a b : Exp) (s : ℕ) (p q : Facts) → IsPart T a (s + 1) p → IsPart T b (s + 1) q → facts_of a (has_call a) p.costs ∷ facts_of b (has_call b) q.costs ∷ [] ≡ p ∷ q ∷ []
both_known T a b s p q h i = ap (λ f. f ∷ facts_of b (has_call b) q.costs ∷ []) (sym h.facts) ∙ ap (λ g. p ∷ g ∷ []) (sym i.facts)

abbrev two_trees : {T : Table} {a b : Exp} {s : ℕ} {l k : List Shown} {m n : TreeFacts} {p q : Facts} {x y : Tree} → StandsAt T a (s + 1) l m p x → StandsAt T b (s + 1) k n q y → TwoTrees T a b s l k
two_trees {T = T} {a = a} {b = b} {s = s} {l = l} {k = k} {m = m} {n = n} {p = p} {q = q} {x = x} {y = y} h i = record {
  left_mark = m;
  right_mark = n;
  left_costs = p.costs;
  right_costs = q.costs;
  left_tree = x;
  right_tree = y;
  left = subst (λ f. StandsAt T a (s + 1) l m f x) h.part.facts h;
  right = subst (λ f. StandsAt T b (s + 1) k n f y) i.part.facts i;
}

abbrev pub pair_node : Table → Op → Exp → Exp → ℕ → List Facts → Node
pair_node T op a b s ps = record { table = T; level = s; form = forms.Bin op; operand = words_of_operand_of (Bin op a b); parts = ps }

-- a rule that the checker finds begins a derivation
pub pair_to : {T : Table} {op : Op} {a b : Exp} {s : ℕ} {l k : List Shown} {m n : TreeFacts} {p q : Facts} {x y : Tree} → StandsAt T a (s + 1) l m p x → StandsAt T b (s + 1) k n q y
    → (r : Rule) (aim : Aim) (words : ℕ) → ¬ (r ≡ V1) → makes (pair_node T op a b s (p ∷ q ∷ [])) (m ∷ n ∷ []) r aim (Some words) ≡ true → Begins T (Bin op a b) aim s r words (l ++ k)
pair_to {T = T} {op = op} {a = a} {b = b} {s = s} {l = l} {k = k} {m = m} {n = n} {p = p} {q = q} h i r aim words other g =
    let P : List Facts → Type 0 = λ ps. makes (pair_node T op a b s ps) (m ∷ n ∷ []) r aim (Some words) ≡ true in
    rule_to T a b s l k (two_trees h i) op r aim words other (subst P (sym (both_known T a b s p q h.part i.part)) g)

-- and of a derivation of least words that shows the lines of the parts the checker finds the rule
pub pair_from : {T : Table} {op : Op} {a b : Exp} {s : ℕ} {l k : List Shown} {m n : TreeFacts} {p q : Facts} {x y : Tree} {aim : Aim} → StandsAt T a (s + 1) l m p x → StandsAt T b (s + 1) k n q y
    → (d : Derives T (Bin op a b) aim) → rules_at d ≡ first_rule d ∷ [] → ¬ (first_rule d ≡ V1) → below d s ≡ l ++ k → IsFewest d s
    → (makes (pair_node T op a b s (p ∷ q ∷ [])) (m ∷ n ∷ []) (first_rule d) aim (Some (cost d s)) ≡ true) × (shape d ≡ begun (first_rule d) (p ∷ q ∷ []) (x ∷ y ∷ []))
pair_from {T = T} {op = op} {a = a} {b = b} {s = s} {l = l} {k = k} {m = m} {n = n} {p = p} {q = q} {x = x} {y = y} {aim = aim} h i d alone other g low =
    let P : List Facts → Type 0 = λ ps. (makes (pair_node T op a b s ps) (m ∷ n ∷ []) (first_rule d) aim (Some (cost d s)) ≡ true) × (shape d ≡ begun (first_rule d) ps (x ∷ y ∷ [])) in
    subst P (both_known T a b s p q h.part i.part) (rule_from d s l k (two_trees h i) alone other g low)
