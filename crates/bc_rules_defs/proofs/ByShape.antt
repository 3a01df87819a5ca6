-- The tree of rule names determines a derivation's labels and code.
use Rattle.std.proofs.Common.{◌≡◌, ℕ, ◌+◌, Bool, true, false, not, Option, Some, None, List, [], ◌∷◌, ◌++◌, refl, sym, ap, ◌∙◌, arith, append-nil, append_assoc, add-zero, zero-add}
use Rattle.bc_word.specs.declared.operator.Op.TheVariants.{Add, Subtract, Equal, NotEqual, And, Or}
use Rattle.bc_word.specs.Mirror.{mirror_of}
use Rattle.bc_core.specs.Tree.{Exp, Num, Load, Neg, Not, Bin, Cond, Call, Args, count, Root}
use Rattle.bc_core.specs.Operand.{operand_of}
use Rattle.bc_rules_defs.specs.declared.rule.Table.{Table}
use Rattle.bc_rules_defs.specs.declared.rule.Mode.TheVariants.{Any, Push}
use Rattle.bc_rules_defs.specs.declared.rule.Aim.{Aim}
use Rattle.bc_rules_defs.specs.declared.rule.Aim.TheVariants.{Gets, Jumps}
use Rattle.bc_rules_defs.specs.declared.rule.Rule.{Rule}
use Rattle.bc_rules_defs.specs.declared.rule.Rule.TheVariants as rule
use Rattle.bc_rules_defs.specs.declared.piece.Piece.{Piece}
use Rattle.bc_rules_defs.specs.Free.{is_plain}
use Rattle.bc_rules_defs.specs.Piece.{L, S, A, SP, LIP, SIP, X, K, J, label}
use Rattle.bc_rules_defs.specs.Rules.{Derives, v0, v1, v2, v3, v4, v6, v7, v8, v9, v10, v11, v12, v13, v14, v15, v16, v17, v18, v19, v20, v21, v22, v22_valof, j1, j2, j3, j4, j5, j6, j7, j8, j9, DerivesAll, no_more, one_more, RootDerives, value, test, a1, a2, a3, Tree, by, no_part, one, two, three, end_with, shape, shapes, root_shape}
use Rattle.bc_rules_defs.specs.Code.{labels, all_labels, code, all_code, root_labels, root_code}
use Rattle.bc_rules_defs.specs.Parts.{Parts, leaf, single, pair, triple, called, parts_of, where_some, where_true, where_none, single_if}
use Rattle.bc_rules_defs.specs.ByShape.{own_labels, part_level, first_target, between, after_single, after_pair, with_operand, mirror_number, labels_by, labels_of_parts, labels_of_sides, code_by, code_of_parts, code_of_sides, root_labels_by, root_code_by}

-- the parts of each rule at the derivation's own expression
some_of : {A : Type 0} (x : Option A) (y : A) (p : Parts) → x ≡ Some y → where_some x p ≡ p
some_of x y p h = ap (λ z. where_some z p) h

true_of : (b : Bool) (p : Parts) → b ≡ true → where_true b p ≡ p
true_of b p h = ap (λ z. where_true z p) h

none_of : {A : Type 0} (x : Option A) (p : Parts) → x ≡ None → where_none x p ≡ p
none_of x p h = ap (λ z. where_none z p) h

-- rules with one part
single_same : (r : Rule) (aim : Aim) (e : Exp) (x : Tree) (m : Aim) (a : Exp) (s t f : ℕ) (xs ys : List Piece)
    → parts_of r aim e ≡ single m a → xs ≡ code_by x m a (part_level r s) t f → ys ≡ after_single r aim e t
    → xs ++ ys ≡ code_by (by r (one x)) aim e s t f
single_same r aim e x m a s t f xs ys hp hx hy =
    ap (λ z. z ++ ys) hx ∙ ap (λ z. code_by x m a (part_level r s) t f ++ z) hy ∙ sym (ap (λ p. code_of_parts r aim e p (one x) s t f) hp)

bare_same : (r : Rule) (aim : Aim) (e : Exp) (x : Tree) (m : Aim) (a : Exp) (s t f : ℕ) (xs : List Piece)
    → parts_of r aim e ≡ single m a → xs ≡ code_by x m a (part_level r s) t f → [] ≡ after_single r aim e t
    → xs ≡ code_by (by r (one x)) aim e s t f
bare_same r aim e x m a s t f xs hp hx hy = sym (append-nil xs) ∙ single_same r aim e x m a s t f xs [] hp hx hy

single_labels : (r : Rule) (aim : Aim) (e : Exp) (x : Tree) (m : Aim) (a : Exp) (n : ℕ)
    → parts_of r aim e ≡ single m a → n ≡ labels_by x m a → n ≡ labels_by (by r (one x)) aim e
single_labels r aim e x m a n hp hn = hn ∙ sym (ap (λ p. labels_of_parts r p (one x)) hp)

-- rules with two parts
join : (b xs xs1 ys ys1 zs zs1 : List Piece) → xs ≡ xs1 → ys ≡ ys1 → zs ≡ zs1 → (xs ++ (b ++ ys)) ++ zs ≡ (xs1 ++ (b ++ ys1)) ++ zs1
join b xs xs1 ys ys1 zs zs1 h i j = cc

pair_same : (r : Rule) (aim : Aim) (e : Exp) (x y : Tree) (m n : Aim) (a b : Exp) (s t f g : ℕ) (xs ys zs : List Piece)
    → parts_of r aim e ≡ pair m a n b → f + own_labels r ≡ g
    → xs ≡ code_by x m a (s + 1) (first_target r t f) g → ys ≡ code_by y n b (s + 1) t (g + labels_by x m a) → zs ≡ after_pair r e s f
    → (xs ++ (between r s ++ ys)) ++ zs ≡ code_by (by r (two x y)) aim e s t f
pair_same r aim e x y m n a b s t f g xs ys zs hp hg hx hy hz =
    join (between r s) _ _ _ _ _ _ hx hy hz
    ∙ ap (λ k. (code_by x m a (s + 1) (first_target r t f) k ++ (between r s ++ code_by y n b (s + 1) t (k + labels_by x m a))) ++ after_pair r e s f) (sym hg)
    ∙ sym (ap (λ p. code_of_parts r aim e p (two x y) s t f) hp)

pair_labels : (r : Rule) (aim : Aim) (e : Exp) (x y : Tree) (m n : Aim) (a b : Exp) (k l o : ℕ)
    → parts_of r aim e ≡ pair m a n b → own_labels r ≡ o → k ≡ labels_by x m a → l ≡ labels_by y n b
    → o + k + l ≡ labels_by (by r (two x y)) aim e
pair_labels r aim e x y m n a b k l o hp ho hk hl =
    let h : o + k + l ≡ own_labels r + labels_by x m a + labels_by y n b = cc in
    h ∙ sym (ap (λ p. labels_of_parts r p (two x y)) hp)

shifted : (y : Tree) (n : Aim) (b : Exp) (s t g k l : ℕ) (ys : List Piece) → ys ≡ code_by y n b s t (g + k) → k ≡ l → ys ≡ code_by y n b s t (g + l)
shifted y n b s t g k l ys h e = h ∙ ap (λ i. code_by y n b s t (g + i)) e

-- rules with three parts
triple_same : (r : Rule) (aim : Aim) (e : Exp) (x y z : Tree) (m n o : Aim) (a b c : Exp) (s t f k l : ℕ) (xs ys zs : List Piece)
    → parts_of r aim e ≡ triple m a n b o c → k ≡ labels_by x m a → l ≡ labels_by y n b
    → xs ≡ code_by x m a s f (f + 2) → ys ≡ code_by y n b s t (f + 2 + k) → zs ≡ code_by z o c s t (f + 2 + k + l)
    → xs ++ ys ++ J (f + 1) ∷ label f ∷ zs ++ label (f + 1) ∷ [] ≡ code_by (by r (three x y z)) aim e s t f
triple_same r aim e x y z m n o a b c s t f k l xs ys zs hp hk hl hx hy hz =
    let whole = λ (us vs ws : List Piece). us ++ vs ++ J (f + 1) ∷ label f ∷ ws ++ label (f + 1) ∷ [] in
    let one_side = code_by x m a s f (f + 2) in
    ap (λ vs. whole vs ys zs) hx
    ∙ ap (λ vs. whole one_side vs zs) hy
    ∙ ap (λ vs. whole one_side (code_by y n b s t (f + 2 + k)) vs) hz
    ∙ ap (λ i. whole one_side (code_by y n b s t (f + 2 + i)) (code_by z o c s t (f + 2 + i + l))) hk
    ∙ ap (λ i. whole one_side (code_by y n b s t (f + 2 + labels_by x m a)) (code_by z o c s t (f + 2 + labels_by x m a + i))) hl
    ∙ sym (ap (λ p. code_of_parts r aim e p (three x y z) s t f) hp)

triple_labels : (x : Tree) (m : Aim) (a : Exp) (y : Tree) (b : Exp) (z : Tree) (c : Exp) (j k l : ℕ)
    → j ≡ labels_by x m a → k ≡ labels_by y (Gets Any) b → l ≡ labels_by z (Gets Any) c
    → 2 + j + k + l ≡ 2 + labels_by x m a + labels_by y (Gets Any) b + labels_by z (Gets Any) c
triple_labels x m a y b z c j k l h i g = cc

mutual
  pub labels_same : {T : Table} {e : Exp} {aim : Aim} (d : Derives T e aim) → labels d ≡ labels_by (shape d) aim e
  labels_same (v0 {e = e} d) = single_labels rule.V0 (Gets Any) e (shape d) (Gets Push) e _ refl (labels_same d)
  labels_same (v1 {e = e} {o = o} h) = sym (ap (λ p. labels_of_parts rule.V1 p no_part) (some_of (operand_of e) o (leaf false) h))
  labels_same (v2 {e = e} {m = m} d) = single_labels rule.V2 (Gets m) (Load e) (shape d) (Gets m) e _ refl (labels_same d)
  labels_same (v3 {e = e} {m = m} d) = single_labels rule.V3 (Gets m) (Neg e) (shape d) (Gets m) e _ refl (labels_same d)
  labels_same (v4 {e = e} {m = m} d) = single_labels rule.V4 (Gets m) (Not e) (shape d) (Gets m) e _ refl (labels_same d)
  labels_same (v6 {a = a} {b = b} {m = m} {o = o} h d) = single_labels rule.V6 (Gets m) (Bin Add a b) (shape d) (Gets m) a _ (some_of (operand_of b) o _ h) (labels_same d)
  labels_same (v7 {a = a} {b = b} {m = m} {o = o} h free d) = single_labels rule.V7 (Gets m) (Bin Add a b) (shape d) (Gets m) b _ (some_of (operand_of a) o _ h) (labels_same d)
  labels_same (v8 {op = op} {a = a} {b = b} {c = c} {m = m} h d) = single_labels rule.V8 (Gets m) (Bin op a b) (shape d) (Gets m) c _ (ap (single_if (Gets m)) h) (labels_same d)
  labels_same (v9 {a = a} {n = n} {m = m} d) = single_labels rule.V9 (Gets m) (Bin Subtract a (Num n)) (shape d) (Gets m) a _ refl (labels_same d)
  labels_same (v10 {a = a} {b = b} {m = m} {o = o} h d) = single_labels rule.V10 (Gets m) (Bin Subtract a b) (shape d) (Gets m) a _ (some_of (operand_of b) o _ h) (labels_same d)
  labels_same (v11 {a = a} {b = b} {m = m} {o = o} h free d) = single_labels rule.V11 (Gets m) (Bin Subtract a b) (shape d) (Gets m) b _ (some_of (operand_of a) o _ h) (labels_same d)
  labels_same (v12 {op = op} {a = a} {b = b} x y) = ap (λ k. k + labels y) (sym (zero-add (labels x))) ∙ pair_labels rule.V12 (Gets Any) (Bin op a b) (shape x) (shape y) (Gets Any) (Gets Push) a b _ _ 0 refl refl (labels_same x) (labels_same y)
  labels_same (v13 {op = op} {q = q} {a = a} {b = b} h free x y) = ap (λ k. k + labels y) (sym (zero-add (labels x))) ∙ pair_labels rule.V13 (Gets Any) (Bin op a b) (shape x) (shape y) (Gets Any) (Gets Push) b a _ _ 0 (some_of (mirror_of op) q _ h) refl (labels_same x) (labels_same y)
  labels_same (v14 {a = a} {b = b} free x y) = ap (λ k. k + labels y) (sym (zero-add (labels x))) ∙ pair_labels rule.V14 (Gets Any) (Bin Subtract a b) (shape x) (shape y) (Gets Any) (Gets Push) b a _ _ 0 refl refl (labels_same x) (labels_same y)
  labels_same (v15 {op = op} {q = q} {a = a} {b = b} h x y) = ap (λ k. k + labels y) (sym (zero-add (labels x))) ∙ pair_labels rule.V15 (Gets Any) (Bin op a b) (shape x) (shape y) (Gets Any) (Gets Any) a b _ _ 0 (some_of (mirror_of op) q _ h) refl (labels_same x) (labels_same y)
  labels_same (v16 {op = op} {a = a} {b = b} free x y) = ap (λ k. k + labels y) (sym (zero-add (labels x))) ∙ pair_labels rule.V16 (Gets Any) (Bin op a b) (shape x) (shape y) (Gets Any) (Gets Any) b a _ _ 0 refl refl (labels_same x) (labels_same y)
  labels_same (v17 {op = op} {a = a} {b = b} x y) = ap (λ k. k + labels y) (sym (zero-add (labels x))) ∙ pair_labels rule.V17 (Gets Any) (Bin op a b) (shape x) (shape y) (Gets Any) (Gets Any) a b _ _ 0 refl refl (labels_same x) (labels_same y)
  labels_same (v18 {a = a} {b = b} x y) = ap (λ k. k + labels y) (sym (zero-add (labels x))) ∙ pair_labels rule.V18 (Gets Any) (Bin Add a b) (shape x) (shape y) (Gets Any) (Gets Any) a b _ _ 0 refl refl (labels_same x) (labels_same y)
  labels_same (v19 {a = a} {b = b} x y) = ap (λ k. k + labels y) (sym (zero-add (labels x))) ∙ pair_labels rule.V19 (Gets Any) (Bin Subtract a b) (shape x) (shape y) (Gets Any) (Gets Any) a b _ _ 0 refl refl (labels_same x) (labels_same y)
  labels_same (v20 {c = c} {x = x} {y = y} d g h) = triple_labels (shape d) (Jumps false) c (shape g) x (shape h) y _ _ _ (labels_same d) (labels_same g) (labels_same h)
  labels_same (v21 {c = c} {x = x} {y = y} d g h) = triple_labels (shape d) (Jumps true) c (shape g) y (shape h) x _ _ _ (labels_same d) (labels_same g) (labels_same h)
  labels_same (v22 {f = e} ds d) = call_labels ds 0 (shape d) e _ (labels_same d)
  labels_same v22_valof = refl
  labels_same (j1 {e = e} {sense = sense} d) = single_labels rule.J1 (Jumps sense) (Not e) (shape d) (Jumps (not sense)) e _ refl (labels_same d)
  labels_same (j2 {a = a} {b = b} x y) = ap (λ k. k + labels y) (sym (zero-add (labels x))) ∙ pair_labels rule.J2 (Jumps false) (Bin And a b) (shape x) (shape y) (Jumps false) (Jumps false) a b _ _ 0 refl refl (labels_same x) (labels_same y)
  labels_same (j3 {a = a} {b = b} x y) = pair_labels rule.J3 (Jumps true) (Bin And a b) (shape x) (shape y) (Jumps false) (Jumps true) a b _ _ 1 refl refl (labels_same x) (labels_same y)
  labels_same (j4 {a = a} {b = b} x y) = ap (λ k. k + labels y) (sym (zero-add (labels x))) ∙ pair_labels rule.J4 (Jumps true) (Bin Or a b) (shape x) (shape y) (Jumps true) (Jumps true) a b _ _ 0 refl refl (labels_same x) (labels_same y)
  labels_same (j5 {a = a} {b = b} x y) = pair_labels rule.J5 (Jumps false) (Bin Or a b) (shape x) (shape y) (Jumps true) (Jumps false) a b _ _ 1 refl refl (labels_same x) (labels_same y)
  labels_same (j6 {e = e} {sense = sense} h d) = single_labels rule.J6 (Jumps sense) e (shape d) (Gets Any) e _ (true_of (is_plain e) _ h) (labels_same d)
  labels_same j7 = refl
  labels_same (j8 {a = a} {b = b} {c = c} {sense = sense} k h d) = single_labels rule.J8 (Jumps sense) (Bin Equal a b) (shape d) (Gets Any) c _ (ap (single_if (Gets Any)) h) (labels_same d)
  labels_same (j9 {a = a} {b = b} {c = c} {sense = sense} k h d) = single_labels rule.J9 (Jumps sense) (Bin NotEqual a b) (shape d) (Gets Any) c _ (ap (single_if (Gets Any)) h) (labels_same d)

  pub call_labels : {T : Table} {es : Args} (ds : DerivesAll T es) (i : ℕ) (x : Tree) (e : Exp) (n : ℕ) → n ≡ labels_by x (Gets Any) e → all_labels ds + n ≡ labels_of_parts rule.V22 (called i es e) (end_with (shapes ds) x)
  call_labels no_more i x e n h = zero-add n ∙ h
  call_labels (one_more d ds) i x e n h = omega (arith, labels_same d, call_labels ds (i + 1) x e n h)

mutual
  pub code_same : {T : Table} {e : Exp} {aim : Aim} (d : Derives T e aim) (s t f : ℕ) → code d s t f ≡ code_by (shape d) aim e s t f
  code_same (v0 {e = e} d) s t f = bare_same rule.V0 (Gets Any) e (shape d) (Gets Push) e s t f _ refl (code_same d s t f) refl
  code_same (v1 {e = e} {o = o} h) s t f = sym (ap (λ p. code_of_parts rule.V1 (Gets Push) e p no_part s t f) (some_of (operand_of e) o (leaf false) h) ∙ ap (λ z. with_operand L z []) h)
  code_same (v2 {e = e} {m = m} d) s t f = single_same rule.V2 (Gets m) (Load e) (shape d) (Gets m) e s t f _ _ refl (code_same d s t f) refl
  code_same (v3 {e = e} {m = m} d) s t f = single_same rule.V3 (Gets m) (Neg e) (shape d) (Gets m) e s t f _ _ refl (code_same d s t f) refl
  code_same (v4 {e = e} {m = m} d) s t f = single_same rule.V4 (Gets m) (Not e) (shape d) (Gets m) e s t f _ _ refl (code_same d s t f) refl
  code_same (v6 {a = a} {b = b} {m = m} {o = o} h d) s t f = single_same rule.V6 (Gets m) (Bin Add a b) (shape d) (Gets m) a s t f _ _ (some_of (operand_of b) o _ h) (code_same d (s + 1) t f) (sym (ap (λ z. with_operand A z []) h))
  code_same (v7 {a = a} {b = b} {m = m} {o = o} h free d) s t f = single_same rule.V7 (Gets m) (Bin Add a b) (shape d) (Gets m) b s t f _ _ (some_of (operand_of a) o _ h) (code_same d (s + 1) t f) (sym (ap (λ z. with_operand A z []) h))
  code_same (v8 {op = op} {a = a} {b = b} {c = c} {m = m} h d) s t f = bare_same rule.V8 (Gets m) (Bin op a b) (shape d) (Gets m) c s t f _ (ap (single_if (Gets m)) h) (code_same d (s + 1) t f) refl
  code_same (v9 {a = a} {n = n} {m = m} d) s t f = single_same rule.V9 (Gets m) (Bin Subtract a (Num n)) (shape d) (Gets m) a s t f _ _ refl (code_same d (s + 1) t f) refl
  code_same (v10 {a = a} {b = b} {m = m} {o = o} h d) s t f = single_same rule.V10 (Gets m) (Bin Subtract a b) (shape d) (Gets m) a s t f _ _ (some_of (operand_of b) o _ h) (code_same d (s + 1) t f) (sym (ap (λ z. X 2 ∷ with_operand A z (X 2 ∷ [])) h))
  code_same (v11 {a = a} {b = b} {m = m} {o = o} h free d) s t f = single_same rule.V11 (Gets m) (Bin Subtract a b) (shape d) (Gets m) b s t f _ _ (some_of (operand_of a) o _ h) (code_same d (s + 1) t f) (sym (ap (λ z. X 2 ∷ with_operand A z []) h))
  code_same (v12 {op = op} {a = a} {b = b} x y) s t f = pair_same rule.V12 (Gets Any) (Bin op a b) (shape x) (shape y) (Gets Any) (Gets Push) a b s t f f _ _ _ refl (add-zero f) (code_same x (s + 1) t f) (shifted (shape y) (Gets Push) b (s + 1) t f (labels x) (labels_by (shape x) (Gets Any) a) _ (code_same y (s + 1) t (f + labels x)) (labels_same x)) refl
  code_same (v13 {op = op} {q = q} {a = a} {b = b} h free x y) s t f = pair_same rule.V13 (Gets Any) (Bin op a b) (shape x) (shape y) (Gets Any) (Gets Push) b a s t f f _ _ _ (some_of (mirror_of op) q _ h) (add-zero f) (code_same x (s + 1) t f) (shifted (shape y) (Gets Push) a (s + 1) t f (labels x) (labels_by (shape x) (Gets Any) b) _ (code_same y (s + 1) t (f + labels x)) (labels_same x)) (sym (ap mirror_number h))
  code_same (v14 {a = a} {b = b} free x y) s t f = pair_same rule.V14 (Gets Any) (Bin Subtract a b) (shape x) (shape y) (Gets Any) (Gets Push) b a s t f f _ _ _ refl (add-zero f) (code_same x (s + 1) t f) (shifted (shape y) (Gets Push) a (s + 1) t f (labels x) (labels_by (shape x) (Gets Any) b) _ (code_same y (s + 1) t (f + labels x)) (labels_same x)) refl
  code_same (v15 {op = op} {q = q} {a = a} {b = b} h x y) s t f = pair_same rule.V15 (Gets Any) (Bin op a b) (shape x) (shape y) (Gets Any) (Gets Any) a b s t f f _ _ _ (some_of (mirror_of op) q _ h) (add-zero f) (code_same x (s + 1) t f) (shifted (shape y) (Gets Any) b (s + 1) t f (labels x) (labels_by (shape x) (Gets Any) a) _ (code_same y (s + 1) t (f + labels x)) (labels_same x)) (sym (ap (λ z. LIP s ∷ mirror_number z) h))
  code_same (v16 {op = op} {a = a} {b = b} free x y) s t f = pair_same rule.V16 (Gets Any) (Bin op a b) (shape x) (shape y) (Gets Any) (Gets Any) b a s t f f _ _ _ refl (add-zero f) (code_same x (s + 1) t f) (shifted (shape y) (Gets Any) a (s + 1) t f (labels x) (labels_by (shape x) (Gets Any) b) _ (code_same y (s + 1) t (f + labels x)) (labels_same x)) refl
  code_same (v17 {op = op} {a = a} {b = b} x y) s t f = pair_same rule.V17 (Gets Any) (Bin op a b) (shape x) (shape y) (Gets Any) (Gets Any) a b s t f f _ _ _ refl (add-zero f) (code_same x (s + 1) t f) (shifted (shape y) (Gets Any) b (s + 1) t f (labels x) (labels_by (shape x) (Gets Any) a) _ (code_same y (s + 1) t (f + labels x)) (labels_same x)) refl
  code_same (v18 {a = a} {b = b} x y) s t f = pair_same rule.V18 (Gets Any) (Bin Add a b) (shape x) (shape y) (Gets Any) (Gets Any) a b s t f f _ _ _ refl (add-zero f) (code_same x (s + 1) t f) (shifted (shape y) (Gets Any) b (s + 1) t f (labels x) (labels_by (shape x) (Gets Any) a) _ (code_same y (s + 1) t (f + labels x)) (labels_same x)) refl
  code_same (v19 {a = a} {b = b} x y) s t f = pair_same rule.V19 (Gets Any) (Bin Subtract a b) (shape x) (shape y) (Gets Any) (Gets Any) a b s t f f _ _ _ refl (add-zero f) (code_same x (s + 1) t f) (shifted (shape y) (Gets Any) b (s + 1) t f (labels x) (labels_by (shape x) (Gets Any) a) _ (code_same y (s + 1) t (f + labels x)) (labels_same x)) refl
  code_same (v20 {c = c} {x = x} {y = y} d g h) s t f = triple_same rule.V20 (Gets Any) (Cond c x y) (shape d) (shape g) (shape h) (Jumps false) (Gets Any) (Gets Any) c x y s t f (labels d) (labels g) _ _ _ refl (labels_same d) (labels_same g) (code_same d s f (f + 2)) (code_same g s t (f + 2 + labels d)) (code_same h s t (f + 2 + labels d + labels g))
  code_same (v21 {c = c} {x = x} {y = y} d g h) s t f = triple_same rule.V21 (Gets Any) (Cond c x y) (shape d) (shape g) (shape h) (Jumps true) (Gets Any) (Gets Any) c y x s t f (labels d) (labels g) _ _ _ refl (labels_same d) (labels_same g) (code_same d s f (f + 2)) (code_same g s t (f + 2 + labels d)) (code_same h s t (f + 2 + labels d + labels g))
  code_same (v22 {es = es} {f = e} ds d) s t f = append_assoc (all_code ds (s + 2) t f) (code d (s + 2 + count es) t (f + all_labels ds)) (K s ∷ []) ∙ ap (λ k. all_code ds k t f ++ (code d (s + 2 + count es) t (f + all_labels ds) ++ K s ∷ [])) (sym (add-zero (s + 2))) ∙ call_code ds rule.V22 (Gets Any) (Call es e) e 0 (shape d) s t f _ (code_same d (s + 2 + count es) t (f + all_labels ds) ∙ ap (λ k. code_by (shape d) (Gets Any) e (k + count es) t (f + all_labels ds)) (sym (add-zero (s + 2))))
  code_same v22_valof s t f = refl
  code_same (j1 {e = e} {sense = sense} d) s t f = bare_same rule.J1 (Jumps sense) (Not e) (shape d) (Jumps (not sense)) e s t f _ refl (code_same d s t f) refl
  code_same (j2 {a = a} {b = b} x y) s t f = sym (append-nil (code x (s + 1) t f ++ code y (s + 1) t (f + labels x))) ∙ pair_same rule.J2 (Jumps false) (Bin And a b) (shape x) (shape y) (Jumps false) (Jumps false) a b s t f f _ _ _ refl (add-zero f) (code_same x (s + 1) t f) (shifted (shape y) (Jumps false) b (s + 1) t f (labels x) (labels_by (shape x) (Jumps false) a) _ (code_same y (s + 1) t (f + labels x)) (labels_same x)) refl
  code_same (j3 {a = a} {b = b} x y) s t f = pair_same rule.J3 (Jumps true) (Bin And a b) (shape x) (shape y) (Jumps false) (Jumps true) a b s t f (f + 1) _ _ _ refl refl (code_same x (s + 1) f (f + 1)) (shifted (shape y) (Jumps true) b (s + 1) t (f + 1) (labels x) (labels_by (shape x) (Jumps false) a) _ (code_same y (s + 1) t (f + 1 + labels x)) (labels_same x)) refl
  code_same (j4 {a = a} {b = b} x y) s t f = sym (append-nil (code x (s + 1) t f ++ code y (s + 1) t (f + labels x))) ∙ pair_same rule.J4 (Jumps true) (Bin Or a b) (shape x) (shape y) (Jumps true) (Jumps true) a b s t f f _ _ _ refl (add-zero f) (code_same x (s + 1) t f) (shifted (shape y) (Jumps true) b (s + 1) t f (labels x) (labels_by (shape x) (Jumps true) a) _ (code_same y (s + 1) t (f + labels x)) (labels_same x)) refl
  code_same (j5 {a = a} {b = b} x y) s t f = pair_same rule.J5 (Jumps false) (Bin Or a b) (shape x) (shape y) (Jumps true) (Jumps false) a b s t f (f + 1) _ _ _ refl refl (code_same x (s + 1) f (f + 1)) (shifted (shape y) (Jumps false) b (s + 1) t (f + 1) (labels x) (labels_by (shape x) (Jumps true) a) _ (code_same y (s + 1) t (f + 1 + labels x)) (labels_same x)) refl
  code_same (j6 {e = e} {sense = sense} h d) s t f = single_same rule.J6 (Jumps sense) e (shape d) (Gets Any) e s t f _ _ (true_of (is_plain e) _ h) (code_same d s t f) refl
  code_same j7 s t f = refl
  code_same (j8 {a = a} {b = b} {c = c} {sense = sense} k h d) s t f = single_same rule.J8 (Jumps sense) (Bin Equal a b) (shape d) (Gets Any) c s t f _ _ (ap (single_if (Gets Any)) h) (code_same d (s + 1) t f) refl
  code_same (j9 {a = a} {b = b} {c = c} {sense = sense} k h d) s t f = single_same rule.J9 (Jumps sense) (Bin NotEqual a b) (shape d) (Gets Any) c s t f _ _ (ap (single_if (Gets Any)) h) (code_same d (s + 1) t f) refl

  pub call_code : {T : Table} {es : Args} (ds : DerivesAll T es) (r : Rule) (aim : Aim) (whole e : Exp) (i : ℕ) (x : Tree) (s t f : ℕ) (xs : List Piece)
      → xs ≡ code_by x (Gets Any) e (s + 2 + i + count es) t (f + all_labels ds)
      → all_code ds (s + 2 + i) t f ++ (xs ++ K s ∷ []) ≡ code_of_parts r aim whole (called i es e) (end_with (shapes ds) x) s t f
  call_code no_more r aim whole e i x s t f xs h =
      ap (λ z. z ++ K s ∷ []) (h ∙ ap (λ k. code_by x (Gets Any) e k t (f + 0)) (add-zero (s + 2 + i)) ∙ ap (λ k. code_by x (Gets Any) e (s + 2 + i) t k) (add-zero f))
  call_code (one_more {e = a} {es = es} d ds) r aim whole e i x s t f xs h =
      let up : s + 2 + i + 1 ≡ s + 2 + (i + 1) = omega arith in
      let level : s + 2 + i + (1 + count es) ≡ s + 2 + (i + 1) + count es = omega arith in
      let first : f + (labels d + all_labels ds) ≡ f + labels d + all_labels ds = omega arith in
      append_assoc (code d (s + 2 + i) t f) (SP (s + 2 + i) ∷ all_code ds (s + 2 + i + 1) t (f + labels d)) (xs ++ K s ∷ [])
      ∙ ap (λ z. z ++ SP (s + 2 + i) ∷ (all_code ds (s + 2 + i + 1) t (f + labels d) ++ (xs ++ K s ∷ []))) (code_same d (s + 2 + i) t f)
      ∙ ap (λ k. code_by (shape d) (Gets Any) a (s + 2 + i) t f ++ SP (s + 2 + i) ∷ (all_code ds k t (f + labels d) ++ (xs ++ K s ∷ []))) up
      ∙ ap (λ z. code_by (shape d) (Gets Any) a (s + 2 + i) t f ++ SP (s + 2 + i) ∷ z)
      (call_code ds r aim whole e (i + 1) x s t (f + labels d) xs (h ∙ ap (λ k. code_by x (Gets Any) e k t (f + (labels d + all_labels ds))) level ∙ ap (λ k. code_by x (Gets Any) e (s + 2 + (i + 1) + count es) t k) first))
      ∙ ap (λ k. code_by (shape d) (Gets Any) a (s + 2 + i) t f ++ SP (s + 2 + i) ∷ code_of_parts r aim whole (called (i + 1) es e) (end_with (shapes ds) x) s t (f + k)) (labels_same d)

-- the same of roots
side_labels : (x y : Tree) (a b : Exp) (k l : ℕ) → k ≡ labels_by x (Gets Any) a → l ≡ labels_by y (Gets Any) b → k + l ≡ labels_by x (Gets Any) a + labels_by y (Gets Any) b
side_labels x y a b k l h i = cc

pub root_labels_same : {T : Table} {r : Root} (d : RootDerives T r) → root_labels d ≡ root_labels_by r (root_shape d)
root_labels_same (value d) = labels_same d
root_labels_same (test d) = labels_same d
root_labels_same (a1 {v = v} {a = a} {o = o} h x) = labels_same x ∙ sym (ap (λ p. labels_of_sides p (one (shape x))) (some_of (operand_of a) o _ h))
root_labels_same (a2 {v = v} {a = a} h free x y) =
    side_labels (shape x) (shape y) a v _ _ (labels_same x) (labels_same y)
    ∙ sym (ap (λ p. labels_of_sides p (two (shape x) (shape y))) (none_of (operand_of a) (pair (Gets Any) a (Gets Any) v) h))
root_labels_same (a3 {v = v} {a = a} h x y) =
    side_labels (shape x) (shape y) v a _ _ (labels_same x) (labels_same y)
    ∙ sym (ap (λ p. labels_of_sides p (two (shape x) (shape y))) (none_of (operand_of a) (pair (Gets Any) v (Gets Any) a) h))

pub root_code_same : {T : Table} {r : Root} (d : RootDerives T r) (t f : ℕ) → root_code d t f ≡ root_code_by r (root_shape d) t f
root_code_same (value {s = s} d) t f = code_same d s t f
root_code_same (test {s = s} d) t f = code_same d s t f
root_code_same (a1 {s = s} {v = v} {a = a} {o = o} h x) t f =
    ap (λ z. z ++ S o ∷ []) (code_same x s t f)
    ∙ ap (λ z. code_by (shape x) (Gets Any) v s t f ++ with_operand S z []) (sym h)
    ∙ sym (ap (λ p. code_of_sides rule.A1 a p (one (shape x)) s t f) (some_of (operand_of a) o (single (Gets Any) v) h))
root_code_same (a2 {s = s} {v = v} {a = a} h free x y) t f =
    join (SP s ∷ []) _ _ _ _ (SIP s ∷ []) _ (code_same x (s + 1) t f) (shifted (shape y) (Gets Any) v (s + 1) t f (labels x) (labels_by (shape x) (Gets Any) a) _ (code_same y (s + 1) t (f + labels x)) (labels_same x)) refl
    ∙ sym (ap (λ p. code_of_sides rule.A2 a p (two (shape x) (shape y)) s t f) (none_of (operand_of a) (pair (Gets Any) a (Gets Any) v) h))
root_code_same (a3 {s = s} {v = v} {a = a} h x y) t f =
    join (SP s ∷ []) _ _ _ _ (SP (s + 1) ∷ LIP s ∷ SIP (s + 1) ∷ []) _ (code_same x (s + 1) t f) (shifted (shape y) (Gets Any) a (s + 1) t f (labels x) (labels_by (shape x) (Gets Any) v) _ (code_same y (s + 1) t (f + labels x)) (labels_same x)) refl
    ∙ sym (ap (λ p. code_of_sides rule.A3 a p (two (shape x) (shape y)) s t f) (none_of (operand_of a) (pair (Gets Any) v (Gets Any) a) h))
