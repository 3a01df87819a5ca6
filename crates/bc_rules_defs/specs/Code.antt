-- The code of a derivation, its labels and its words, rule by rule.
use Rattle.std.specs.Prelude.{ℕ, ◌+◌, ◌*◌, not, cond, List, [], ◌∷◌, ◌++◌}
use Rattle.bc_word.specs.Words.{number_of, negated}
use Rattle.bc_core.specs.Tree.{Exp, Args, count, Root}
use Rattle.bc_rules_defs.specs.declared.rule.Table.{Table}
use Rattle.bc_rules_defs.specs.declared.rule.Aim.{Aim}
use Rattle.bc_rules_defs.specs.declared.piece.Piece.{Piece}
use Rattle.bc_rules_defs.specs.declared.piece.Piece.TheVariants.{Body}
use Rattle.bc_rules_defs.specs.Free.{jumps_at}
use Rattle.bc_rules_defs.specs.Piece.{L, S, A, A_number, SP, LIP, AIP, SIP, X, K, J, jump_if, label, w, operand_words}
use Rattle.bc_rules_defs.specs.Rules.{Derives, v0, v1, v2, v3, v4, v6, v7, v8, v9, v10, v11, v12, v13, v14, v15, v16, v17, v18, v19, v20, v21, v22, v22_valof, j1, j2, j3, j4, j5, j6, j7, j8, j9, DerivesAll, no_more, one_more, RootDerives, value, test, a1, a2, a3}

-- the number of a derivation's own labels
abbrev mutual
  pub labels : {T : Table} {e : Exp} {aim : Aim} → Derives T e aim → ℕ
  labels (v0 d) = labels d
  labels (v1 h) = 0
  labels (v2 d) = labels d
  labels (v3 d) = labels d
  labels (v4 d) = labels d
  labels (v6 h d) = labels d
  labels (v7 h free d) = labels d
  labels (v8 h d) = labels d
  labels (v9 d) = labels d
  labels (v10 h d) = labels d
  labels (v11 h free d) = labels d
  labels (v12 a b) = labels a + labels b
  labels (v13 h free b a) = labels b + labels a
  labels (v14 free b a) = labels b + labels a
  labels (v15 h a b) = labels a + labels b
  labels (v16 free b a) = labels b + labels a
  labels (v17 a b) = labels a + labels b
  labels (v18 a b) = labels a + labels b
  labels (v19 a b) = labels a + labels b
  labels (v20 c x y) = 2 + labels c + labels x + labels y
  labels (v21 c y x) = 2 + labels c + labels y + labels x
  labels (v22 ds f) = all_labels ds + labels f
  labels v22_valof = 1
  labels (j1 d) = labels d
  labels (j2 a b) = labels a + labels b
  labels (j3 a b) = 1 + labels a + labels b
  labels (j4 a b) = labels a + labels b
  labels (j5 a b) = 1 + labels a + labels b
  labels (j6 h d) = labels d
  labels j7 = 0
  labels (j8 h k d) = labels d
  labels (j9 h k d) = labels d

  pub all_labels : {T : Table} {es : Args} → DerivesAll T es → ℕ
  all_labels no_more = 0
  all_labels (one_more d ds) = labels d + all_labels ds

-- The code at level s, with target t, and with labels numbered from f on: a rule's own labels come before those of its parts.
-- Both operands of an operator are one level higher. The arguments of a call are at the levels from s + 2 on, each one higher
-- than the one before, followed by the routine's value.
abbrev mutual
  pub code : {T : Table} {e : Exp} {aim : Aim} → Derives T e aim → (s t f : ℕ) → List Piece
  code (v0 d) s t f = code d s t f
  code (v1 {o = o} h) s t f = L o ∷ []
  code (v2 d) s t f = code d s t f ++ X 1 ∷ []
  code (v3 d) s t f = code d s t f ++ X 2 ∷ []
  code (v4 d) s t f = code d s t f ++ X 3 ∷ []
  code (v6 {o = o} h a) s t f = code a (s + 1) t f ++ A o ∷ []
  code (v7 {o = o} h free b) s t f = code b (s + 1) t f ++ A o ∷ []
  code (v8 h c) s t f = code c (s + 1) t f
  code (v9 {n = n} a) s t f = code a (s + 1) t f ++ A_number (negated n) ∷ []
  code (v10 {o = o} h a) s t f = code a (s + 1) t f ++ X 2 ∷ A o ∷ X 2 ∷ []
  code (v11 {o = o} h free b) s t f = code b (s + 1) t f ++ X 2 ∷ A o ∷ []
  code (v12 {op = op} a b) s t f = code a (s + 1) t f ++ code b (s + 1) t (f + labels a) ++ X (number_of op) ∷ []
  code (v13 {q = q} h free b a) s t f = code b (s + 1) t f ++ code a (s + 1) t (f + labels b) ++ X (number_of q) ∷ []
  code (v14 free b a) s t f = code b (s + 1) t f ++ code a (s + 1) t (f + labels b) ++ X 9 ∷ X 2 ∷ []
  code (v15 {q = q} h a b) s t f = code a (s + 1) t f ++ SP s ∷ code b (s + 1) t (f + labels a) ++ LIP s ∷ X (number_of q) ∷ []
  code (v16 {op = op} free b a) s t f = code b (s + 1) t f ++ SP s ∷ code a (s + 1) t (f + labels b) ++ LIP s ∷ X (number_of op) ∷ []
  code (v17 {op = op} a b) s t f = code a (s + 1) t f ++ SP s ∷ code b (s + 1) t (f + labels a) ++ SP (s + 1) ∷ LIP s ∷ LIP (s + 1) ∷ X (number_of op) ∷ []
  code (v18 a b) s t f = code a (s + 1) t f ++ SP s ∷ code b (s + 1) t (f + labels a) ++ AIP s ∷ []
  code (v19 a b) s t f = code a (s + 1) t f ++ SP s ∷ code b (s + 1) t (f + labels a) ++ X 2 ∷ AIP s ∷ []
  code (v20 c x y) s t f = code c s f (f + 2) ++ code x s t (f + 2 + labels c) ++ J (f + 1) ∷ label f ∷ code y s t (f + 2 + labels c + labels x)
      ++ label (f + 1) ∷ []
  code (v21 c y x) s t f = code c s f (f + 2) ++ code y s t (f + 2 + labels c) ++ J (f + 1) ∷ label f ∷ code x s t (f + 2 + labels c + labels y)
      ++ label (f + 1) ∷ []
  code (v22 {es = es} ds r) s t f = all_code ds (s + 2) t f ++ code r (s + 2 + count es) t (f + all_labels ds) ++ K s ∷ []
  code (v22_valof {n = n}) s t f = Body n ∷ label f ∷ []
  code (j1 d) s t f = code d s t f
  code (j2 a b) s t f = code a (s + 1) t f ++ code b (s + 1) t (f + labels a)
  code (j3 a b) s t f = code a (s + 1) f (f + 1) ++ code b (s + 1) t (f + 1 + labels a) ++ label f ∷ []
  code (j4 a b) s t f = code a (s + 1) t f ++ code b (s + 1) t (f + labels a)
  code (j5 a b) s t f = code a (s + 1) f (f + 1) ++ code b (s + 1) t (f + 1 + labels a) ++ label f ∷ []
  code (j6 {sense = sense} h d) s t f = code d s t f ++ jump_if sense t ∷ []
  code (j7 {n = n} {sense = sense}) s t f = cond (jumps_at sense n) (J t ∷ []) []
  code (j8 {sense = sense} h k c) s t f = code c (s + 1) t f ++ jump_if (not sense) t ∷ []
  code (j9 {sense = sense} h k c) s t f = code c (s + 1) t f ++ jump_if sense t ∷ []

  -- the arguments from level s on, each stored into its cell of the new frame
  pub all_code : {T : Table} {es : Args} → DerivesAll T es → (s t f : ℕ) → List Piece
  all_code no_more s t f = []
  all_code (one_more d ds) s t f = code d s t f ++ SP s ∷ all_code ds (s + 1) t (f + labels d)

-- The cost of a derivation at level s: the words of its code, rule by rule. `Laws` says that this is what the code takes.
abbrev mutual
  pub cost : {T : Table} {e : Exp} {aim : Aim} → Derives T e aim → (s : ℕ) → ℕ
  cost (v0 d) s = cost d s
  cost (v1 {o = o} h) s = operand_words o
  cost (v2 d) s = cost d s + 1
  cost (v3 d) s = cost d s + 1
  cost (v4 d) s = cost d s + 1
  cost (v6 {o = o} h a) s = cost a (s + 1) + operand_words o
  cost (v7 {o = o} h free b) s = cost b (s + 1) + operand_words o
  cost (v8 h c) s = cost c (s + 1)
  cost (v9 {n = n} a) s = cost a (s + 1) + w (negated n)
  cost (v10 {o = o} h a) s = cost a (s + 1) + (2 + operand_words o)
  cost (v11 {o = o} h free b) s = cost b (s + 1) + (1 + operand_words o)
  cost (v12 a b) s = cost a (s + 1) + cost b (s + 1) + 1
  cost (v13 h free b a) s = cost b (s + 1) + cost a (s + 1) + 1
  cost (v14 free b a) s = cost b (s + 1) + cost a (s + 1) + 2
  cost (v15 h a b) s = cost a (s + 1) + cost b (s + 1) + (1 + 2 * w s)
  cost (v16 free b a) s = cost b (s + 1) + cost a (s + 1) + (1 + 2 * w s)
  cost (v17 a b) s = cost a (s + 1) + cost b (s + 1) + (1 + 2 * w s + 2 * w (s + 1))
  cost (v18 a b) s = cost a (s + 1) + cost b (s + 1) + 2 * w s
  cost (v19 a b) s = cost a (s + 1) + cost b (s + 1) + (1 + 2 * w s)
  cost (v20 c x y) s = cost c s + cost x s + cost y s + 2
  cost (v21 c y x) s = cost c s + cost y s + cost x s + 2
  cost (v22 {es = es} ds r) s = all_cost ds (s + 2) + cost r (s + 2 + count es) + w s
  cost v22_valof s = 0
  cost (j1 d) s = cost d s
  cost (j2 a b) s = cost a (s + 1) + cost b (s + 1)
  cost (j3 a b) s = cost a (s + 1) + cost b (s + 1)
  cost (j4 a b) s = cost a (s + 1) + cost b (s + 1)
  cost (j5 a b) s = cost a (s + 1) + cost b (s + 1)
  cost (j6 h d) s = cost d s + 2
  cost (j7 {n = n} {sense = sense}) s = cond (jumps_at sense n) 2 0
  cost (j8 h k c) s = cost c (s + 1) + 2
  cost (j9 h k c) s = cost c (s + 1) + 2

  pub all_cost : {T : Table} {es : Args} → DerivesAll T es → (s : ℕ) → ℕ
  all_cost no_more s = 0
  all_cost (one_more d ds) s = cost d s + w s + all_cost ds (s + 1)

-- The labels, the code and the cost of a root's derivation. A root contains its level. The sides of an assignment are at this
-- level if the address is an operand, else one level higher.
abbrev pub root_labels : {T : Table} {r : Root} → RootDerives T r → ℕ
root_labels (value d) = labels d
root_labels (test d) = labels d
root_labels (a1 h v) = labels v
root_labels (a2 h free a v) = labels a + labels v
root_labels (a3 h v a) = labels v + labels a

-- the code, with target t and labels from f on
abbrev pub root_code : {T : Table} {r : Root} → RootDerives T r → (t f : ℕ) → List Piece
root_code (value {s = s} d) t f = code d s t f
root_code (test {s = s} d) t f = code d s t f
root_code (a1 {s = s} {o = o} h v) t f = code v s t f ++ S o ∷ []
root_code (a2 {s = s} h free a v) t f = code a (s + 1) t f ++ SP s ∷ code v (s + 1) t (f + labels a) ++ SIP s ∷ []
root_code (a3 {s = s} h v a) t f = code v (s + 1) t f ++ SP s ∷ code a (s + 1) t (f + labels v) ++ SP (s + 1) ∷ LIP s ∷ SIP (s + 1) ∷ []

-- the words of the code
abbrev pub root_cost : {T : Table} {r : Root} → RootDerives T r → ℕ
root_cost (value {s = s} d) = cost d s
root_cost (test {s = s} d) = cost d s
root_cost (a1 {s = s} {o = o} h v) = cost v s + operand_words o
root_cost (a2 {s = s} h free a v) = cost a (s + 1) + cost v (s + 1) + 2 * w s
root_cost (a3 {s = s} h v a) = cost v (s + 1) + cost a (s + 1) + (2 * w s + 2 * w (s + 1))
