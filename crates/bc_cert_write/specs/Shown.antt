-- The nodes of a root in the order of their lines, each with the rules that a derivation has at it, the outermost first.
-- A node shows no rules if a rule above takes it as its operand, as its number or as the 0 that it drops. The nodes below such
-- a node show none either.
use Rattle.std.specs.Prelude.{ℕ, ◌+◌, ◌-◌, cond, List, [], ◌∷◌, ◌++◌, map, take}
use Rattle.bc_core.specs.Tree.{Exp, Num, Args, count, Root}
use Rattle.bc_core.specs.WellFormed.{nodes}
use Rattle.bc_rules_defs.specs.declared.rule.Table.{Table}
use Rattle.bc_rules_defs.specs.declared.rule.Aim.{Aim}
use Rattle.bc_rules_defs.specs.declared.rule.Rule.{Rule}
use Rattle.bc_rules_defs.specs.declared.rule.Rule.TheVariants.{V0, J6}
use Rattle.bc_rules_defs.specs.Free.{is_zero}
use Rattle.bc_rules_defs.specs.Rules.{Derives, v0, v1, v2, v3, v4, v6, v7, v8, v9, v10, v11, v12, v13, v14, v15, v16, v17, v18, v19, v20, v21, v22, v22_valof, j1, j2, j3, j4, j5, j6, j7, j8, j9, DerivesAll, no_more, one_more, RootDerives, value, test, a1, a2, a3}
use Rattle.bc_select_defs.specs.Least.{first_rule}
use Rattle.bc_select_defs.specs.Nodes.{in_order}

pub record Shown : Type 0 where
  pub expression : Exp
  pub level : ℕ
  pub rules : List Rule

-- the nodes of an expression's parts, followed by its own
abbrev pub ended : List Shown → Exp → ℕ → List Rule → List Shown
ended parts e s rules = parts ++ record { expression = e; level = s; rules = rules } ∷ []

-- the nodes of an expression, none of which shows a rule; below_bare has all but the last, which is the expression's own
abbrev pub bare : Exp → ℕ → List Shown
bare e s = map (λ n. record { expression = n.0; level = n.1; rules = [] }) (in_order e s)

abbrev pub below_bare : Exp → ℕ → List Shown
below_bare e s = take (nodes e - 1) (bare e s)

-- the rules at the derivation's own node: the rules J6 and V0 apply at the same node as the rule below them
abbrev pub rules_of_value : {T : Table} {e : Exp} {aim : Aim} → Derives T e aim → List Rule
rules_of_value (v0 d) = V0 ∷ first_rule d ∷ []
rules_of_value d = first_rule d ∷ []

abbrev pub rules_at : {T : Table} {e : Exp} {aim : Aim} → Derives T e aim → List Rule
rules_at (j6 h d) = J6 ∷ rules_of_value d
rules_at d = rules_of_value d

-- these nodes, followed by the derivation's own node with its rules
abbrev pub ended_by : {T : Table} {e : Exp} {aim : Aim} → List Shown → Derives T e aim → ℕ → List Shown
ended_by {e = e} parts d s = ended parts e s (rules_at d)

-- the nodes below that of a derivation, in the order of the source, even if the code has another order
abbrev mutual
  pub below : {T : Table} {e : Exp} {aim : Aim} → Derives T e aim → ℕ → List Shown
  below (v0 d) s = below d s
  below (v1 {e = e} h) s = below_bare e s
  below (v2 d) s = ended_by (below d s) d s
  below (v3 d) s = ended_by (below d s) d s
  below (v4 d) s = ended_by (below d s) d s
  below (v6 {b = b} h d) s = ended_by (below d (s + 1)) d (s + 1) ++ bare b (s + 1)
  below (v7 {a = a} h free d) s = bare a (s + 1) ++ ended_by (below d (s + 1)) d (s + 1)
  below (v8 {a = a} {b = b} h d) s = cond (is_zero b) (ended_by (below d (s + 1)) d (s + 1) ++ bare b (s + 1))
      (bare a (s + 1) ++ ended_by (below d (s + 1)) d (s + 1))
  below (v9 {n = n} d) s = ended_by (below d (s + 1)) d (s + 1) ++ bare (Num n) (s + 1)
  below (v10 {b = b} h d) s = ended_by (below d (s + 1)) d (s + 1) ++ bare b (s + 1)
  below (v11 {a = a} h free d) s = bare a (s + 1) ++ ended_by (below d (s + 1)) d (s + 1)
  below (v12 a b) s = ended_by (below a (s + 1)) a (s + 1) ++ ended_by (below b (s + 1)) b (s + 1)
  below (v13 h free b a) s = ended_by (below a (s + 1)) a (s + 1) ++ ended_by (below b (s + 1)) b (s + 1)
  below (v14 free b a) s = ended_by (below a (s + 1)) a (s + 1) ++ ended_by (below b (s + 1)) b (s + 1)
  below (v15 h a b) s = ended_by (below a (s + 1)) a (s + 1) ++ ended_by (below b (s + 1)) b (s + 1)
  below (v16 free b a) s = ended_by (below a (s + 1)) a (s + 1) ++ ended_by (below b (s + 1)) b (s + 1)
  below (v17 a b) s = ended_by (below a (s + 1)) a (s + 1) ++ ended_by (below b (s + 1)) b (s + 1)
  below (v18 a b) s = ended_by (below a (s + 1)) a (s + 1) ++ ended_by (below b (s + 1)) b (s + 1)
  below (v19 a b) s = ended_by (below a (s + 1)) a (s + 1) ++ ended_by (below b (s + 1)) b (s + 1)
  below (v20 c x y) s = (ended_by (below c s) c s ++ ended_by (below x s) x s) ++ ended_by (below y s) y s
  below (v21 c y x) s = (ended_by (below c s) c s ++ ended_by (below x s) x s) ++ ended_by (below y s) y s
  below (v22 {es = es} ds f) s = all_shown ds (s + 2) ++ ended_by (below f (s + 2 + count es)) f (s + 2 + count es)
  below v22_valof s = []
  below (j1 d) s = ended_by (below d s) d s
  below (j2 a b) s = ended_by (below a (s + 1)) a (s + 1) ++ ended_by (below b (s + 1)) b (s + 1)
  below (j3 a b) s = ended_by (below a (s + 1)) a (s + 1) ++ ended_by (below b (s + 1)) b (s + 1)
  below (j4 a b) s = ended_by (below a (s + 1)) a (s + 1) ++ ended_by (below b (s + 1)) b (s + 1)
  below (j5 a b) s = ended_by (below a (s + 1)) a (s + 1) ++ ended_by (below b (s + 1)) b (s + 1)
  below (j6 h d) s = below d s
  below j7 s = []
  below (j8 {a = a} {b = b} h k d) s = cond (is_zero b) (ended_by (below d (s + 1)) d (s + 1) ++ bare b (s + 1))
      (bare a (s + 1) ++ ended_by (below d (s + 1)) d (s + 1))
  below (j9 {a = a} {b = b} h k d) s = cond (is_zero b) (ended_by (below d (s + 1)) d (s + 1) ++ bare b (s + 1))
      (bare a (s + 1) ++ ended_by (below d (s + 1)) d (s + 1))

  pub all_shown : {T : Table} {es : Args} → DerivesAll T es → ℕ → List Shown
  all_shown no_more s = []
  all_shown (one_more d ds) s = ended_by (below d s) d s ++ all_shown ds (s + 1)

-- all nodes of a derivation
abbrev pub shown : {T : Table} {e : Exp} {aim : Aim} → Derives T e aim → ℕ → List Shown
shown d s = ended_by (below d s) d s

-- all nodes of a root: of an assignment first those of the value, then those of the address
abbrev pub root_shown : {T : Table} {r : Root} → RootDerives T r → List Shown
root_shown (value {s = s} d) = shown d s
root_shown (test {s = s} d) = shown d s
root_shown (a1 {s = s} {a = a} h v) = shown v s ++ bare a s
root_shown (a2 {s = s} h free a v) = shown v (s + 1) ++ shown a (s + 1)
root_shown (a3 {s = s} h v a) = shown v (s + 1) ++ shown a (s + 1)
