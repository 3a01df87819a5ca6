-- Each derivation by either table is also one by table 2, with the same rules.
use Rattle.std.proofs.Common.{◌≡◌, refl, ap, ◌∙◌}
use Rattle.bc_core.specs.Tree.{Exp, Args, Root}
use Rattle.bc_rules_defs.specs.declared.rule.Table.{Table}
use Rattle.bc_rules_defs.specs.declared.rule.Table.TheVariants.{Two}
use Rattle.bc_rules_defs.specs.declared.rule.Aim.{Aim}
use Rattle.bc_rules_defs.specs.declared.rule.Rule.TheVariants as rule
use Rattle.bc_rules_defs.specs.Rules.{Derives, v0, v1, v2, v3, v4, v6, v7, v8, v9, v10, v11, v12, v13, v14, v15, v16, v17, v18, v19, v20, v21, v22, v22_valof, j1, j2, j3, j4, j5, j6, j7, j8, j9, DerivesAll, no_more, one_more, RootDerives, value, test, a1, a2, a3, by, one, two, three, part, end_with, shape, shapes, root_shape}

abbrev mutual
  pub by_two : {T : Table} {e : Exp} {aim : Aim} → Derives T e aim → Derives Two e aim
  by_two (v0 d) = v0 (by_two d)
  by_two (v1 h) = v1 h
  by_two (v2 d) = v2 (by_two d)
  by_two (v3 d) = v3 (by_two d)
  by_two (v4 d) = v4 (by_two d)
  by_two (v6 h d) = v6 h (by_two d)
  by_two (v7 h free d) = v7 h free (by_two d)
  by_two (v8 h d) = v8 h (by_two d)
  by_two (v9 d) = v9 (by_two d)
  by_two (v10 h d) = v10 h (by_two d)
  by_two (v11 h free d) = v11 h free (by_two d)
  by_two (v12 d e) = v12 (by_two d) (by_two e)
  by_two (v13 h free d e) = v13 h free (by_two d) (by_two e)
  by_two (v14 free d e) = v14 free (by_two d) (by_two e)
  by_two (v15 h d e) = v15 h (by_two d) (by_two e)
  by_two (v16 free d e) = v16 free (by_two d) (by_two e)
  by_two (v17 d e) = v17 (by_two d) (by_two e)
  by_two (v18 d e) = v18 (by_two d) (by_two e)
  by_two (v19 d e) = v19 (by_two d) (by_two e)
  by_two (v20 c d e) = v20 (by_two c) (by_two d) (by_two e)
  by_two (v21 c d e) = v21 (by_two c) (by_two d) (by_two e)
  by_two (v22 ds d) = v22 (all_by_two ds) (by_two d)
  by_two v22_valof = v22_valof
  by_two (j1 d) = j1 (by_two d)
  by_two (j2 d e) = j2 (by_two d) (by_two e)
  by_two (j3 d e) = j3 (by_two d) (by_two e)
  by_two (j4 d e) = j4 (by_two d) (by_two e)
  by_two (j5 d e) = j5 (by_two d) (by_two e)
  by_two (j6 h d) = j6 h (by_two d)
  by_two j7 = j7
  by_two (j8 k h d) = j8 refl h (by_two d)
  by_two (j9 k h d) = j9 refl h (by_two d)

  pub all_by_two : {T : Table} {es : Args} → DerivesAll T es → DerivesAll Two es
  all_by_two no_more = no_more
  all_by_two (one_more d ds) = one_more (by_two d) (all_by_two ds)

mutual
  pub shape_by_two : {T : Table} {e : Exp} {aim : Aim} (d : Derives T e aim) → shape (by_two d) ≡ shape d
  shape_by_two (v0 d) = ap (λ z. by rule.V0 (one z)) (shape_by_two d)
  shape_by_two (v1 h) = refl
  shape_by_two (v2 d) = ap (λ z. by rule.V2 (one z)) (shape_by_two d)
  shape_by_two (v3 d) = ap (λ z. by rule.V3 (one z)) (shape_by_two d)
  shape_by_two (v4 d) = ap (λ z. by rule.V4 (one z)) (shape_by_two d)
  shape_by_two (v6 h d) = ap (λ z. by rule.V6 (one z)) (shape_by_two d)
  shape_by_two (v7 h free d) = ap (λ z. by rule.V7 (one z)) (shape_by_two d)
  shape_by_two (v8 h d) = ap (λ z. by rule.V8 (one z)) (shape_by_two d)
  shape_by_two (v9 d) = ap (λ z. by rule.V9 (one z)) (shape_by_two d)
  shape_by_two (v10 h d) = ap (λ z. by rule.V10 (one z)) (shape_by_two d)
  shape_by_two (v11 h free d) = ap (λ z. by rule.V11 (one z)) (shape_by_two d)
  shape_by_two (v12 d e) = ap (λ z. by rule.V12 (two z (shape (by_two e)))) (shape_by_two d) ∙ ap (λ z. by rule.V12 (two (shape d) z)) (shape_by_two e)
  shape_by_two (v13 h free d e) = ap (λ z. by rule.V13 (two z (shape (by_two e)))) (shape_by_two d) ∙ ap (λ z. by rule.V13 (two (shape d) z)) (shape_by_two e)
  shape_by_two (v14 free d e) = ap (λ z. by rule.V14 (two z (shape (by_two e)))) (shape_by_two d) ∙ ap (λ z. by rule.V14 (two (shape d) z)) (shape_by_two e)
  shape_by_two (v15 h d e) = ap (λ z. by rule.V15 (two z (shape (by_two e)))) (shape_by_two d) ∙ ap (λ z. by rule.V15 (two (shape d) z)) (shape_by_two e)
  shape_by_two (v16 free d e) = ap (λ z. by rule.V16 (two z (shape (by_two e)))) (shape_by_two d) ∙ ap (λ z. by rule.V16 (two (shape d) z)) (shape_by_two e)
  shape_by_two (v17 d e) = ap (λ z. by rule.V17 (two z (shape (by_two e)))) (shape_by_two d) ∙ ap (λ z. by rule.V17 (two (shape d) z)) (shape_by_two e)
  shape_by_two (v18 d e) = ap (λ z. by rule.V18 (two z (shape (by_two e)))) (shape_by_two d) ∙ ap (λ z. by rule.V18 (two (shape d) z)) (shape_by_two e)
  shape_by_two (v19 d e) = ap (λ z. by rule.V19 (two z (shape (by_two e)))) (shape_by_two d) ∙ ap (λ z. by rule.V19 (two (shape d) z)) (shape_by_two e)
  shape_by_two (v20 c d e) = ap (λ z. by rule.V20 (three z (shape (by_two d)) (shape (by_two e)))) (shape_by_two c) ∙ ap (λ z. by rule.V20 (three (shape c) z (shape (by_two e)))) (shape_by_two d) ∙ ap (λ z. by rule.V20 (three (shape c) (shape d) z)) (shape_by_two e)
  shape_by_two (v21 c d e) = ap (λ z. by rule.V21 (three z (shape (by_two d)) (shape (by_two e)))) (shape_by_two c) ∙ ap (λ z. by rule.V21 (three (shape c) z (shape (by_two e)))) (shape_by_two d) ∙ ap (λ z. by rule.V21 (three (shape c) (shape d) z)) (shape_by_two e)
  shape_by_two (v22 ds d) = ap (λ z. by rule.V22 (end_with z (shape (by_two d)))) (shapes_by_two ds) ∙ ap (λ z. by rule.V22 (end_with (shapes ds) z)) (shape_by_two d)
  shape_by_two v22_valof = refl
  shape_by_two (j1 d) = ap (λ z. by rule.J1 (one z)) (shape_by_two d)
  shape_by_two (j2 d e) = ap (λ z. by rule.J2 (two z (shape (by_two e)))) (shape_by_two d) ∙ ap (λ z. by rule.J2 (two (shape d) z)) (shape_by_two e)
  shape_by_two (j3 d e) = ap (λ z. by rule.J3 (two z (shape (by_two e)))) (shape_by_two d) ∙ ap (λ z. by rule.J3 (two (shape d) z)) (shape_by_two e)
  shape_by_two (j4 d e) = ap (λ z. by rule.J4 (two z (shape (by_two e)))) (shape_by_two d) ∙ ap (λ z. by rule.J4 (two (shape d) z)) (shape_by_two e)
  shape_by_two (j5 d e) = ap (λ z. by rule.J5 (two z (shape (by_two e)))) (shape_by_two d) ∙ ap (λ z. by rule.J5 (two (shape d) z)) (shape_by_two e)
  shape_by_two (j6 h d) = ap (λ z. by rule.J6 (one z)) (shape_by_two d)
  shape_by_two j7 = refl
  shape_by_two (j8 k h d) = ap (λ z. by rule.J8 (one z)) (shape_by_two d)
  shape_by_two (j9 k h d) = ap (λ z. by rule.J9 (one z)) (shape_by_two d)

  pub shapes_by_two : {T : Table} {es : Args} (ds : DerivesAll T es) → shapes (all_by_two ds) ≡ shapes ds
  shapes_by_two no_more = refl
  shapes_by_two (one_more d ds) = ap (λ z. part z (shapes (all_by_two ds))) (shape_by_two d) ∙ ap (part (shape d)) (shapes_by_two ds)

abbrev pub root_by_two : {T : Table} {r : Root} → RootDerives T r → RootDerives Two r
root_by_two (value d) = value (by_two d)
root_by_two (test d) = test (by_two d)
root_by_two (a1 h d) = a1 h (by_two d)
root_by_two (a2 h free d e) = a2 h free (by_two d) (by_two e)
root_by_two (a3 h d e) = a3 h (by_two d) (by_two e)

pub root_shape_by_two : {T : Table} {r : Root} (d : RootDerives T r) → root_shape (root_by_two d) ≡ root_shape d
root_shape_by_two (value d) = shape_by_two d
root_shape_by_two (test d) = shape_by_two d
root_shape_by_two (a1 h d) = ap (λ z. by rule.A1 (one z)) (shape_by_two d)
root_shape_by_two (a2 h free d e) = ap (λ z. by rule.A2 (two z (shape (by_two e)))) (shape_by_two d) ∙ ap (λ z. by rule.A2 (two (shape d) z)) (shape_by_two e)
root_shape_by_two (a3 h d e) = ap (λ z. by rule.A3 (two z (shape (by_two e)))) (shape_by_two d) ∙ ap (λ z. by rule.A3 (two (shape d) z)) (shape_by_two e)
