-- The first rule of a derivation is determined by its number and the aim.
use Rattle.std.proofs.Common.{◌≡◌, ℕ, ◌==◌, cond, refl, ap, sym, ◌∙◌}
use Rattle.bc_core.specs.Tree.{Exp}
use Rattle.bc_rules_defs.specs.declared.rule.Table.{Table}
use Rattle.bc_rules_defs.specs.declared.rule.Aim.{Aim}
use Rattle.bc_rules_defs.specs.declared.rule.Aim.TheVariants.{Gets, Jumps}
use Rattle.bc_rules_defs.specs.declared.rule.Rule.{Rule}
use Rattle.bc_rules_defs.specs.declared.rule.Rule.TheVariants as rule
use Rattle.bc_rules_defs.specs.Rules.{Derives, v0, v1, v2, v3, v4, v6, v7, v8, v9, v10, v11, v12, v13, v14, v15, v16, v17, v18, v19, v20, v21, v22, v22_valof, j1, j2, j3, j4, j5, j6, j7, j8, j9}
use Rattle.bc_select_defs.specs.Least.{first_rule}
use Rattle.bc_rules_defs.specs.Names.{rule_number}

abbrev rule_at : Aim → ℕ → Rule
rule_at (Gets m) n = cond (n == 0) rule.V0 (cond (n == 1) rule.V1 (cond (n == 2) rule.V2 (cond (n == 3) rule.V3 (cond (n == 4) rule.V4 (cond (n == 6) rule.V6 (cond (n == 7) rule.V7 (cond (n == 8) rule.V8 (cond (n == 9) rule.V9 (cond (n == 10) rule.V10 (cond (n == 11) rule.V11 (cond (n == 12) rule.V12 (cond (n == 13) rule.V13 (cond (n == 14) rule.V14 (cond (n == 15) rule.V15 (cond (n == 16) rule.V16 (cond (n == 17) rule.V17 (cond (n == 18) rule.V18 (cond (n == 19) rule.V19 (cond (n == 20) rule.V20 (cond (n == 21) rule.V21 (rule.V22)))))))))))))))))))))
rule_at (Jumps sense) n = cond (n == 1) rule.J1 (cond (n == 2) rule.J2 (cond (n == 3) rule.J3 (cond (n == 4) rule.J4 (cond (n == 5) rule.J5 (cond (n == 6) rule.J6 (cond (n == 7) rule.J7 (cond (n == 8) rule.J8 (rule.J9))))))))

rule_is : {T : Table} {e : Exp} {aim : Aim} (d : Derives T e aim) → rule_at aim (rule_number (first_rule d)) ≡ first_rule d
rule_is (v0 d) = refl
rule_is (v1 h) = refl
rule_is (v2 d) = refl
rule_is (v3 d) = refl
rule_is (v4 d) = refl
rule_is (v6 h d) = refl
rule_is (v7 h f d) = refl
rule_is (v8 h d) = refl
rule_is (v9 d) = refl
rule_is (v10 h d) = refl
rule_is (v11 h f d) = refl
rule_is (v12 a b) = refl
rule_is (v13 h f b a) = refl
rule_is (v14 f b a) = refl
rule_is (v15 h a b) = refl
rule_is (v16 f b a) = refl
rule_is (v17 a b) = refl
rule_is (v18 a b) = refl
rule_is (v19 a b) = refl
rule_is (v20 c x y) = refl
rule_is (v21 c y x) = refl
rule_is (v22 ds f) = refl
rule_is v22_valof = refl
rule_is (j1 d) = refl
rule_is (j2 a b) = refl
rule_is (j3 a b) = refl
rule_is (j4 a b) = refl
rule_is (j5 a b) = refl
rule_is (j6 h d) = refl
rule_is j7 = refl
rule_is (j8 h k d) = refl
rule_is (j9 h k d) = refl

pub same_rule : {T : Table} {e : Exp} {aim : Aim} (d b : Derives T e aim) → rule_number (first_rule d) ≡ rule_number (first_rule b) → first_rule d ≡ first_rule b
same_rule {aim = aim} d b h = sym (rule_is d) ∙ ap (rule_at aim) h ∙ rule_is b
