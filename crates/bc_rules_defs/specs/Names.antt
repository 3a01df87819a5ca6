-- The names of rules: a letter and a number.
use Rattle.std.specs.Prelude.{ℕ, ◌==◌, ◌&&◌, cond, List, [], ◌∷◌, Option, Some, None}
use Rattle.bc_rules_defs.specs.declared.rule.Rule.{Rule}
use Rattle.bc_rules_defs.specs.declared.rule.Rule.TheVariants.{V0, V1, V2, V3, V4, V6, V7, V8, V9, V10, V11, V12, V13, V14, V15, V16, V17, V18, V19, V20, V21, V22, J1, J2, J3, J4, J5, J6, J7, J8, J9, A1, A2, A3}

-- the letter in ASCII: V (86) for values, J (74) for tests, A (65) for assignments
abbrev pub rule_letter : Rule → ℕ
rule_letter J1 = 74
rule_letter J2 = 74
rule_letter J3 = 74
rule_letter J4 = 74
rule_letter J5 = 74
rule_letter J6 = 74
rule_letter J7 = 74
rule_letter J8 = 74
rule_letter J9 = 74
rule_letter A1 = 65
rule_letter A2 = 65
rule_letter A3 = 65
rule_letter _ = 86

-- the number in a rule's name
abbrev pub rule_number : Rule → ℕ
rule_number V0 = 0
rule_number V1 = 1
rule_number V2 = 2
rule_number V3 = 3
rule_number V4 = 4
rule_number V6 = 6
rule_number V7 = 7
rule_number V8 = 8
rule_number V9 = 9
rule_number V10 = 10
rule_number V11 = 11
rule_number V12 = 12
rule_number V13 = 13
rule_number V14 = 14
rule_number V15 = 15
rule_number V16 = 16
rule_number V17 = 17
rule_number V18 = 18
rule_number V19 = 19
rule_number V20 = 20
rule_number V21 = 21
rule_number V22 = 22
rule_number J1 = 1
rule_number J2 = 2
rule_number J3 = 3
rule_number J4 = 4
rule_number J5 = 5
rule_number J6 = 6
rule_number J7 = 7
rule_number J8 = 8
rule_number J9 = 9
rule_number A1 = 1
rule_number A2 = 2
rule_number A3 = 3

-- all rules, in the order of the table
abbrev pub all_rules : List Rule
all_rules = V0 ∷ V1 ∷ V2 ∷ V3 ∷ V4 ∷ V6 ∷ V7 ∷ V8 ∷ V9 ∷ V10 ∷ V11 ∷ V12 ∷ V13 ∷ V14 ∷ V15 ∷ V16 ∷ V17 ∷ V18 ∷ V19 ∷ V20 ∷ V21 ∷ V22 ∷ J1 ∷ J2 ∷ J3 ∷ J4
    ∷ J5 ∷ J6 ∷ J7 ∷ J8 ∷ J9 ∷ A1 ∷ A2 ∷ A3 ∷ []

-- the first of these rules that has this letter and number
abbrev pub found : ℕ → ℕ → List Rule → Option Rule
found letter n [] = None
found letter n (r ∷ rs) = cond (rule_letter r == letter && rule_number r == n) (Some r) (found letter n rs)

-- the rule with this letter and number, if there is one
abbrev pub rule_named : ℕ → ℕ → Option Rule
rule_named letter n = found letter n all_rules
