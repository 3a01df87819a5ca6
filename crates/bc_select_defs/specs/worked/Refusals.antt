-- Worked examples: expressions to which a rule doesn't apply.
use Rattle.std.specs.Prelude.{◌≡◌, ℕ, true, false, refl}
use Rattle.bc_word.specs.declared.operator.Op.TheVariants.{Add, Subtract, Multiply, Divide, Less, Equal, NotEqual, And, Or, ShiftLeft}
use Rattle.bc_core.specs.Tree.{Exp, Num, Frame, Glob, Load, Neg, Not, Bin, Cond, Call, no_argument, Root, Value, Assign}
use Rattle.bc_rules_defs.specs.declared.rule.Table.{Table}
use Rattle.bc_rules_defs.specs.declared.rule.Table.TheVariants.{One, Two}
use Rattle.bc_rules_defs.specs.declared.rule.Mode.TheVariants.{Any, Push}
use Rattle.bc_rules_defs.specs.declared.rule.Aim.{Aim}
use Rattle.bc_rules_defs.specs.declared.rule.Aim.TheVariants.{Gets, Jumps}
use Rattle.bc_rules_defs.specs.declared.rule.Rule.{Rule}
use Rattle.bc_rules_defs.specs.declared.rule.Rule.TheVariants as rule
use Rattle.bc_rules_defs.specs.Rules.{Derives, v0, v1, v6, v7, v8, v10, v11, v13, v14, v15, v16, j6, j8, j9, RootDerives, a1, a2, a3, Trees, by, shape, root_shape}
use Rattle.bc_select_defs.specs.worked.Values.{at}

-- ---- Worked examples

-- no derivation begins with this rule
abbrev pub Never : Table → Exp → Aim → Rule → Type 0
Never T e aim r = (d : Derives T e aim) (parts : Trees) → ¬ (shape d ≡ by r parts)

abbrev pub RootNever : Table → Root → Rule → Type 0
RootNever T root r = (d : RootDerives T root) (parts : Trees) → ¬ (root_shape d ≡ by r parts)

-- f(), where f is the global 100
abbrev pub f : Exp
f = Call no_argument (Load (Glob 100))

-- V1: a sum of two variables is no operand
v1_of_a_sum : Never One (Bin Add (at 2) (at 3)) (Gets Push) rule.V1
v1_of_a_sum (v1 h) parts e = cc
v1_of_a_sum _ parts e = cc

-- V2, V3 and V4: each applies to one operator
v2_of_a_negative : Never One (Neg (at 2)) (Gets Any) rule.V2
v2_of_a_negative (v0 d) parts e = cc
v2_of_a_negative _ parts e = cc

v3_of_a_content : Never One (Load (at 2)) (Gets Any) rule.V3
v3_of_a_content (v0 d) parts e = cc
v3_of_a_content _ parts e = cc

v4_of_a_negative : Never One (Neg (at 2)) (Gets Any) rule.V4
v4_of_a_negative (v0 d) parts e = cc
v4_of_a_negative _ parts e = cc

-- V6: the right side isn't an operand
v6_by_a_product : Never One (Bin Add (at 2) (Bin Multiply (at 3) (at 4))) (Gets Any) rule.V6
v6_by_a_product (v6 h a) parts e = cc
v6_by_a_product _ parts e = cc

-- V7: the call may set the variable, so the variable must not be read after it
v7_beside_a_call : Never One (Bin Add (at 2) f) (Gets Any) rule.V7
v7_beside_a_call (v7 h free b) parts e = cc
v7_beside_a_call _ parts e = cc

-- V8: neither 0 - v nor 0 * v has a 0 that can be dropped
v8_of_a_negative : Never One (Bin Subtract (Num 0) (at 2)) (Gets Any) rule.V8
v8_of_a_negative (v8 h c) parts e = cc
v8_of_a_negative _ parts e = cc

v8_of_a_product : Never One (Bin Multiply (Num 0) (at 2)) (Gets Any) rule.V8
v8_of_a_product (v8 h c) parts e = cc
v8_of_a_product _ parts e = cc

-- V9: v isn't a number
v9_by_a_variable : Never One (Bin Subtract (at 2) (at 3)) (Gets Any) rule.V9
v9_by_a_variable (v0 d) parts e = cc
v9_by_a_variable _ parts e = cc

-- V10: the right side isn't an operand
v10_by_a_product : Never One (Bin Subtract (at 2) (Bin Multiply (at 3) (at 4))) (Gets Any) rule.V10
v10_by_a_product (v10 h a) parts e = cc
v10_by_a_product _ parts e = cc

v11_beside_a_call : Never One (Bin Subtract (at 2) f) (Gets Any) rule.V11
v11_beside_a_call (v11 h free b) parts e = cc
v11_beside_a_call _ parts e = cc

-- V12 isn't in mode Push: no rule that evaluates two parts is
v12_pushed : Never One (Bin Multiply (at 2) (at 3)) (Gets Push) rule.V12
v12_pushed (v1 h) parts e = cc
v12_pushed _ parts e = cc

-- V13: the sides of `x + f()` are not free, and `<<` has no mirror
v13_beside_a_call : Never One (Bin Add (at 2) f) (Gets Any) rule.V13
v13_beside_a_call (v13 h free b a) parts e = cc
v13_beside_a_call _ parts e = cc

v13_of_a_shift : Never One (Bin ShiftLeft (at 2) (at 3)) (Gets Any) rule.V13
v13_of_a_shift (v13 h free b a) parts e = cc
v13_of_a_shift _ parts e = cc

v14_beside_a_call : Never One (Bin Subtract (at 2) f) (Gets Any) rule.V14
v14_beside_a_call (v14 free b a) parts e = cc
v14_beside_a_call _ parts e = cc

v15_of_a_quotient : Never One (Bin Divide (at 2) (at 3)) (Gets Any) rule.V15
v15_of_a_quotient (v15 h a b) parts e = cc
v15_of_a_quotient _ parts e = cc

v16_beside_a_call : Never One (Bin Divide (at 2) f) (Gets Any) rule.V16
v16_beside_a_call (v16 free b a) parts e = cc
v16_beside_a_call _ parts e = cc

-- V18 applies to sums, V19 to differences
v18_of_a_difference : Never One (Bin Subtract f f) (Gets Any) rule.V18
v18_of_a_difference (v0 d) parts e = cc
v18_of_a_difference _ parts e = cc

v19_of_a_sum : Never One (Bin Add f f) (Gets Any) rule.V19
v19_of_a_sum (v0 d) parts e = cc
v19_of_a_sum _ parts e = cc

-- V20 and V21 aren't in mode Push either
v20_pushed : Never One (Cond (at 2) (at 3) (at 4)) (Gets Push) rule.V20
v20_pushed (v1 h) parts e = cc

v21_pushed : Never One (Cond (at 2) (at 3) (at 4)) (Gets Push) rule.V21
v21_pushed (v1 h) parts e = cc

v22_pushed : Never One f (Gets Push) rule.V22
v22_pushed (v1 h) parts e = cc

-- J1 to J5: each applies to one operator, J2 to J5 to one sense
j1_of_a_negative : Never One (Neg (at 2)) (Jumps true) rule.J1
j1_of_a_negative (j6 h d) parts e = cc

j2_on_true : Never One (Bin And (at 2) (at 3)) (Jumps true) rule.J2
j2_on_true (j6 h d) parts e = cc
j2_on_true _ parts e = cc

j3_on_false : Never One (Bin And (at 2) (at 3)) (Jumps false) rule.J3
j3_on_false (j6 h d) parts e = cc
j3_on_false _ parts e = cc

j4_on_false : Never One (Bin Or (at 2) (at 3)) (Jumps false) rule.J4
j4_on_false (j6 h d) parts e = cc
j4_on_false _ parts e = cc

j5_on_true : Never One (Bin Or (at 2) (at 3)) (Jumps true) rule.J5
j5_on_true (j6 h d) parts e = cc
j5_on_true _ parts e = cc

-- J6: the value of a NOT isn't tested
j6_of_not : Never One (Not (at 2)) (Jumps false) rule.J6
j6_of_not (j6 h d) parts e = cc
j6_of_not _ parts e = cc

j6_of_and : Never Two (Bin And (at 2) (at 3)) (Jumps false) rule.J6
j6_of_and (j6 h d) parts e = cc
j6_of_and _ parts e = cc

j7_of_a_variable : Never One (at 2) (Jumps false) rule.J7
j7_of_a_variable (j6 h d) parts e = cc

-- J8 and J9 aren't in table 1, and need a 0
j8_by_table_1 : Never One (Bin Equal (at 2) (Num 0)) (Jumps false) rule.J8
j8_by_table_1 (j8 h k c) parts e = cc
j8_by_table_1 _ parts e = cc

j8_beside_1 : Never Two (Bin Equal (at 2) (Num 1)) (Jumps false) rule.J8
j8_beside_1 (j8 h k c) parts e = cc
j8_beside_1 _ parts e = cc

j9_by_table_1 : Never One (Bin NotEqual (at 2) (Num 0)) (Jumps true) rule.J9
j9_by_table_1 (j9 h k c) parts e = cc
j9_by_table_1 _ parts e = cc

-- A1 needs an address that is an operand, A2 and A3 one that isn't; A2 also needs free sides
a1_to_a_content : RootNever One (Assign 4 (Num 1) (Load (at 2))) rule.A1
a1_to_a_content (a1 h v) parts e = cc
a1_to_a_content _ parts e = cc

a2_to_a_variable : RootNever One (Assign 4 (Num 1) (Frame 2)) rule.A2
a2_to_a_variable (a2 h free a v) parts e = cc
a2_to_a_variable _ parts e = cc

a2_beside_a_call : RootNever One (Assign 4 f (Load (at 2))) rule.A2
a2_beside_a_call (a2 h free a v) parts e = cc
a2_beside_a_call _ parts e = cc

a3_to_a_variable : RootNever One (Assign 4 (Num 1) (Frame 2)) rule.A3
a3_to_a_variable (a3 h v a) parts e = cc
a3_to_a_variable _ parts e = cc
