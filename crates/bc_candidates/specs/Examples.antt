-- Worked examples: the rules with which a derivation can begin, from the lists of a node. The prover computes each.
use Rattle.std.specs.Prelude.{◌≡◌, ℕ, List, [], ◌∷◌, refl}
use Rattle.bc_word.specs.declared.operator.Op.TheVariants.{Add, Subtract, Multiply, Equal}
use Rattle.bc_core.specs.Tree.{Exp, Num, Glob, Frame, Bin, Load, Cond, Call, no_argument}
use Rattle.bc_rules_defs.specs.declared.rule.Rule.{Rule}
use Rattle.bc_rules_defs.specs.declared.rule.Rule.TheVariants as rule
use Rattle.bc_select_defs.specs.Options.{plus, more, sum, given, better, least_from, operand_cost}
use Rattle.bc_select_defs.specs.Choices.{number_cost}
use Rattle.bc_candidates.specs.declared.candidate.Beginning.{Beginning}
use Rattle.bc_candidates.specs.Aims.{ForAims}
use Rattle.bc_candidates.specs.Lists.{candidates_at}

-- ---- Worked examples

abbrev begins : Rule → ℕ → Beginning
begins by words = record { rule = by; words = words }

-- a variable, and a call without arguments
abbrev at : ℕ → Exp
at k = Load (Frame k)

abbrev f : Exp
f = Call no_argument (Load (Glob 100))

-- v + w as a value: two words by three rules, and no rule of differences
sum_of_variables : (candidates_at (Bin Add (at 2) (at 3), 4)).any ≡ begins rule.V0 2 ∷ begins rule.V6 2
    ∷ begins rule.V7 2 ∷ begins rule.V12 3 ∷ begins rule.V13 3 ∷ begins rule.V15 5 ∷ begins rule.V16 5
    ∷ begins rule.V17 7 ∷ begins rule.V18 4 ∷ []
unfolding least_from better given plus more sum operand_cost number_cost
sum_of_variables = refl

-- v - w: neither the rules for sums nor those that need a mirror
difference_of_variables : (candidates_at (Bin Subtract (at 2) (at 3), 4)).any ≡ begins rule.V0 3 ∷ begins rule.V10 4
    ∷ begins rule.V11 3 ∷ begins rule.V12 3 ∷ begins rule.V14 4 ∷ begins rule.V16 5 ∷ begins rule.V17 7
    ∷ begins rule.V19 5 ∷ []
unfolding least_from better given plus more sum operand_cost number_cost
difference_of_variables = refl

-- f() - f(): only two rules, since the calls must keep their order; for f() + f() there is a third, which uses the mirror
difference_of_calls : (candidates_at (Bin Subtract f f, 4)).any ≡ begins rule.V17 9 ∷ begins rule.V19 7 ∷ []
unfolding least_from better given plus more sum operand_cost number_cost
difference_of_calls = refl

sum_of_calls : (candidates_at (Bin Add f f, 4)).any ≡ begins rule.V15 7 ∷ begins rule.V17 9 ∷ begins rule.V18 6 ∷ []
unfolding least_from better given plus more sum operand_cost number_cost
sum_of_calls = refl

-- v + w has derivations in mode Push, v * w has none
pushed_sum : (candidates_at (Bin Add (at 2) (at 3), 4)).push ≡ begins rule.V6 2 ∷ begins rule.V7 2 ∷ []
unfolding least_from better given plus more sum operand_cost number_cost
pushed_sum = refl

pushed_product : (candidates_at (Bin Multiply (at 2) (at 3), 4)).push ≡ []
unfolding least_from better given plus more sum operand_cost number_cost
pushed_product = refl

-- v = 0 as a test may drop the 0, v = 1 may not
test_of_zero : (candidates_at (Bin Equal (at 2) (Num 0), 4)).on_false ≡ begins rule.J6 5 ∷ begins rule.J8 3 ∷ []
unfolding least_from better given plus more sum operand_cost number_cost
test_of_zero = refl

test_of_one : (candidates_at (Bin Equal (at 2) (Num 1), 4)).on_false ≡ begins rule.J6 5 ∷ []
unfolding least_from better given plus more sum operand_cost number_cost
test_of_one = refl

-- a conditional expression is a value by two rules, and never in mode Push
conditional : (candidates_at (Cond (at 2) (at 3) (at 4), 5)).any ≡ begins rule.V20 7 ∷ begins rule.V21 7 ∷ []
unfolding least_from better given plus more sum operand_cost number_cost
conditional = refl

pushed_conditional : (candidates_at (Cond (at 2) (at 3) (at 4), 5)).push ≡ []
unfolding least_from better given plus more sum operand_cost number_cost
pushed_conditional = refl
