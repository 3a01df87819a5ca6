-- Worked examples: the least words of nodes and the rules that attain them, as the choices have them.
use Rattle.std.specs.Prelude.{◌≡◌, ℕ, Some, None, refl}
use Rattle.bc_word.specs.declared.operator.Op.TheVariants.{Add, Subtract, Multiply, Equal}
use Rattle.bc_core.specs.Tree.{Num, Bin, Load, Cond}
use Rattle.bc_rules_defs.specs.declared.rule.Table.TheVariants.{One, Two}
use Rattle.bc_rules_defs.specs.declared.rule.Rule.{Rule}
use Rattle.bc_rules_defs.specs.declared.rule.Rule.TheVariants as rule
use Rattle.bc_select_defs.specs.declared.choice.Choice.{Choice}
use Rattle.bc_select_defs.specs.Options.{plus, more, sum, given, better, least_from, operand_cost}
use Rattle.bc_select_defs.specs.Choices.{choices, number_cost}
use Rattle.bc_select_defs.specs.worked.Values.{at}
use Rattle.bc_select_defs.specs.worked.Refusals.{f}

-- ---- Worked examples

abbrev pick : ℕ → Rule → Choice
pick words by = record { words = words; rule = by }

-- v + w takes two words by V6 and by V7: the rule of the lower number is chosen; both work in mode Push
tie : let c = choices Two (Bin Add (at 2) (at 3)) 4 in (c.push ≡ Some (pick 2 rule.V6)) × (c.any ≡ Some (pick 2 rule.V0))
unfolding least_from better given plus more sum operand_cost number_cost
tie = (refl, refl)

-- v * w: three words by V12, which doesn't keep B
product : let c = choices Two (Bin Multiply (at 2) (at 3)) 4 in (c.push ≡ None) × (c.any ≡ Some (pick 3 rule.V12))
unfolding least_from better given plus more sum operand_cost number_cost
product = (refl, refl)

-- v - !!w: four words by V11 (`LIP3 X1 X2 AIP2`), which works in mode Push
difference : (choices Two (Bin Subtract (at 2) (Load (at 3))) 4).push ≡ Some (pick 4 rule.V11)
unfolding least_from better given plus more sum operand_cost number_cost
difference = refl

-- f() - f(): the last rule that applies is the best, with seven words by V19 against nine by V17
last_rule : (choices Two (Bin Subtract f f) 4).any ≡ Some (pick 7 rule.V19)
unfolding least_from better given plus more sum operand_cost number_cost
last_rule = refl

-- v = 0 as a test: three words by table 2, and five by table 1
zero_by_table_2 : (choices Two (Bin Equal (at 2) (Num 0)) 4).on_false ≡ Some (pick 3 rule.J8)
unfolding least_from better given plus more sum operand_cost number_cost
zero_by_table_2 = refl

zero_by_table_1 : (choices One (Bin Equal (at 2) (Num 0)) 4).on_false ≡ Some (pick 5 rule.J6)
unfolding least_from better given plus more sum operand_cost number_cost
zero_by_table_1 = refl

-- 1 as a test: no words to jump on false, two to jump on true
number : let c = choices Two (Num 1) 4 in (c.on_false ≡ Some (pick 0 rule.J7)) × (c.on_true ≡ Some (pick 2 rule.J7))
unfolding least_from better given plus more sum operand_cost number_cost
number = (refl, refl)

-- v -> w, x: seven words by V20 and also by V21
condition : (choices Two (Cond (at 2) (at 3) (at 4)) 5).any ≡ Some (pick 7 rule.V20)
unfolding least_from better given plus more sum operand_cost number_cost
condition = refl
