-- For proofs: the trees of a rule's parts.
use Rattle.std.specs.Prelude.{ℕ, ◌+◌, Option, Some, None}
use Rattle.bc_select_defs.specs.declared.choice.Choice.{Choice}
use Rattle.bc_rules_defs.specs.declared.rule.Rule.TheVariants.{V1}
use Rattle.bc_core.specs.Tree.{Exp, Load, Neg, Not, Bin, Cond, Call, count}
use Rattle.bc_core.specs.Operand.{constant_of}
use Rattle.bc_rules_defs.specs.declared.rule.Table.TheVariants.{Two}
use Rattle.bc_rules_defs.specs.declared.rule.Mode.TheVariants.{Any, Push}
use Rattle.bc_rules_defs.specs.declared.rule.Aim.{Aim}
use Rattle.bc_rules_defs.specs.declared.rule.Aim.TheVariants.{Gets, Jumps}
use Rattle.bc_rules_defs.specs.declared.rule.Rule.{Rule}
use Rattle.bc_rules_defs.specs.Rules.{Trees}
use Rattle.bc_select_defs.specs.Choices.{zero_number}
use Rattle.bc_select_defs.specs.Readings.{push_parts, value_parts, test_parts, leaf_parts, part_parts, pair_parts, cond_parts, call_parts, readings, readings_of_all}

-- the trees of the parts of an expression's own rules
abbrev pub own_parts : Exp → ℕ → Aim → Rule → Trees
own_parts (Load e) s = part_parts (readings Two e s)
own_parts (Neg e) s = part_parts (readings Two e s)
own_parts (Not e) s = part_parts (readings Two e s)
own_parts (Bin op a b) s = pair_parts (zero_number (constant_of b)) (readings Two a (s + 1)) (readings Two b (s + 1))
own_parts (Cond c x y) s = cond_parts (readings Two c s) (readings Two x s) (readings Two y s)
own_parts (Call es f) s = call_parts (readings_of_all Two es (s + 2)) (readings Two f (s + 2 + count es))
own_parts _ s = leaf_parts

-- the trees of the parts of every rule
abbrev pub parts_for : Exp → ℕ → Aim → Rule → Trees
parts_for e s (Gets Any) rule = value_parts (readings Two e s).push (own_parts e s (Gets Any)) rule
parts_for e s (Gets Push) rule = push_parts (own_parts e s (Gets Push)) rule
parts_for e s (Jumps sense) rule = test_parts (readings Two e s).any (own_parts e s (Jumps sense)) rule

-- the order in which aims depend on each other: a test on a value, a value on one in mode Push
abbrev pub rank : Aim → ℕ
rank (Gets Push) = 0
rank (Gets Any) = 4
rank (Jumps sense) = 8

-- the rule of a choice; without a choice the tree is a V1 without parts
abbrev pub rule_or_v1 : Option Choice → Rule
rule_or_v1 None = V1
rule_or_v1 (Some c) = c.rule
