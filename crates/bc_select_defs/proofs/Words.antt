-- The choices of an expression are its least words, with the rules of the lowest numbers that attain them.
use Rattle.std.proofs.Common.{◌≡◌, ℕ, ◌+◌, Option, Some, None, refl, ap, ◌∙◌}
use Rattle.std.specs.Prelude.{true, false}
use Rattle.bc_core.specs.Tree.{Exp, Num, Frame, Glob, Place, Load, Neg, Not, Bin, Cond, Call, Valof, count}
use Rattle.bc_core.specs.Operand.{constant_of}
use Rattle.bc_rules_defs.specs.declared.rule.Table.{Table}
use Rattle.bc_rules_defs.specs.declared.rule.Aim.{Aim}
use Rattle.bc_rules_defs.specs.declared.rule.Aim.TheVariants.{Gets, Jumps}
use Rattle.bc_rules_defs.specs.declared.rule.Mode.TheVariants.{Any, Push}
use Rattle.bc_rules_defs.specs.declared.rule.Rule.{Rule}
use Rattle.bc_rules_defs.specs.Rules.{Derives, Tree, Trees}
use Rattle.bc_rules_defs.specs.Code.{cost}
use Rattle.bc_select_defs.specs.declared.choice.Choice.{Choice}
use Rattle.bc_select_defs.specs.declared.choice.Choices.{Choices}
use Rattle.bc_select_defs.specs.Readings.{tree_for, tree_of, read_line, leaf_parts, part_parts, pair_parts, cond_parts, call_parts, readings, readings_of_all}
use Rattle.bc_select_defs.specs.Least.{top, first_rule, IsLeastRule}
use Rattle.bc_rules_defs.specs.Names.{rule_number}
use Rattle.bc_select_defs.specs.Options.{words_of, rule_of}
use Rattle.bc_select_defs.specs.Choices.{choice_for, zero_number, choices}
use Rattle.bc_select_defs.specs.Folds.{AtMost}
use Rattle.bc_select_defs.specs.Lower.{lower}
use Rattle.bc_select_defs.specs.Attained.{Part, part_for, attained}
use Rattle.bc_select_defs.specs.Chosen.{words_are_least}
use Rattle.bc_select_defs.specs.Laws.{ChoicesAreLeast}

tree_top : (x : Option Choice) (parts : Rule → Trees) (c : Choice) → x ≡ Some c → top (tree_of x parts) ≡ c.rule
tree_top None parts c h = cc
tree_top (Some b) parts c h = cc

line_top : (cs : Choices) (own : Aim → Rule → Trees) (aim : Aim) (c : Choice) → choice_for aim cs ≡ Some c → top (tree_for aim (read_line cs own)) ≡ c.rule
line_top cs own (Gets Any) c h = tree_top cs.any _ c h
line_top cs own (Gets Push) c h = tree_top cs.push _ c h
line_top cs own (Jumps false) c h = tree_top cs.on_false _ c h
line_top cs own (Jumps true) c h = tree_top cs.on_true _ c h

-- the tree for an aim begins with the rule of its choice
begins : (T : Table) (e : Exp) (s : ℕ) (aim : Aim) (c : Choice) → choice_for aim (choices T e s) ≡ Some c → top (tree_for aim (readings T e s)) ≡ c.rule
begins T (Num n) s aim c h = line_top _ leaf_parts aim c h
begins T (Frame k) s aim c h = line_top _ leaf_parts aim c h
begins T (Glob n) s aim c h = line_top _ leaf_parts aim c h
begins T (Place m) s aim c h = line_top _ leaf_parts aim c h
begins T (Load e) s aim c h = line_top _ (part_parts (readings T e s)) aim c h
begins T (Neg e) s aim c h = line_top _ (part_parts (readings T e s)) aim c h
begins T (Not e) s aim c h = line_top _ (part_parts (readings T e s)) aim c h
begins T (Bin op a b) s aim c h = line_top _ (pair_parts (zero_number (constant_of b)) (readings T a (s + 1)) (readings T b (s + 1))) aim c h
begins T (Cond b x y) s aim c h = line_top _ (cond_parts (readings T b s) (readings T x s) (readings T y s)) aim c h
begins T (Call es f) s aim c h = line_top _ (call_parts (readings_of_all T es (s + 2)) (readings T f (s + 2 + count es))) aim c h
begins T (Valof n) s aim c h = line_top _ leaf_parts aim c h

rule_least : (T : Table) (e : Exp) (aim : Aim) (s : ℕ) (t : Tree) (x : Option Choice) → Part T e aim s t (words_of x) → ((c : Choice) → x ≡ Some c → top t ≡ c.rule) → ((d : Derives T e aim) → AtMost x (cost d s) (rule_number (first_rule d))) → IsLeastRule T e aim s (rule_of x)
rule_least T e aim s t None h k low = λ d. (low d).fact
rule_least T e aim s t (Some c) h k low = let found = h.some c.words refl in (found.thing, (found.fact.least, ap top found.fact.shape_is ∙ k c refl))

pub choices_are_least : ChoicesAreLeast
choices_are_least T e aim s =
    let h = part_for (attained T e s) aim in (
      words_are_least T e aim s,
      rule_least T e aim s (tree_for aim (readings T e s)) (choice_for aim (choices T e s)) h (begins T e s aim) (λ d. lower d s),
    )
