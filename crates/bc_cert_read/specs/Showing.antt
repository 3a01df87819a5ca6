-- For proofs: for which aims the rules of a node line make a derivation, computed as the program does it.
use Rattle.std.specs.Prelude.{ℕ, ◌+◌, ◌==◌, Bool, true, false, not, ◌&&◌, cond, List, [], ◌∷◌, Option, Some, None, Result, Ok, Err}
use Rattle.bc_cert_defs.specs.declared.check_fault.CheckFault.{CheckFault}
use Rattle.bc_cert_defs.specs.declared.check_fault.CheckFault.TheVariants.{WrongCost, WrongRule}
use Rattle.bc_rules_defs.specs.declared.rule.Mode.TheVariants.{Any, Push}
use Rattle.bc_rules_defs.specs.declared.rule.Aim.{Aim}
use Rattle.bc_rules_defs.specs.declared.rule.Aim.TheVariants.{Gets, Jumps}
use Rattle.bc_rules_defs.specs.declared.rule.Rule.{Rule}
use Rattle.bc_rules_defs.specs.declared.rule.Rule.TheVariants.{J1, J2, J3, J4, J5, J6, J7, J8, J9}
use Rattle.bc_cert_defs.specs.declared.costs.Costs.{Costs}
use Rattle.bc_rules_defs.specs.declared.takes.Takes.{Takes}
use Rattle.bc_rules_defs.specs.Takes.{aim_at}
use Rattle.bc_cert_read.specs.declared.recipe.Recipe.{Recipe}
use Rattle.bc_cert_read.specs.Costs.{are_costs}
use Rattle.bc_cert_read.specs.Form.{is_plain}
use Rattle.bc_cert_read.specs.Node.{Node, recipe_by, words_of, least_words_of}
use Rattle.bc_cert_read.specs.declared.chain.Chain.{Chain}
use Rattle.bc_cert_read.specs.declared.chain.Rules.{Rules}
use Rattle.bc_cert_read.specs.declared.chain.Rules.TheVariants.{Taken, Named, Wrong}
use Rattle.bc_cert_read.specs.declared.lines.NodeLine.{NodeLine}
use Rattle.bc_cert_read.specs.declared.mark.TreeFacts.{TreeFacts}
use Rattle.bc_cert_read.specs.declared.mark.Shown.{Shown}
use Rattle.bc_cert_read.specs.declared.position.Position.{Position}
use Rattle.bc_cert_read.specs.Marks.{has_aim, is_some}

abbrev pub has_words : Option ℕ → Option ℕ → Bool
has_words (Some m) (Some n) = m == n
has_words (Some m) None = false
has_words None n = false

-- a part shows rules for the aim that is required of it, or none if the rule doesn't derive it
abbrev pub fits : Option Aim → TreeFacts → Bool
fits None m = m.is_bare
fits (Some aim) m = has_aim m.shown aim

abbrev pub agree : Takes → ℕ → List TreeFacts → Bool
agree t at [] = true
agree t at (m ∷ ms) = cond (fits (aim_at t at) m) (agree t (at + 1) ms) false

abbrev pub makes_by : Node → List TreeFacts → Option ℕ → Option Recipe → Bool
makes_by n ms words None = false
makes_by n ms words (Some r) = has_words (words_of n.level n.parts r) words && agree r.takes 0 ms

-- the rule applies for this aim, the parts show what it needs, and it has these words
abbrev pub makes : Node → List TreeFacts → Rule → Aim → Option ℕ → Bool
makes n ms r aim words = makes_by n ms words (recipe_by n r aim)

abbrev pub is_test : Rule → Bool
is_test J1 = true
is_test J2 = true
is_test J3 = true
is_test J4 = true
is_test J5 = true
is_test J6 = true
is_test J7 = true
is_test J8 = true
is_test J9 = true
is_test _ = false

abbrev pub tested : ℕ → ℕ → Bool
tested any stated = any + 2 == stated

abbrev pub tests : Node → List TreeFacts → Costs → Rule → Shown
tests n ms c r = record {
  any = false;
  push = false;
  on_false = makes n ms r (Jumps false) (Some c.on_false);
  on_true = makes n ms r (Jumps true) (Some c.on_true);
}

abbrev pub same_value : Option ℕ → ℕ → Bool
same_value None n = false
same_value (Some m) n = m == n

abbrev pub is_value : Costs → Bool
is_value c = same_value c.push c.any

-- a value by a rule of values, with V0 before it or not
abbrev pub any_by : Node → List TreeFacts → Costs → Rule → (freed : Bool) → Bool
any_by n ms c r freed = cond freed (makes n ms r (Gets Push) c.push && is_value c) (makes n ms r (Gets Any) (Some c.any))

abbrev pub after_value : Node → Costs → (any push : Bool) → (tested freed : Bool) → Shown
after_value n c any push true freed = record {
  any = false;
  push = false;
  on_false = any && is_plain n.form && tested c.any c.on_false;
  on_true = any
      && is_plain n.form && tested c.any c.on_true;
}
after_value n c any push false freed = record { any = any; push = push && not freed; on_false = false; on_true = false }

abbrev pub shown_by : Node → List TreeFacts → Costs → Chain → Shown
shown_by n ms c ch =
    cond (is_test ch.rule) (tests n ms c ch.rule)
    (after_value n c (any_by n ms c ch.rule ch.is_freed) (makes n ms ch.rule (Gets Push) c.push) ch.is_tested ch.is_freed)

abbrev pub nothing_shown : Shown
nothing_shown = record { any = false; push = false; on_false = false; on_true = false }

abbrev pub where_some : Shown → Position → Result Shown CheckFault
where_some s p = cond (is_some s) (Ok s) (Err (WrongRule p.entry p.node))

abbrev pub shown_with : Node → List TreeFacts → Costs → Rules → Position → Result Shown CheckFault
shown_with n ms c Taken p = Ok nothing_shown
shown_with n ms c (Named ch) p = where_some (shown_by n ms c ch) p
shown_with n ms c Wrong p = Err (WrongRule p.entry p.node)

abbrev pub shown_for : Node → List TreeFacts → NodeLine → Position → Result Shown CheckFault
shown_for n ms line p = shown_with n ms line.costs line.rules p

abbrev pub judged : Node → List TreeFacts → NodeLine → Position → Result Shown CheckFault
judged n ms line p = cond (are_costs (least_words_of n) line.costs) (shown_for n ms line p) (Err (WrongCost p.entry p.node))
