-- Laws about derivations with the fewest words.
use Rattle.std.specs.Prelude.{◌≡◌, ℕ}
use Rattle.bc_core.specs.Tree.{Exp, Root}
use Rattle.bc_rules_defs.specs.declared.rule.Table.{Table}
use Rattle.bc_rules_defs.specs.declared.rule.Aim.{Aim}
use Rattle.bc_rules_defs.specs.Rules.{root_shape}
use Rattle.bc_rules_defs.specs.Laws.{IsLike}
use Rattle.bc_select_defs.specs.Least.{RootIsLeast, RootHasLeastParts, AreLeastWords, IsLeastRule}
use Rattle.bc_select_defs.specs.Options.{rule_of}
use Rattle.bc_select_defs.specs.Choices.{choice_for, words_for, choices}
use Rattle.bc_select_defs.specs.Chosen.{chosen}
use Rattle.bc_select_defs.specs.LeastDerivation.{LeastDerivation, LeastWords}

-- No derivation of a root has fewer words than the chosen one, and none with as few begins with a rule of a lower number.
abbrev pub NothingBeatsTheChosen : Type 0
NothingBeatsTheChosen = (T : Table) (r : Root) → RootIsLeast (chosen T r)

-- The same holds of each part of the chosen derivation, and of the parts of its parts.
abbrev pub ChosenAtEachStep : Type 0
ChosenAtEachStep = (T : Table) (r : Root) → RootHasLeastParts (chosen T r)

-- The choices of an expression are the least words for each aim, with the rule of the lowest number that attains them.
abbrev pub ChoicesAreLeast : Type 0
ChoicesAreLeast =
    (T : Table) (e : Exp) (aim : Aim) (s : ℕ)
    → AreLeastWords T e aim s (words_for aim (choices T e s)) × IsLeastRule T e aim s (rule_of (choice_for aim (choices T e s)))

-- A root has only one least derivation: any two have the same rules, and so the same labels, words and code.
abbrev pub OneLeastDerivation : Type 0
OneLeastDerivation =
    (T : Table) (r : Root) (d e : LeastDerivation T r)
    → (root_shape d.derivation ≡ root_shape e.derivation) × IsLike d.derivation e.derivation

-- An expression has only one least number of words for an aim and a level.
abbrev pub OneLeastWords : Type 0
OneLeastWords = (T : Table) (e : Exp) (aim : Aim) (s : ℕ) (a b : LeastWords T e aim s) → a.words ≡ b.words
