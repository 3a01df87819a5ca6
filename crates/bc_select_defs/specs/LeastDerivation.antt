-- The least derivation of a root, and the least words of an expression. The types say what they are, by the relation of the rule
-- table; the bodies, which say how they are found, matter only for proofs.
use Rattle.std.specs.Prelude.{ℕ, Option}
use Rattle.bc_core.specs.Tree.{Exp, Root}
use Rattle.bc_rules_defs.specs.declared.rule.Table.{Table}
use Rattle.bc_rules_defs.specs.declared.rule.Aim.{Aim}
use Rattle.bc_rules_defs.specs.Rules.{RootDerives}
use Rattle.bc_select_defs.specs.Least.{RootIsLeast, RootHasLeastParts, AreLeastWords}
use Rattle.bc_select_defs.specs.Choices.{choices, words_for}
use Rattle.bc_select_defs.specs.Chosen.{chosen, chosen_is_least, chosen_has_least_parts, words_are_least}

-- A derivation of a root that no other beats, and whose parts, and the parts of these, are beaten by none either.
pub record LeastDerivation (T : Table) (r : Root) : Type 0 where
  pub derivation : RootDerives T r
  pub least : RootIsLeast derivation
  pub parts : RootHasLeastParts derivation

-- Every root has one.
-- Its type determines it: law `one_least_derivation`.
abbrev pub least_of_root : (T : Table) (r : Root) → LeastDerivation T r
least_of_root T r = record { derivation = chosen T r; least = chosen_is_least T r; parts = chosen_has_least_parts T r }

abbrev pub least_derivation : (T : Table) (r : Root) → RootDerives T r
least_derivation T r = (least_of_root T r).derivation

-- The least words of the derivations for an aim, if there is a derivation.
pub record LeastWords (T : Table) (e : Exp) (aim : Aim) (s : ℕ) : Type 0 where
  pub words : Option ℕ
  pub are_least : AreLeastWords T e aim s words

-- Every expression has them at every level.
-- Its type determines it: law `one_least_words`.
abbrev pub least_of_expression : (T : Table) (e : Exp) (aim : Aim) (s : ℕ) → LeastWords T e aim s
least_of_expression T e aim s = record { words = words_for aim (choices T e s); are_least = words_are_least T e aim s }

abbrev pub least_words_of : (T : Table) (e : Exp) (aim : Aim) (s : ℕ) → Option ℕ
least_words_of T e aim s = (least_of_expression T e aim s).words
