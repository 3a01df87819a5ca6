-- With which rules a derivation can begin, and the least words of such derivations, defined only by the relation of the rule table.
use Rattle.std.specs.Prelude.{◌≡◌, ℕ, ◌+◌, ◌≤◌, ◌⊎◌, List, [], ◌∷◌, Bool, true, ◌&&◌, nat_le, Option, Some, None, IsTrue, min}
use Rattle.std.specs.List.{AllByRecursion}
use Rattle.bc_core.specs.Tree.{Exp}
use Rattle.bc_rules_defs.specs.declared.rule.Table.TheVariants.{Two}
use Rattle.bc_rules_defs.specs.declared.rule.Aim.{Aim}
use Rattle.bc_rules_defs.specs.declared.rule.Rule.{Rule}
use Rattle.bc_rules_defs.specs.Rules.{Derives}
use Rattle.bc_rules_defs.specs.Code.{cost}
use Rattle.bc_select_defs.specs.Least.{first_rule, AreLeastWords}
use Rattle.bc_rules_defs.specs.Names.{rule_number}
use Rattle.bc_candidates.specs.declared.candidate.Beginning.{Beginning}

-- Some derivation that begins with the rule r has n words, and none that begins with it has fewer.
abbrev pub AreLeastBy : Exp → Aim → ℕ → Rule → ℕ → Type 0
AreLeastBy e aim s r n = ((d : Derives Two e aim) × (first_rule d ≡ r) × (cost d s ≡ n)) × ((d : Derives Two e aim) → first_rule d ≡ r → n ≤ cost d s)

-- the rule is in the list
abbrev pub IsAmong : Rule → List Beginning → Type 0
IsAmong r [] = ⊥
IsAmong r (b ∷ bs) = (b.rule ≡ r) ⊎ IsAmong r bs

-- the numbers of the rules increase, and are at least m
abbrev pub rises_from : ℕ → List Beginning → Bool
rises_from m [] = true
rises_from m (b ∷ bs) = nat_le m (rule_number b.rule) && rises_from (rule_number b.rule + 1) bs

abbrev pub or_fewer : ℕ → Option ℕ → ℕ
or_fewer n None = n
or_fewer n (Some k) = min n k

-- the least words in the list
abbrev pub least_words : List Beginning → Option ℕ
least_words [] = None
least_words (b ∷ bs) = Some (or_fewer b.words (least_words bs))

-- The list has exactly the rules with which a derivation for the aim can begin, each once and in the order of their numbers, with the
-- least words of the derivations that begin with them. The least of these words are the least of all derivations.
pub record AreBeginnings (e : Exp) (aim : Aim) (s : ℕ) (bs : List Beginning) : Type 0 where
  pub each : AllByRecursion (λ b. AreLeastBy e aim s b.rule b.words) bs
  pub every : (d : Derives Two e aim) → IsAmong (first_rule d) bs
  pub rising : IsTrue (rises_from 0 bs)
  pub least : AreLeastWords Two e aim s (least_words bs)
