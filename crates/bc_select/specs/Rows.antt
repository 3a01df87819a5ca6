-- What the row of a node says about its expression.
use Rattle.std.specs.Prelude.{ℕ, List, [], ◌∷◌, true, false, Option}
use Rattle.bc_core.specs.Tree.{Exp}
use Rattle.bc_rules_defs.specs.declared.rule.Table.TheVariants.{Two}
use Rattle.bc_rules_defs.specs.declared.rule.Mode.TheVariants.{Any, Push}
use Rattle.bc_rules_defs.specs.declared.rule.Aim.TheVariants.{Gets, Jumps}
use Rattle.bc_rules_defs.specs.declared.rule.Rule.{Rule}
use Rattle.bc_select_defs.specs.Least.{AreLeastWords, IsLeastRule}
use Rattle.bc_select.specs.declared.row.Row.{Row}

-- The least words of an expression at a level: as a value in mode Any, in mode Push, as a jump on false, as a jump on true.
abbrev pub AreCosts : Exp → ℕ → List (Option ℕ) → Type 0
AreCosts e s (any ∷ push ∷ on_false ∷ on_true ∷ []) =
    AreLeastWords Two e (Gets Any) s any × AreLeastWords Two e (Gets Push) s push × AreLeastWords Two e (Jumps false) s on_false × AreLeastWords Two e (Jumps true) s on_true
AreCosts e s _ = ⊥

-- The rules of the lowest numbers that attain them.
abbrev pub AreRules : Exp → ℕ → List (Option Rule) → Type 0
AreRules e s (any ∷ push ∷ on_false ∷ on_true ∷ []) =
    IsLeastRule Two e (Gets Any) s any × IsLeastRule Two e (Gets Push) s push × IsLeastRule Two e (Jumps false) s on_false × IsLeastRule Two e (Jumps true) s on_true
AreRules e s _ = ⊥

-- The row has the least words and the rules of the node, an expression at a level.
pub record IsRowOf (node : Exp × ℕ) (row : Row) : Type 0 where
  pub costs : AreCosts node.0 node.1 row.costs
  pub rules : AreRules node.0 node.1 row.rules
