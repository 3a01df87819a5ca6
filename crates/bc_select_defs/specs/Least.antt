-- Derivations with the fewest words, defined only by the relation of the rule table and its costs.
use Rattle.std.specs.Prelude.{◌≡◌, ℕ, ◌≤◌, Option, Some, None, List, [], ◌∷◌}
use Rattle.bc_core.specs.Tree.{Exp, Root}
use Rattle.bc_rules_defs.specs.declared.rule.Table.{Table}
use Rattle.bc_rules_defs.specs.declared.rule.Aim.{Aim}
use Rattle.bc_rules_defs.specs.declared.rule.Rule.{Rule}
use Rattle.bc_rules_defs.specs.Names.{rule_number}
use Rattle.bc_rules_defs.specs.declared.piece.Piece.{Piece}
use Rattle.bc_rules_defs.specs.Rules.{Derives, RootDerives, Tree, by, shape, root_shape}
use Rattle.bc_rules_defs.specs.Code.{cost, root_cost}
use Rattle.bc_rules_defs.specs.Layers.{Layer, layers, root_layers}
use Rattle.bc_rules_defs.specs.Layers as layer

-- the rule that a derivation begins with
abbrev pub top : Tree → Rule
top (by rule parts) = rule

abbrev pub first_rule : {T : Table} {e : Exp} {aim : Aim} → Derives T e aim → Rule
first_rule d = top (shape d)

-- No derivation for the aim has fewer words, and none with as few begins with a rule of a lower number.
pub record IsLeast {T : Table} {e : Exp} {aim : Aim} (d : Derives T e aim) (s : ℕ) : Type 0 where
  pub fewest : (other : Derives T e aim) → cost d s ≤ cost other s
  pub first : (other : Derives T e aim) → cost other s ≤ cost d s → rule_number (first_rule d) ≤ rule_number (first_rule other)

-- Each part among these layers is least at its level, and so are the parts of the parts.
pub data AreLeastParts {T : Table} : List (Layer T) → Type 0 where
  none : AreLeastParts []
  own : {p : Piece} {ls : List (Layer T)} → AreLeastParts ls → AreLeastParts (layer.own p ∷ ls)
  body : {n f : ℕ} {ls : List (Layer T)} → AreLeastParts ls → AreLeastParts (layer.body n f ∷ ls)
  part : {e : Exp} {aim : Aim} {d : Derives T e aim} {s t f : ℕ} {ls : List (Layer T)} → IsLeast d s → AreLeastParts (layers d s 0 0) → AreLeastParts ls
      → AreLeastParts (layer.part d s t f ∷ ls)

-- Each part of a derivation at a level is least, and so are the parts of the parts.
abbrev pub HasLeastParts : {T : Table} {e : Exp} {aim : Aim} → Derives T e aim → ℕ → Type 0
HasLeastParts d s = AreLeastParts (layers d s 0 0)

-- No derivation of the root has fewer words, and none with as few begins with a rule of a lower number.
pub record RootIsLeast {T : Table} {r : Root} (d : RootDerives T r) : Type 0 where
  pub fewest : (other : RootDerives T r) → root_cost d ≤ root_cost other
  pub first : (other : RootDerives T r) → root_cost other ≤ root_cost d → rule_number (top (root_shape d)) ≤ rule_number (top (root_shape other))

-- Each part of a root's derivation is least, and so are the parts of the parts.
abbrev pub RootHasLeastParts : {T : Table} {r : Root} → RootDerives T r → Type 0
RootHasLeastParts d = AreLeastParts (root_layers d 0 0)

-- The least words of the derivations for an aim. None means that there is no derivation.
abbrev pub AreLeastWords : Table → Exp → Aim → ℕ → Option ℕ → Type 0
AreLeastWords T e aim s None = Derives T e aim → ⊥
AreLeastWords T e aim s (Some n) = ((d : Derives T e aim) × (cost d s ≡ n)) × ((d : Derives T e aim) → n ≤ cost d s)

-- The rule of the lowest number with which a derivation of the least words begins. None means that there is no derivation.
abbrev pub IsLeastRule : Table → Exp → Aim → ℕ → Option Rule → Type 0
IsLeastRule T e aim s None = Derives T e aim → ⊥
IsLeastRule T e aim s (Some r) = (d : Derives T e aim) × (IsLeast d s × (first_rule d ≡ r))
