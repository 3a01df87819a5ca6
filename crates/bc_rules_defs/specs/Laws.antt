-- Laws of derivations: their cost is right, their rule names determine them, and table 2 has them all.
use Rattle.std.specs.Prelude.{ℕ, ◌≡◌}
use Rattle.bc_core.specs.Tree.{Exp, Root}
use Rattle.bc_rules_defs.specs.declared.rule.Table.{Table}
use Rattle.bc_rules_defs.specs.declared.rule.Table.TheVariants.{Two}
use Rattle.bc_rules_defs.specs.declared.rule.Aim.{Aim}
use Rattle.bc_rules_defs.specs.Piece.{words}
use Rattle.bc_rules_defs.specs.Rules.{Derives, RootDerives, root_shape}
use Rattle.bc_rules_defs.specs.Code.{code, cost, root_labels, root_code, root_cost}

-- The code of a root's derivation takes as many words as its cost says, for every target and first label.
abbrev pub WordsAreCost : Type 0
WordsAreCost = (T : Table) (r : Root) (d : RootDerives T r) (t f : ℕ) → words (root_code d t f) ≡ root_cost d

-- The code of an expression's or test's derivation takes as many words as its cost at that level says.
abbrev pub WordsOfCode : Type 0
WordsOfCode = (T : Table) (e : Exp) (aim : Aim) (d : Derives T e aim) (s t f : ℕ) → words (code d s t f) ≡ cost d s

-- Two derivations of a root, possibly by different tables, have the same labels, the same cost and the same code.
pub record IsLike {T U : Table} {r : Root} (d : RootDerives T r) (e : RootDerives U r) : Type 0 where
  pub labels : root_labels d ≡ root_labels e
  pub cost : root_cost d ≡ root_cost e
  pub code : (t f : ℕ) → root_code d t f ≡ root_code e t f

-- Derivations of a root with the same tree of rule names are alike.
abbrev pub ShapeTells : Type 0
ShapeTells = (T U : Table) (r : Root) (d : RootDerives T r) (e : RootDerives U r) → root_shape d ≡ root_shape e → IsLike d e

-- For each derivation there is one by table 2 with the same rules and the same code.
abbrev pub TwoHasAll : Type 0
TwoHasAll = (T : Table) (r : Root) (d : RootDerives T r) → (e : RootDerives Two r) × (root_shape e ≡ root_shape d) × IsLike e d
