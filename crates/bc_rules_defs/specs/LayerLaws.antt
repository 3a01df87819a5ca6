-- The law of layers, which connects the definitions of `Code` and `Layers`.
use Rattle.std.specs.Prelude.{ℕ, ◌≡◌}
use Rattle.bc_core.specs.Tree.{Exp, Root}
use Rattle.bc_rules_defs.specs.declared.rule.Table.{Table}
use Rattle.bc_rules_defs.specs.declared.rule.Aim.{Aim}
use Rattle.bc_rules_defs.specs.Rules.{Derives, RootDerives}
use Rattle.bc_rules_defs.specs.Code.{code, root_code}
use Rattle.bc_rules_defs.specs.Layers.{layers, root_layers, code_of}

-- The code of each derivation, and of each root's derivation, is that of its layers.
abbrev pub CodeIsThatOfLayers : Type 0
CodeIsThatOfLayers =
    ((T : Table) (e : Exp) (aim : Aim) (d : Derives T e aim) (s t f : ℕ) → code d s t f ≡ code_of (layers d s t f))
    × ((T : Table) (r : Root) (d : RootDerives T r) (t f : ℕ) → root_code d t f ≡ code_of (root_layers d t f))
