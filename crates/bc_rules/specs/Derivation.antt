-- When a tree of rule names is a derivation of a root.
use Rattle.std.specs.Prelude.{◌≡◌}
use Rattle.bc_core.specs.Tree.{Root}
use Rattle.bc_rules_defs.specs.declared.rule.Table.{Table}
use Rattle.bc_rules_defs.specs.Rules.{RootDerives, root_shape, Tree}

-- The table has a derivation of the root with these rule names.
abbrev pub IsDerivation : Table → Root → Tree → Type 0
IsDerivation T r x = (d : RootDerives T r) × (root_shape d ≡ x)
