-- The test whether a tree of rules is a derivation of a root.
use Rattle.std.proofs.Common.{◌≡◌, Bool, true, false, IsTrue, ap, sym, ◌∙◌, refl}
use Rattle.std.specs.Prelude.{◌↔◌}
use Rattle.bc_core.specs.Tree.{Root}
use Rattle.bc_rules_defs.specs.declared.rule.Table.{Table}
use Rattle.bc_rules_defs.specs.Rules.{Tree}
use Rattle.bc_rules.specs.Derivation.{IsDerivation}
use Rattle.bc_rules.specs.Fits.{root_fits}
use Rattle.bc_rules.proofs.Bridge.{root_found, root_shape_fits}

pub fits_is : (T : Table) (r : Root) (x : Tree) (b : Bool) → IsTrue b ↔ IsDerivation T r x → b ≡ root_fits T r x
fits_is T r x true h = let d = h.0 refl in sym (ap (λ y. root_fits T r y) (sym d.1) ∙ root_shape_fits d.0)
fits_is T r x false h = not_found (root_fits T r x) refl where
  not_found : (c : Bool) → root_fits T r x ≡ c → false ≡ c
  not_found false e = refl
  not_found true e = h.1 (root_found T r x e)
