-- How the clauses `kept` of parts combine.
use Rattle.std.proofs.Common.{◌≡◌, List, sym, subst}
use Rattle.bc_scope_names.specs.declared.scope.Entry.{Entry}
use Rattle.bc_scope_names.specs.View.{Extends}
use Rattle.bc_scope_names.proofs.Extends.{extends_self, extends_on}

pub extends_same : (a b : List Entry) → b ≡ a → Extends a b
extends_same a b e = subst (λ x. Extends a x) (sym e) (extends_self a)

pub ruleset keeping = (extends_same, extends_on)
