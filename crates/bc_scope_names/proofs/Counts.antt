-- A list of the code and its view have the same length.
use Rattle.std.proofs.Common.{◌≡◌, refl, List, [], ◌∷◌, length, arith}
use Rattle.bc_parse_tree.specs.declared.tree.Exp.{Exp}
use Rattle.bc_parse_tree.specs.View.{exps_view}
use Rattle.bc_scope_defs.specs.Scoping.{count}

pub count_seen : (es : List Exp) → count (exps_view es) ≡ length es
count_seen [] = refl
count_seen (e ∷ es) = let h = count_seen es in omega arith
