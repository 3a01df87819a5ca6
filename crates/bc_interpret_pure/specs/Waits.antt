-- For proofs: the expressions that are still to be visited.
use Rattle.std.specs.Prelude.{ℕ, ◌+◌, ◌||◌, Bool, false, List, [], ◌∷◌}
use Rattle.std.specs.Borrow.{Bor}
use Rattle.bc_core.specs.declared.expression.CoreExp.{CoreExp}
use Rattle.bc_core.specs.Value.{has_call}
use Rattle.bc_core.specs.View.{exp}
use Rattle.bc_interpret_defs.specs.Weight.{weight_of}

abbrev pub any_call : List (Bor CoreExp) → Bool
any_call [] = false
any_call (e ∷ es) = has_call (exp e.now) || any_call es

abbrev pub weight_of_all : List (Bor CoreExp) → ℕ
weight_of_all [] = 0
weight_of_all (e ∷ es) = weight_of (λ n. 1) (exp e.now) + weight_of_all es
