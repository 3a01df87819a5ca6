-- The expressions that are still to be visited: the last one is popped, and its parts are pushed.
use Rattle.std.proofs.Common.{◌≡◌, ◌+◌, ◌||◌, Bool, true, false, List, [], ◌∷◌, ◌++◌, Bor, refl, ap, ◌∙◌, arith}
use Rattle.bc_core.specs.declared.expression.CoreExp.{CoreExp}
use Rattle.bc_core.specs.Value.{has_call}
use Rattle.bc_core.specs.View.{exp}
use Rattle.bc_interpret_defs.specs.Weight.{weight_of}
use Rattle.bc_interpret_pure.specs.Waits.{any_call, weight_of_all}

or_false : (a : Bool) → (a || false) ≡ a
or_false true = refl
or_false false = refl

or_moved : (a b c : Bool) → (a || (b || c)) ≡ ((a || b) || c)
or_moved true b c = refl
or_moved false b c = refl

pub any_more : (es : List (Bor CoreExp)) (e : Bor CoreExp) → any_call (es ++ e ∷ []) ≡ (any_call es || has_call (exp e.now))
any_more [] e = or_false (has_call (exp e.now))
any_more (d ∷ es) e = ap (λ t. has_call (exp d.now) || t) (any_more es e) ∙ or_moved (has_call (exp d.now)) (any_call es) (has_call (exp e.now))

pub weight_more : (es : List (Bor CoreExp)) (e : Bor CoreExp) → weight_of_all (es ++ e ∷ []) ≡ weight_of_all es + weight_of (λ n. 1) (exp e.now)
weight_more [] e = omega arith
weight_more (d ∷ es) e = let h = weight_more es e in omega arith
