-- The continuations as the code keeps them: the innermost last.
use Rattle.std.proofs.Common.{◌≡◌, List, [], ◌∷◌, ◌++◌, refl}
use Rattle.bc_interpret_defs.specs.Quiet.{QuietRest}
use Rattle.bc_interpret_pure.specs.declared.forms.Rest.{Rest}
use Rattle.bc_interpret_pure.specs.Views.{rest_of, stack_on, stack}

stacked_on : (rs : List QuietRest) (xs : List Rest) (x : Rest) → stack_on rs (xs ++ x ∷ []) ≡ rest_of x ∷ stack_on rs xs
stacked_on rs [] x = refl
stacked_on rs (y ∷ xs) x = stacked_on (rest_of y ∷ rs) xs x

pub stacked : (xs : List Rest) (x : Rest) → stack (xs ++ x ∷ []) ≡ rest_of x ∷ stack xs
stacked xs x = stacked_on [] xs x
