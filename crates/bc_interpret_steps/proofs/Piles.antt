-- The continuations as the interpreter keeps them, with the arguments among them.
use Rattle.std.proofs.Common.{◌≡◌, ℕ, Bool, List, [], ◌∷◌, ◌++◌, Some, refl, sym, ap, ◌∙◌}
use Rattle.bc_interpret_defs.specs.Machine as machine
use Rattle.bc_interpret_steps.specs.declared.continuations.Rest.{Rest}
use Rattle.bc_interpret_steps.specs.declared.continuations.Rest.TheVariants as rests
use Rattle.bc_interpret_steps.specs.Code.{stacked, then_given, stack_on, given_on, stack, given, Taken}

stack_on_more : (rs : List machine.Rest) (vs : List ℕ) (xs : List Rest) (x : Rest) → stack_on rs vs (xs ++ x ∷ []) ≡ stacked (stack_on rs vs xs) (given_on vs xs) x
stack_on_more rs vs [] x = refl
stack_on_more rs vs (y ∷ xs) x = stack_on_more (stacked rs vs y) (then_given vs y) xs x

given_on_more : (vs : List ℕ) (xs : List Rest) (x : Rest) → given_on vs (xs ++ x ∷ []) ≡ then_given (given_on vs xs) x
given_on_more vs [] x = refl
given_on_more vs (y ∷ xs) x = given_on_more (then_given vs y) xs x

pub stack_more : (xs : List Rest) (x : Rest) → stack (xs ++ x ∷ []) ≡ stacked (stack xs) (given xs) x
stack_more xs x = stack_on_more [] [] xs x

pub given_more : (xs : List Rest) (x : Rest) → given (xs ++ x ∷ []) ≡ then_given (given xs) x
given_more xs x = given_on_more [] xs x

-- the popped continuation is no argument, and the remaining continuations are below it
pub taken : (before old new : List Rest) (r : Rest) → stack old ≡ stack before → old ≡ new ++ r ∷ [] → ((v : ℕ) (first : Bool) → r ≡ rests.Given v first → ⊥) → Taken (Some r) before new
taken before old new (rests.Number r) h e n = sym h ∙ (ap stack e ∙ stack_more new (rests.Number r))
taken before old new (rests.Value r) h e n = sym h ∙ (ap stack e ∙ stack_more new (rests.Value r))
taken before old new (rests.Calls fresh f) h e n = sym h ∙ (ap stack e ∙ stack_more new (rests.Calls fresh f))
taken before old new (rests.Truth r) h e n = sym h ∙ (ap stack e ∙ stack_more new (rests.Truth r))
taken before old new (rests.Nothing r) h e n = sym h ∙ (ap stack e ∙ stack_more new (rests.Nothing r))
taken before old new (rests.Exit r) h e n = sym h ∙ (ap stack e ∙ stack_more new (rests.Exit r))
taken before old new (rests.Closes call k a) h e n = sym h ∙ (ap stack e ∙ stack_more new (rests.Closes call k a))
taken before old new (rests.Given v first) h e n = absurd (n v first refl)

-- an argument is dropped
pub dropped : (before old new : List Rest) (v : ℕ) (first : Bool) → stack old ≡ stack before → old ≡ new ++ rests.Given v first ∷ [] → stack new ≡ stack before
dropped before old new v first h e = sym (sym h ∙ (ap stack e ∙ stack_more new (rests.Given v first)))
