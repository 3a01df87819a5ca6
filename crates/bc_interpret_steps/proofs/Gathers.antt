-- Gathering the arguments of a call from the continuations.
use Rattle.std.proofs.Common.{◌≡◌, ℕ, Bool, true, false, not, List, [], ◌∷◌, ◌++◌, reverse, refl, sym, ap, subst, ◌∙◌, append_assoc}
use Rattle.std.proofs.lemmas.List.{append-nil, reverse-append}
use Rattle.bc_interpret_steps.specs.declared.continuations.Rest.{Rest}
use Rattle.bc_interpret_steps.specs.declared.continuations.Rest.TheVariants as rests
use Rattle.bc_interpret_steps.specs.Code.{given_for, stack, given, then_given, Gathering, TakesGiven}
use Rattle.bc_interpret_steps.proofs.Piles.{given_more, dropped}

reversed_last : (vs : List ℕ) (v : ℕ) → reverse (vs ++ v ∷ []) ≡ v ∷ reverse vs
reversed_last vs v = reverse-append vs (v ∷ [])

-- none has been gathered yet
pub begins : (fresh : Bool) (old : List Rest) → Gathering (not fresh) (given_for fresh (given old)) old []
begins true old = refl
begins false old = sym (append-nil (given old))

-- one more has been gathered
pub gathered : (wanted : List ℕ) (old new : List Rest) (v : ℕ) (first : Bool) (vs : List ℕ) → old ≡ new ++ rests.Given v first ∷ [] → wanted ≡ given old ++ reverse vs → Gathering (not first) wanted new (vs ++ v ∷ [])
gathered wanted old new v true vs e h =
    h ∙ (ap (λ xs. given xs ++ reverse vs) e ∙ (ap (λ ws. ws ++ reverse vs) (given_more new (rests.Given v true)) ∙ sym (reversed_last vs v)))
gathered wanted old new v false vs e h =
    h ∙ (ap (λ xs. given xs ++ reverse vs) e ∙ (ap (λ ws. ws ++ reverse vs) (given_more new (rests.Given v false))
    ∙ (append_assoc (given new) (v ∷ []) (reverse vs) ∙ ap (λ ws. given new ++ ws) (sym (reversed_last vs v)))))

-- the entry is no argument, and is pushed back
pub none_more : (wanted : List ℕ) (old new : List Rest) (r : Rest) (vs : List ℕ) → old ≡ new ++ r ∷ [] → ((ws : List ℕ) → then_given ws r ≡ []) → wanted ≡ given old ++ reverse vs → wanted ≡ reverse vs
none_more wanted old new r vs e n h =
    h ∙ (ap (λ xs. given xs ++ reverse vs) e ∙ ap (λ ws. ws ++ reverse vs) (given_more new r ∙ n (given new)))

pub put_back : (before old new after : List Rest) (r : Rest) → stack old ≡ stack before → old ≡ new ++ r ∷ [] → after ≡ new ++ r ∷ [] → stack after ≡ stack before
put_back before old new after r h e f = ap stack (f ∙ sym e) ∙ h

-- the test is the loop's
pub still : (more : Bool) (wanted : List ℕ) (left : List Rest) (vs : List ℕ) → more ≡ true → Gathering more wanted left vs → wanted ≡ given left ++ reverse vs
still more wanted left vs e h = let P : Bool → Type 0 = λ m. Gathering m wanted left vs in subst P e h

-- one is popped
pub takes_one : (old new : List Rest) (r : Rest) (v : ℕ) (first : Bool) (vs ws : List ℕ) → old ≡ new ++ r ∷ [] → r ≡ rests.Given v first → ws ≡ vs ++ v ∷ [] → TakesGiven (not first) old new vs ws
takes_one old new r v first vs ws e is w =
    let split : old ≡ new ++ rests.Given v first ∷ [] = e ∙ ap (λ q. new ++ q ∷ []) is in (
      dropped old old new v first refl split,
      λ wanted h.
          let P : List ℕ → Type 0 = λ us. Gathering (not first) wanted new us in
          subst P (sym w) (gathered wanted old new v first vs split h),
    )

-- the entry is pushed back
pub takes_none : (old new after : List Rest) (r : Rest) (vs : List ℕ) → old ≡ new ++ r ∷ [] → ((ws : List ℕ) → then_given ws r ≡ []) → after ≡ new ++ r ∷ [] → TakesGiven false old after vs vs
takes_none old new after r vs e n f = (put_back old old new after r refl e f, λ wanted h. none_more wanted old new r vs e n h)

-- nothing is left
pub none_left : (wanted : List ℕ) (old : List Rest) (vs : List ℕ) → old ≡ [] → wanted ≡ given old ++ reverse vs → wanted ≡ reverse vs
none_left wanted old vs e h = h ∙ ap (λ xs. given xs ++ reverse vs) e

pub none_there : (old new : List Rest) (vs : List ℕ) → old ≡ [] → new ≡ old → TakesGiven false old new vs vs
none_there old new vs e f = (ap stack f, λ wanted h. none_left wanted old vs e h)

-- all have been gathered
pub ended : (more : Bool) (wanted : List ℕ) (left : List Rest) (vs : List ℕ) → more ≡ false → Gathering more wanted left vs → reverse vs ≡ wanted
ended more wanted left vs e h = let P : Bool → Type 0 = λ m. Gathering m wanted left vs in sym (subst P e h)
