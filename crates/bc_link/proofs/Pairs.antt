-- The address of a label in a list of pairs with one more pair.
use Rattle.std.proofs.Common.{◌≡◌, ℕ, ◌∙◌, List, [], ◌∷◌, ◌++◌, Bool, true, false, cond, eqb, Option, Some, None, is_some, refl, sym, ap, true≢false, eqb-true, eq-eqb}
use Rattle.bc_machine_defs.specs.Places.{address_in}
use Rattle.bc_link.specs.Refusals.{first_of}

abbrev one : ℕ → ℕ → ℕ → Option ℕ
one q k v = cond (eqb q k) (Some v) None

pub address_in-push : (q : ℕ) (xs : List (ℕ × ℕ)) (k v : ℕ) → address_in q (xs ++ (k, v) ∷ []) ≡ first_of (address_in q xs) (one q k v)
address_in-push q [] k v = refl
address_in-push q (x ∷ xs) k v = by (eqb q x.0) (address_in-push q xs k v)
  where
    by : (b : Bool) → address_in q (xs ++ (k, v) ∷ []) ≡ first_of (address_in q xs) (one q k v) → cond b (Some x.1) (address_in q (xs ++ (k, v) ∷ [])) ≡ first_of (cond b (Some x.1) (address_in q xs)) (one q k v)
    by true rest = refl
    by false rest = rest

first_of-none : (r : Option ℕ) → first_of r None ≡ r
first_of-none None = refl
first_of-none (Some a) = refl

-- a label that is there keeps its address
pub kept : (q : ℕ) (xs : List (ℕ × ℕ)) (k v : ℕ) → is_some (address_in k xs) ≡ true → address_in q (xs ++ (k, v) ∷ []) ≡ address_in q xs
kept q xs k v there = address_in-push q xs k v ∙ by (address_in q xs) refl (eqb q k) refl
  where
    by : (r : Option ℕ) → address_in q xs ≡ r → (b : Bool) → eqb q k ≡ b → first_of r (cond b (Some v) None) ≡ r
    by (Some a) e b f = refl
    by None e false f = refl
    by None e true f = absurd (true≢false (sym there ∙ ap (λ x. is_some (address_in x xs)) (sym (eqb-true q k f)) ∙ ap is_some e))

none_of : (r : Option ℕ) → is_some r ≡ false → r ≡ None
none_of None h = refl
none_of (Some a) h = absurd (true≢false h)

-- a label that is not there gets the address
pub gained : (q : ℕ) (xs : List (ℕ × ℕ)) (k v : ℕ) → is_some (address_in k xs) ≡ false → address_in q (xs ++ (k, v) ∷ []) ≡ cond (eqb k q) (Some v) (address_in q xs)
gained q xs k v absent = address_in-push q xs k v ∙ by (eqb q k) refl (eqb k q) refl
  where
    by : (b : Bool) → eqb q k ≡ b → (d : Bool) → eqb k q ≡ d → first_of (address_in q xs) (cond b (Some v) None) ≡ cond d (Some v) (address_in q xs)
    by true f true g = ap (λ r. first_of r (Some v)) (ap (λ x. address_in x xs) (eqb-true q k f) ∙ none_of (address_in k xs) absent)
    by true f false g = absurd (true≢false (sym (eq-eqb k q (sym (eqb-true q k f))) ∙ g))
    by false f true g = absurd (true≢false (sym (eq-eqb q k (sym (eqb-true k q g))) ∙ f))
    by false f false g = first_of-none (address_in q xs)
