-- What the linker refuses, and what holds if it refuses nothing: labels and globals are distinct.
use Rattle.std.proofs.Common.{◌≡◌, ◌⊎◌, inl, inr, ℕ, ◌+◌, ◌==◌, Bool, true, false, Option, Some, None, List, [], ◌∷◌, ◌++◌, refl, sym, ap, ◌∙◌, subst, arith}
use Rattle.std.specs.Prelude.{map, cond, ◌||◌, unwrap_or}
use Rattle.std.specs.List.{list_any}
use Rattle.std.specs.Option.{option_map}
use Rattle.std.proofs.lemmas.Bool.{eqb-true}
use Rattle.std.proofs.lemmas.Bool.Decides.{nat_tests}
use Rattle.bc_text_items.specs.declared.item.Item.{Item}
use Rattle.bc_text_items.specs.declared.item.Item.TheVariants.{Label, Data, DataLabel, Byte, Operation, Global}
use Rattle.bc_text_items.specs.Sizes.{size}
use Rattle.bc_text_items.specs.Assembled.{label_places}
use Rattle.bc_machine_defs.specs.Places.{address_in}
use Rattle.bc_link.specs.Labels.{label_address, labels_of}
use Rattle.bc_link.specs.Refusals.{first_of, repeated_after, first_repeated}
use Rattle.bc_right.proofs.program_lemmas.Standing.{LabelsAt}

abbrev pub Absent : ℕ → List ℕ → Type 0
Absent x [] = Unit {0}
Absent x (y ∷ ys) = (x ≡ y → ⊥) × Absent x ys

abbrev pub Distinct : List ℕ → Type 0
Distinct [] = Unit {0}
Distinct (x ∷ xs) = Absent x xs × Distinct xs

abbrev In : ℕ → List ℕ → Type 0
In z [] = ⊥
In z (y ∷ ys) = (z ≡ y) ⊎ In z ys

eqb_same : (x y : ℕ) → x ≡ y → (x == y) ≡ true
eqb_same x y e = grind (arith, nat_tests)

or_right : (a : Bool) → (a || true) ≡ true
or_right true = refl
or_right false = refl

in_any : (z : ℕ) (ys : List ℕ) → In z ys → list_any (λ y. z == y) ys ≡ true
in_any z [] h = absurd h
in_any z (y ∷ ys) (inl e) = ap (λ b. b || list_any (λ y. z == y) ys) (eqb_same z y e)
in_any z (y ∷ ys) (inr h) = ap (λ b. (z == y) || b) (in_any z ys h) ∙ or_right (z == y)

in_front : (z : ℕ) (ys zs : List ℕ) → In z ys → In z (ys ++ zs)
in_front z [] zs h = absurd h
in_front z (y ∷ ys) zs (inl e) = inl e
in_front z (y ∷ ys) zs (inr h) = inr (in_front z ys zs h)

in_last : (x : ℕ) (ys : List ℕ) → In x (ys ++ x ∷ [])
in_last x [] = inl refl
in_last x (y ∷ ys) = inr (in_last x ys)

never : {X : Type 0} (x : X) → Some x ≡ None → ⊥
never x e = cc

none_after : (x : ℕ) (before xs : List ℕ) (seen : Bool) → list_any (λ y. x == y) before ≡ seen → cond seen (Some x) (repeated_after (before ++ x ∷ []) xs) ≡ None → (list_any (λ y. x == y) before ≡ false) × (repeated_after (before ++ x ∷ []) xs ≡ None)
none_after x before xs true e h = absurd (never x h)
none_after x before xs false e h = (e, h)

absent_after : (before xs : List ℕ) (z : ℕ) → In z before → repeated_after before xs ≡ None → Absent z xs
absent_after before [] z h e = tt
absent_after before (x ∷ xs) z h e =
    let k = none_after x before xs (list_any (λ y. x == y) before) refl e in
    ((λ same. let seen : true ≡ false = sym (in_any x before (subst (λ w. In w before) same h)) ∙ k.0 in cc), absent_after (before ++ x ∷ []) xs z (in_front z before (x ∷ []) h) k.1)

distinct_after : (before xs : List ℕ) → repeated_after before xs ≡ None → Distinct xs
distinct_after before [] e = tt
distinct_after before (x ∷ xs) e =
    let k = none_after x before xs (list_any (λ y. x == y) before) refl e in
    (absent_after (before ++ x ∷ []) xs x (in_last x before) k.1, distinct_after (before ++ x ∷ []) xs k.1)

pub are_distinct : (xs : List ℕ) → first_repeated xs ≡ None → Distinct xs
are_distinct xs e = distinct_after [] xs e

pub neither : {X : Type 0} (a b : Option X) → first_of a b ≡ None → (a ≡ None) × (b ≡ None)
neither None b e = (refl, e)
neither (Some x) b e = absurd (never x e)

pub none_of : {X Y : Type 0} (f : X → Y) (o : Option X) → option_map f o ≡ None → o ≡ None
none_of f None e = refl
none_of f (Some x) e = absurd (never (f x) e)

-- the labels of a segment
firsts : (c : ℕ) (is : List Item) → map (λ (p : ℕ × ℕ). p.0) (label_places c is) ≡ labels_of is
firsts c [] = refl
firsts c (Label m ∷ is) = ap (λ z. m ∷ z) (firsts c is)
firsts c (Data n ∷ is) = firsts (c + 1) is
firsts c (DataLabel n ∷ is) = firsts (c + 1) is
firsts c (Operation f i b n ∷ is) = firsts (c + size (Operation f i b n)) is
firsts c (Global g n ∷ is) = firsts (c + 0) is
firsts c (Byte high ∷ []) = refl
firsts c (Byte high ∷ Byte low ∷ is) = firsts (c + 1) is
firsts c (Byte high ∷ Label n ∷ is) = firsts (c + 1) (Label n ∷ is)
firsts c (Byte high ∷ Data n ∷ is) = firsts (c + 1) (Data n ∷ is)
firsts c (Byte high ∷ DataLabel n ∷ is) = firsts (c + 1) (DataLabel n ∷ is)
firsts c (Byte high ∷ Operation f i b n ∷ is) = firsts (c + 1) (Operation f i b n ∷ is)
firsts c (Byte high ∷ Global g n ∷ is) = firsts (c + 1) (Global g n ∷ is)

differs : (x y : ℕ) → (y ≡ x → ⊥) → (t : Bool) → (x == y) ≡ t → t ≡ false
differs x y ne true e = absurd (ne (sym (eqb-true x y e)))
differs x y ne false e = refl

labels_further : (p : ℕ × ℕ) (ps qs : List (ℕ × ℕ)) → Absent p.0 (map (λ (q : ℕ × ℕ). q.0) qs) → LabelsAt (label_address ps) qs → LabelsAt (label_address (p ∷ ps)) qs
labels_further p ps [] h l = tt
labels_further p ps (q ∷ qs) h l =
    (ap (λ t. unwrap_or (cond t (Some p.1) (address_in q.0 ps)) 0) (differs q.0 p.0 h.0 (q.0 == p.0) refl) ∙ l.0, labels_further p ps qs h.1 l.1)

own_labels : (ps : List (ℕ × ℕ)) → Distinct (map (λ (p : ℕ × ℕ). p.0) ps) → LabelsAt (label_address ps) ps
own_labels [] h = tt
own_labels (p ∷ ps) h =
    (ap (λ t. unwrap_or (cond t (Some p.1) (address_in p.0 ps)) 0) (eqb_same p.0 p.0 refl), labels_further p ps ps h.0 (own_labels ps h.1))

-- if no label is set twice, the address of each is its place
pub labels_at : (c : ℕ) (is : List Item) → first_repeated (labels_of is) ≡ None → LabelsAt (label_address (label_places c is)) (label_places c is)
labels_at c is e = own_labels (label_places c is) (subst Distinct (sym (firsts c is)) (are_distinct (labels_of is) e))
