-- The labels that a list takes for its own labels, CASEs and DEFAULTs are set in it, each once.
use Rattle.std.proofs.Common.{◌≡◌, ◌∙◌, refl, sym, ap, ℕ, ◌+◌, ◌≤◌, ◌<◌, ◌==◌, Bool, true, false, not, ◌&&◌, ◌||◌, List, ◌++◌, ◌⊎◌, inl, inr, arith}
use Rattle.std.specs.Prelude.{cond}
use Rattle.std.proofs.lemmas.Bool.Decides.{nat_tests}
use Rattle.bc_core.specs.Commands.{Items, no_item, command, case, default, label}
use Rattle.bc_core.specs.WellFormed.{has, are_distinct, labels_of, has_entries}
use Rattle.bc_gen_defs.specs.Emit.{labelled, labels_in, defaulted, entries_in}
use Rattle.bc_gen_laws.proofs.label_lemmas.Counts.{at, below, next_below}

pub left_true : (a b : Bool) → (a && b) ≡ true → a ≡ true
left_true true b h = refl
left_true false b h = h

pub right_true : (a b : Bool) → (a && b) ≡ true → b ≡ true
right_true true b h = h
right_true false b h = absurd (cc)

pub not_true : (a : Bool) → not a ≡ true → a ≡ false
not_true true h = absurd (cc)
not_true false h = refl

pub same_number : (l : ℕ) → (l == l) ≡ true
same_number l = grind (arith, nat_tests)

or_left : (a b : Bool) → a ≡ true → (a || b) ≡ true
or_left true b h = refl
or_left false b h = absurd (cc)

or_right : (a b : Bool) → b ≡ true → (a || b) ≡ true
or_right true b h = refl
or_right false b h = h

-- a number in a list differs from one that isn't in it
other : (ks : List ℕ) (k l : ℕ) → has ks k ≡ false → has ks l ≡ true → (k == l) ≡ false
other ks k l h i = by (k == l) refl where
  by : (b : Bool) → (k == l) ≡ b → b ≡ false
  by true e = let same : k ≡ l = grind (arith, nat_tests) in absurd (let j : has ks l ≡ false = ap (has ks) (sym same) ∙ h in cc)
  by false e = refl

first_case : {X : Type 0} (b : Bool) (x y : X) → b ≡ true → cond b x y ≡ x
first_case true x y h = refl
first_case false x y h = absurd (cc)

second_case : {X : Type 0} (b : Bool) (x y : X) → b ≡ false → cond b x y ≡ y
second_case true x y h = absurd (cc)
second_case false x y h = refl

-- the labels that a list must set for its own labels
abbrev pub owed_labels : (ℕ → ℕ) → Items → ℕ → ℕ
owed_labels label_of no_item k = 0
owed_labels label_of (command c is) k = owed_labels label_of is k
owed_labels label_of (case v is) k = owed_labels label_of is k
owed_labels label_of (default is) k = owed_labels label_of is k
owed_labels label_of (label l is) k = at (label_of l) k + owed_labels label_of is k

-- the labels that it must set for its CASEs and DEFAULTs, from f on
abbrev pub owed_cases : (f : ℕ) → Items → ℕ → ℕ
owed_cases f no_item k = 0
owed_cases f (command c is) k = owed_cases f is k
owed_cases f (case v is) k = at f k + owed_cases (f + 1) is k
owed_cases f (default is) k = at f k + owed_cases (f + 1) is k
owed_cases f (label l is) k = owed_cases f is k

nothing_owed : (b c : ℕ) → b ≡ c → 0 + b ≡ c
nothing_owed b c h = omega arith

one_owed : (a x n b0 b1 b2 b3 : ℕ) → a ≡ x → n + b1 ≡ b2 → b1 ≡ b0 + x → b2 ≡ b3 → a + n + b0 ≡ b3
one_owed a x n b0 b1 b2 b3 e h i j = omega arith

pub labels_fresh : (is : Items) (f : ℕ) (outer label_of : ℕ → ℕ) → are_distinct (labels_of is) ≡ true
    → ((l : ℕ) → has (labels_of is) l ≡ true → label_of l ≡ labelled is f outer l) → (k : ℕ) → owed_labels label_of is k + below k f ≡ below k (f + labels_in is)
labels_fresh no_item f outer label_of d h k = nothing_owed (below k f) (below k (f + 0)) (ap (below k) (omega arith))
labels_fresh (command c is) f outer label_of d h k = labels_fresh is f outer label_of d h k
labels_fresh (case v is) f outer label_of d h k = labels_fresh is f outer label_of d h k
labels_fresh (default is) f outer label_of d h k = labels_fresh is f outer label_of d h k
labels_fresh (label l is) f outer label_of d h k =
    let fresh = not_true (has (labels_of is) l) (left_true (not (has (labels_of is) l)) (are_distinct (labels_of is)) d) in
    let here : label_of l ≡ f = h l (or_left (l == l) (has (labels_of is) l) (same_number l)) ∙ first_case (l == l) f (labelled is (f + 1) outer l) (same_number l) in
    let rest = labels_fresh is (f + 1) outer label_of (right_true (not (has (labels_of is) l)) (are_distinct (labels_of is)) d)
    (λ m i. h m (or_right (l == m) (has (labels_of is) m) i) ∙ second_case (l == m) f (labelled is (f + 1) outer m) (other (labels_of is) l m fresh i)) k in
    one_owed (at (label_of l) k) (at f k) (owed_labels label_of is k) (below k f) (below k (f + 1)) (below k (f + 1 + labels_in is)) (below k (f + (labels_in is + 1)))
    (ap (λ m. at m k) here) rest (next_below k f) (ap (below k) (omega arith))

-- a CASE or DEFAULT, and those after it
entry_fresh : (is : Items) (f k : ℕ) → owed_cases (f + 1) is k + below k (f + 1) ≡ below k (f + 1 + entries_in is) → at f k + owed_cases (f + 1) is k + below k f ≡ below k (f + (entries_in is + 1))
entry_fresh is f k rest =
    one_owed (at f k) (at f k) (owed_cases (f + 1) is k) (below k f) (below k (f + 1)) (below k (f + 1 + entries_in is)) (below k (f + (entries_in is + 1)))
    refl rest (next_below k f) (ap (below k) (omega arith))

pub cases_fresh : (is : Items) (f k : ℕ) → owed_cases f is k + below k f ≡ below k (f + entries_in is)
cases_fresh no_item f k = nothing_owed (below k f) (below k (f + 0)) (ap (below k) (omega arith))
cases_fresh (command c is) f k = cases_fresh is f k
cases_fresh (case v is) f k = entry_fresh is f k (cases_fresh is (f + 1) k)
cases_fresh (default is) f k = entry_fresh is f k (cases_fresh is (f + 1) k)
cases_fresh (label l is) f k = cases_fresh is f k

-- the list of a block has none
pub no_cases : (is : Items) (f : ℕ) → has_entries is ≡ false → (k : ℕ) → owed_cases f is k ≡ 0
no_cases no_item f h k = refl
no_cases (command c is) f h k = no_cases is f h k
no_cases (case v is) f h k = absurd (cc)
no_cases (default is) f h k = absurd (cc)
no_cases (label l is) f h k = no_cases is f h k

abbrev Between : ℕ → ℕ → ℕ → Type 0
Between f g x = (f ≤ x) × (x < g)

-- the range of these labels
abbrev pub Labelled : (f g : ℕ) → (outer : ℕ) → (known : Bool) → ℕ → Type 0
Labelled f g outer known x = Between f g x ⊎ ((x ≡ outer) × (known ≡ true))

first_or_later : (b later : Bool) (f n x outer : ℕ) (known : Bool) → (b || later) ≡ true → (later ≡ true → Labelled (f + 1) (f + 1 + n) outer known x) → Labelled f (f + (n + 1)) outer known (cond b f x)
first_or_later true later f n x outer known h rest = inl (omega arith, omega arith)
first_or_later false later f n x outer known h rest = wider (rest h) where
  wider : Labelled (f + 1) (f + 1 + n) outer known x → Labelled f (f + (n + 1)) outer known x
  wider (inl i) = let i0 = i.0 in let i1 = i.1 in inl (omega arith, omega arith)
  wider (inr i) = inr i

pub labelled_within : (is : Items) (f : ℕ) (outer : ℕ → ℕ) (ks : List ℕ) (l : ℕ) → has (labels_of is ++ ks) l ≡ true → Labelled f (f + labels_in is) (outer l) (has ks l) (labelled is f outer l)
labelled_within no_item f outer ks l h = inr (refl, h)
labelled_within (command c is) f outer ks l h = labelled_within is f outer ks l h
labelled_within (case v is) f outer ks l h = labelled_within is f outer ks l h
labelled_within (default is) f outer ks l h = labelled_within is f outer ks l h
labelled_within (label m is) f outer ks l h =
    first_or_later (m == l) (has (labels_of is ++ ks) l) f (labels_in is) (labelled is (f + 1) outer l) (outer l) (has ks l) h (λ i. labelled_within is (f + 1) outer ks l i)

pub defaulted_within : (is : Items) (f without : ℕ) → without < f → Between without (f + entries_in is) (defaulted is f without)
defaulted_within no_item f without h = (omega arith, omega arith)
defaulted_within (command c is) f without h = defaulted_within is f without h
defaulted_within (case v is) f without h =
    let i = defaulted_within is (f + 1) without (omega arith) in
    let i0 = i.0 in let i1 = i.1 in (i0, omega arith)
defaulted_within (default is) f without h = (omega arith, omega arith)
defaulted_within (label l is) f without h = defaulted_within is f without h
