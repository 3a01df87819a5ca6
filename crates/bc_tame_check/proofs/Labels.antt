-- The labels around a list.
use Rattle.std.proofs.Common.{◌≡◌, ℕ, zero, suc, ◌<◌, Bool, true, false, List, [], ◌∷◌, ◌++◌, length, get_or, refl, ap, ◌∙◌, arith}
use Rattle.std.specs.Prelude.{◌==◌, ◌||◌}
use Rattle.std.proofs.lemmas.Bool.{eq-eqb}
use Rattle.bc_core.specs.Commands.{Items, no_item, command, case, default, label}
use Rattle.bc_core.specs.Lists.{has_label}
use Rattle.bc_core.specs.WellFormed.{has, labels_of}

or_right : (a : Bool) → (a || true) ≡ true
or_right true = refl
or_right false = refl

grouped : (a b c : Bool) → (a || (b || c)) ≡ ((a || b) || c)
grouped true b c = refl
grouped false b c = refl

pub at_index : (ls : List ℕ) (i l : ℕ) → i < length ls → get_or ls i 0 ≡ l → has ls l ≡ true
at_index [] i l h e = absurd (omega arith)
at_index (k ∷ ls) zero l h e = ap (λ t. t || has ls l) (eq-eqb k l e)
at_index (k ∷ ls) (suc i) l h e = ap (λ t. (k == l) || t) (at_index ls i l (omega arith) e) ∙ or_right (k == l)

added : (is : Items) (ls : List ℕ) (l : ℕ) → has (labels_of is ++ ls) l ≡ (has_label is l || has ls l)
added no_item ls l = refl
added (command c is) ls l = added is ls l
added (case k is) ls l = added is ls l
added (default is) ls l = added is ls l
added (label k is) ls l = ap (λ t. (k == l) || t) (added is ls l) ∙ grouped (k == l) (has_label is l) (has ls l)

pub all_added : (is : Items) (ls : List ℕ) → has (labels_of is ++ ls) ≡ (λ l. has_label is l || has ls l)
all_added is ls = λ i. λ l. added is ls l i
