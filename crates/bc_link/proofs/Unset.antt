-- The labels that a segment sets are the same by its places and by its list of labels.
use Rattle.std.proofs.Common.{◌≡◌, ℕ, ◌+◌, List, [], ◌∷◌, Bool, true, false, not, cond, eqb, Some, find, is_none, ◌||◌, refl, ap, sym}
use Rattle.std.specs.List.{list_any}
use Rattle.bc_machine_defs.specs.Places.{address_in}
use Rattle.bc_text_items.specs.Sizes.{size}
use Rattle.bc_text_items.specs.Assembled.{label_places}
use Rattle.bc_text_items.specs.declared.item.Item.{Item}
use Rattle.bc_text_items.specs.declared.item.Item.TheVariants.{Label, Data, DataLabel, Byte, Operation, Global}
use Rattle.bc_link.specs.Labels.{labels_of}
use Rattle.bc_link.specs.Refusals.{first_unset}

abbrev lacks : ℕ → List ℕ → Bool
lacks m labels = not (list_any (λ y. eqb m y) labels)

following : (m n : ℕ) (at : ℕ) (places : List (ℕ × ℕ)) (labels : List ℕ) → is_none (address_in m places) ≡ lacks m labels → is_none (address_in m ((n, at) ∷ places)) ≡ lacks m (n ∷ labels)
following m n at places labels h = by (eqb m n)
  where
    by : (b : Bool) → is_none (cond b (Some at) (address_in m places)) ≡ not (b || list_any (λ y. eqb m y) labels)
    by true = refl
    by false = h

pub is_none-address_in : (m at : ℕ) (items : List Item) → is_none (address_in m (label_places at items)) ≡ lacks m (labels_of items)
is_none-address_in m at [] = refl
is_none-address_in m at (Label n ∷ items) = following m n at (label_places at items) (labels_of items) (is_none-address_in m at items)
is_none-address_in m at (Data n ∷ items) = is_none-address_in m (at + 1) items
is_none-address_in m at (DataLabel n ∷ items) = is_none-address_in m (at + 1) items
is_none-address_in m at (Operation f i b n ∷ items) = is_none-address_in m (at + size (Operation f i b n)) items
is_none-address_in m at (Global g n ∷ items) = is_none-address_in m (at + 0) items
is_none-address_in m at (Byte high ∷ []) = refl
is_none-address_in m at (Byte high ∷ Byte low ∷ items) = is_none-address_in m (at + 1) items
is_none-address_in m at (Byte high ∷ Label n ∷ items) = is_none-address_in m (at + 1) (Label n ∷ items)
is_none-address_in m at (Byte high ∷ Data n ∷ items) = is_none-address_in m (at + 1) (Data n ∷ items)
is_none-address_in m at (Byte high ∷ DataLabel n ∷ items) = is_none-address_in m (at + 1) (DataLabel n ∷ items)
is_none-address_in m at (Byte high ∷ Operation f i b n ∷ items) = is_none-address_in m (at + 1) (Operation f i b n ∷ items)
is_none-address_in m at (Byte high ∷ Global g n ∷ items) = is_none-address_in m (at + 1) (Global g n ∷ items)

-- the first label that is not set, by the places
pub first_unset-places : (at : ℕ) (items : List Item) (uses : List ℕ) → first_unset (labels_of items) uses ≡ find (λ m. is_none (address_in m (label_places at items))) uses
first_unset-places at items uses =
    let same : (λ (m : ℕ). is_none (address_in m (label_places at items))) ≡ (λ (m : ℕ). lacks m (labels_of items)) = λ j m. is_none-address_in m at items j in
    ap (λ test. find test uses) (sym same)
