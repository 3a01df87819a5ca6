-- The labels of a segment.
use Rattle.std.specs.Prelude.{ℕ, ◌≡◌, List, [], ◌∷◌, Option, Some, None, false, unwrap_or, refl}
use Rattle.std.specs.List.{filter_map}
use Rattle.bc_text_items.specs.declared.item.Item.{Item}
use Rattle.bc_text_items.specs.declared.item.Item.TheVariants.{Label, Data, DataLabel, Operation, Global}
use Rattle.bc_text_items.specs.declared.item.Base.TheVariants as bases
use Rattle.bc_text_items.specs.declared.item.Function.TheVariants as functions
use Rattle.bc_machine_defs.specs.Places.{address_in}

-- the address of a label, given pairs of a label and its address: that of the first pair with the label, or 0 if there is none
abbrev pub label_address : List (ℕ × ℕ) → ℕ → ℕ
label_address pairs label = unwrap_or (address_in label pairs) 0

-- the labels that items set, in order
abbrev pub labels_of : List Item → List ℕ
labels_of [] = []
labels_of (Label m ∷ items) = m ∷ labels_of items
labels_of (item ∷ items) = labels_of items

-- the label that an item refers to: a word of data, an operation or a global may have one
abbrev pub use_of : Item → Option ℕ
use_of (DataLabel m) = Some m
use_of (Operation function indirect bases.Label m) = Some m
use_of (Global number m) = Some m
use_of item = None

-- the labels that items refer to, in order
abbrev pub uses_of : List Item → List ℕ
uses_of items = filter_map use_of items

-- ---- Worked examples

pub labels_in_order : labels_of (Label 7 ∷ Data 3 ∷ Label 1 ∷ []) ≡ 7 ∷ 1 ∷ []
labels_in_order = refl

-- `DL4 L5 LL6 G1L2`: `L5` is the number 5
pub uses_in_order : uses_of (DataLabel 4 ∷ Operation functions.Load false bases.Number 5 ∷ Operation functions.Load false bases.Label 6 ∷ Global 1 2 ∷ [])
    ≡ 4 ∷ 6 ∷ 2 ∷ []
uses_in_order = refl

pub first_pair_wins : label_address ((1, 520) ∷ (1, 600) ∷ []) 1 ≡ 520
first_pair_wins = refl
