-- Assembling item by item, where two consecutive bytes share a word.
use Rattle.bc_link.proofs.Front.{drop-front}
use Rattle.std.proofs.Common.{◌≡◌, ◌∙◌, ◌<◌, length, drop, get_or, arith, ℕ, ◌+◌, List, [], ◌∷◌, Bool, true, false, ◌++◌, append_assoc, refl, ap, add-zero, zero-add, sym}
use Rattle.bc_text_items.specs.Sizes.{size_of_all}
use Rattle.bc_text_items.specs.Assembled.{label_places}
use Rattle.bc_text_items.specs.declared.item.Item.{Item}
use Rattle.bc_text_items.specs.declared.item.Item.TheVariants.{Label, Data, DataLabel, Byte, Operation, Global}
use Rattle.bc_link.specs.Steps.{uncounted, words_begun, leaves_half}

-- an item's label with its address
abbrev pub label_here : ℕ → Item → List (ℕ × ℕ)
label_here at (Label m) = (m, at) ∷ []
label_here at item = []

-- the words of a byte and of what follows it
pub size_of_all-Byte : (high : ℕ) (items : List Item) → size_of_all (Byte high ∷ items) ≡ 1 + size_of_all (uncounted true items)
size_of_all-Byte high [] = refl
size_of_all-Byte high (Byte low ∷ items) = refl
size_of_all-Byte high (Label m ∷ items) = refl
size_of_all-Byte high (Data n ∷ items) = refl
size_of_all-Byte high (DataLabel m ∷ items) = refl
size_of_all-Byte high (Operation f i b n ∷ items) = refl
size_of_all-Byte high (Global g m ∷ items) = refl

pub label_places-Byte : (at high : ℕ) (items : List Item) → label_places at (Byte high ∷ items) ≡ label_places (at + 1) (uncounted true items)
label_places-Byte at high [] = refl
label_places-Byte at high (Byte low ∷ items) = refl
label_places-Byte at high (Label m ∷ items) = refl
label_places-Byte at high (Data n ∷ items) = refl
label_places-Byte at high (DataLabel m ∷ items) = refl
label_places-Byte at high (Operation f i b n ∷ items) = refl
label_places-Byte at high (Global g m ∷ items) = refl

-- the items' words are those that the first begins and those of the others
pub size_of_all_step : (half : Bool) (item : Item) (items : List Item) → size_of_all (uncounted half (item ∷ items)) ≡ words_begun half item + size_of_all (uncounted (leaves_half half item) items)
size_of_all_step true (Byte low) items = sym (zero-add (size_of_all items))
size_of_all_step false (Byte high) items = size_of_all-Byte high items
size_of_all_step true (Label m) items = refl
size_of_all_step true (Data n) items = refl
size_of_all_step true (DataLabel m) items = refl
size_of_all_step true (Operation f i b n) items = refl
size_of_all_step true (Global g m) items = refl
size_of_all_step false (Label m) items = refl
size_of_all_step false (Data n) items = refl
size_of_all_step false (DataLabel m) items = refl
size_of_all_step false (Operation f i b n) items = refl
size_of_all_step false (Global g m) items = refl

-- after an item that isn't a label, the places of labels are those of the items after it
pub label_places_step : (half : Bool) (at : ℕ) (item : Item) (items : List Item) → label_places at (uncounted half (item ∷ items)) ≡ label_here at item ++ label_places (at + words_begun half item) (uncounted (leaves_half half item) items)
label_places_step true at (Byte low) items = ap (λ a. label_places a items) (sym (add-zero at))
label_places_step false at (Byte high) items = label_places-Byte at high items
label_places_step true at (Label m) items = ap (λ a. (m, at) ∷ label_places a items) (sym (add-zero at))
label_places_step true at (Data n) items = refl
label_places_step true at (DataLabel m) items = refl
label_places_step true at (Operation f i b n) items = refl
label_places_step true at (Global g m) items = refl
label_places_step false at (Label m) items = ap (λ a. (m, at) ∷ label_places a items) (sym (add-zero at))
label_places_step false at (Data n) items = refl
label_places_step false at (DataLabel m) items = refl
label_places_step false at (Operation f i b n) items = refl
label_places_step false at (Global g m) items = refl

-- one more item is counted
pub counted : (half : Bool) (next total : ℕ) (items : List Item) (i : ℕ) (item : Item) → i < length items → item ≡ get_or items i item → next + size_of_all (uncounted half (drop i items)) ≡ total
    → next + words_begun half item + size_of_all (uncounted (leaves_half half item) (drop (i + 1) items)) ≡ total
counted half next total items i item within is h =
    let e : size_of_all (uncounted half (drop i items)) ≡ words_begun half item + size_of_all (uncounted (leaves_half half item) (drop (i + 1) items)) = ap (λ xs. size_of_all (uncounted half xs)) (drop-front items i item within is) ∙ size_of_all_step half item (drop (i + 1) items) in
    omega arith

-- and placed
pub placed : (half : Bool) (next : ℕ) (items : List Item) (i : ℕ) (item : Item) → i < length items → item ≡ get_or items i item
    → label_places next (uncounted half (drop i items)) ≡ label_here next item ++ label_places (next + words_begun half item) (uncounted (leaves_half half item) (drop (i + 1) items))
placed half next items i item within is = ap (λ xs. label_places next (uncounted half xs)) (drop-front items i item within is) ∙ label_places_step half next item (drop (i + 1) items)

pub label_here-other : (at : ℕ) (item : Item) → ((m : ℕ) → item ≡ Label m → ⊥) → label_here at item ≡ []
label_here-other at (Label m) other = absurd (other m refl)
label_here-other at (Data n) other = refl
label_here-other at (DataLabel m) other = refl
label_here-other at (Byte b) other = refl
label_here-other at (Operation f i b n) other = refl
label_here-other at (Global g m) other = refl

-- the labels placed so far, with the one set here
pub placed_more : {X : Type 0} (so_far here rest all whole more : List X) → rest ≡ here ++ more → so_far ++ rest ≡ all → whole ≡ so_far ++ here → whole ++ more ≡ all
placed_more so_far here rest all whole more e h w = ap (λ l. l ++ more) w ∙ append_assoc so_far here more ∙ ap (λ l. so_far ++ l) (sym e) ∙ h
