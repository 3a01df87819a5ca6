-- The number of words that items become.
use Rattle.std.proofs.Common.{◌≡◌, ◌∙◌, ℕ, List, [], ◌∷◌, length, length-append, Bool, true, false, cond, nat_le, refl, sym, zero-add, arith}
use Rattle.bc_text_items.specs.Sizes.{size_of_all, operation_size}
use Rattle.bc_text_items.specs.Assembled.{assembled, operation_words, instruction}
use Rattle.bc_text_items.specs.declared.item.Item.{Item}
use Rattle.bc_text_items.specs.declared.item.Item.TheVariants.{Label, Data, DataLabel, Byte, Operation, Global}
use Rattle.bc_text_items.specs.declared.item.Base.{Base}
use Rattle.bc_text_items.specs.declared.item.Base.TheVariants as bases
use Rattle.bc_text_items.specs.declared.item.Function.{Function}

length-choice : (b : Bool) (x y z : ℕ) → length (cond b (x ∷ []) (y ∷ z ∷ [])) ≡ cond b 1 2
length-choice true x y z = refl
length-choice false x y z = refl

pub length-operation_words : (address : ℕ → ℕ) (f : Function) (i : Bool) (b : Base) (n : ℕ) → length (operation_words address f i b n) ≡ operation_size b n
length-operation_words address f i bases.Label n = refl
length-operation_words address f i bases.Number n = length-choice (nat_le n 511) (instruction f i bases.Number n) (instruction f i bases.Number 512) n
length-operation_words address f i bases.P n = length-choice (nat_le n 511) (instruction f i bases.P n) (instruction f i bases.P 512) n
length-operation_words address f i bases.G n = length-choice (nat_le n 511) (instruction f i bases.G n) (instruction f i bases.G 512) n

-- the words that items become are as many as their size
pub length-assembled : (address : ℕ → ℕ) (items : List Item) → length (assembled address items) ≡ size_of_all items
length-assembled address [] = refl
length-assembled address (Label m ∷ items) = length-assembled address items ∙ sym (zero-add (size_of_all items))
length-assembled address (Global g m ∷ items) = length-assembled address items ∙ sym (zero-add (size_of_all items))
length-assembled address (Data n ∷ items) = let h = length-assembled address items in omega arith
length-assembled address (DataLabel m ∷ items) = let h = length-assembled address items in omega arith
length-assembled address (Operation f i b n ∷ items) =
    let h = length-assembled address items in
    let w = length-operation_words address f i b n in
    let e = length-append (operation_words address f i b n) (assembled address items) in
    omega arith
length-assembled address (Byte high ∷ []) = refl
length-assembled address (Byte high ∷ Byte low ∷ items) = let h = length-assembled address items in omega arith
length-assembled address (Byte high ∷ Label m ∷ items) = let h = length-assembled address (Label m ∷ items) in omega arith
length-assembled address (Byte high ∷ Data n ∷ items) = let h = length-assembled address (Data n ∷ items) in omega arith
length-assembled address (Byte high ∷ DataLabel m ∷ items) = let h = length-assembled address (DataLabel m ∷ items) in omega arith
length-assembled address (Byte high ∷ Operation f i b n ∷ items) = let h = length-assembled address (Operation f i b n ∷ items) in omega arith
length-assembled address (Byte high ∷ Global g m ∷ items) = let h = length-assembled address (Global g m ∷ items) in omega arith
