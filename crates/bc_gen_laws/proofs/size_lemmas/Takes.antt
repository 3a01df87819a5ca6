-- Items that take a number of words, whatever follows them.
use Rattle.std.proofs.Common.{◌≡◌, ◌∙◌, ℕ, ◌+◌, Bool, List, [], ◌∷◌, ◌++◌, ap, arith, append_assoc}
use Rattle.bc_text_items.specs.Sizes.{operation_size, size_of_all}
use Rattle.bc_text_items.specs.declared.item.Item.{Item}
use Rattle.bc_text_items.specs.declared.item.Item.TheVariants.{Label, Data, DataLabel, Operation, Global}
use Rattle.bc_text_items.specs.declared.item.Base.{Base}
use Rattle.bc_text_items.specs.declared.item.Function.{Function}

pub record Takes (is : List Item) (n : ℕ) : Type 0 where
  pub all : (rest : List Item) → size_of_all (is ++ rest) ≡ n + size_of_all rest

pub takes_none : Takes [] 0
takes_none = record { all = λ rest. omega arith }

pub takes_both : {xs ys : List Item} {m n : ℕ} → Takes xs m → Takes ys n → Takes (xs ++ ys) (m + n)
takes_both {xs = xs} {ys = ys} {m = m} {n = n} h i = record { all = λ rest. ap size_of_all (append_assoc xs ys rest) ∙ h.all (ys ++ rest) ∙ omega (arith, i.all rest) }

pub takes_as : {xs : List Item} {m n : ℕ} → Takes xs m → m ≡ n → Takes xs n
takes_as {xs = xs} {m = m} {n = n} h e = record { all = λ rest. h.all rest ∙ ap (λ k. k + size_of_all rest) e }

pub takes_operation : (f : Function) (i : Bool) (b : Base) (k : ℕ) {is : List Item} {n : ℕ} → Takes is n → Takes (Operation f i b k ∷ is) (operation_size b k + n)
takes_operation f i b k {is = is} {n = n} h = record { all = λ rest. ap (λ z. operation_size b k + z) (h.all rest) ∙ omega arith }

pub takes_label : (k : ℕ) {is : List Item} {n : ℕ} → Takes is n → Takes (Label k ∷ is) n
takes_label k {is = is} {n = n} h = record { all = λ rest. ap (λ z. 0 + z) (h.all rest) ∙ omega arith }

pub takes_data : (w : ℕ) {is : List Item} {n : ℕ} → Takes is n → Takes (Data w ∷ is) (1 + n)
takes_data w {is = is} {n = n} h = record { all = λ rest. ap (λ z. 1 + z) (h.all rest) ∙ omega arith }

pub takes_address : (l : ℕ) {is : List Item} {n : ℕ} → Takes is n → Takes (DataLabel l ∷ is) (1 + n)
takes_address l {is = is} {n = n} h = record { all = λ rest. ap (λ z. 1 + z) (h.all rest) ∙ omega arith }

pub takes_setting : (k l : ℕ) {is : List Item} {n : ℕ} → Takes is n → Takes (Global k l ∷ is) n
takes_setting k l {is = is} {n = n} h = record { all = λ rest. ap (λ z. 0 + z) (h.all rest) ∙ omega arith }
