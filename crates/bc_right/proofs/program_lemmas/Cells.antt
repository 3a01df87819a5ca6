-- The cells at the start: globals and data as in the store, and all others dead.
use Rattle.std.proofs.Common.{◌≡◌, ◌⊎◌, inl, inr, ⊎_elim, ℕ, zero, suc, ◌+◌, ◌-◌, ◌<◌, ◌≤◌, ◌&&◌, Bool, true, false, Option, Some, None, List, [], ◌∷◌, ◌++◌, length, refl, sym, ap, ◌∙◌, arith}
use Rattle.std.specs.Prelude.{slice_index, slice_get, nat_le, nat_lt}
use Rattle.std.proofs.lemmas.Bool.{cases_lt}
use Rattle.std.proofs.lemmas.Bool.Decides.{nat_tests}
use Rattle.std.proofs.lemmas.Option.{slice_get_past}
use Rattle.std.proofs.Math.ListN.{get_or-eq_default}
use Rattle.bc_core.specs.Map.{Holding, ARoutine, Words, Standing}
use Rattle.bc_core.specs.Store.{Cell, Dead, Set, cell_at}
use Rattle.bc_core.specs.Start.{or_else, setting, global_cell, word_of, data_word, data_cell, start_cell, cells_from, start_cells}
use Rattle.bc_right.specs.steps.CodeAt.{HasWords}
use Rattle.bc_right.proofs.program_lemmas.Globals.{or_zero}
use Rattle.bc_right.proofs.program_lemmas.Standing.{word_at, DataAfter, DataAt}

-- hidden, so that no proof unfolds the list of 65,536 cells
pub first_cells : List Standing → List Cell
first_cells all = start_cells all

pub first_cells-are : (all : List Standing) → first_cells all ≡ start_cells all
unfolding first_cells
first_cells-are all = refl

cells_sized : (all : List Standing) (n : ℕ) → n ≡ 65536 → first_cells all ≡ cells_from n 0 all
unfolding first_cells
cells_sized all n e = ap (λ k. cells_from k 0 all) (sym e)

length_from : (n a : ℕ) (all : List Standing) → length (cells_from n a all) ≡ n
length_from zero a all = refl
length_from (suc n) a all = ap (λ z. suc z) (length_from n (a + 1) all)

cell_from : (n a k : ℕ) (all : List Standing) → k < n → cell_at (cells_from n a all) k ≡ start_cell all (a + k)
cell_from zero a k all lt = absurd (omega arith)
cell_from (suc n) a zero all lt = let e : a ≡ a + 0 = omega arith in ap (λ z. start_cell all z) e
cell_from (suc n) a (suc k) all lt = let e : a + 1 + k ≡ a + suc k = omega arith in cell_from n (a + 1) k all (omega arith) ∙ ap (λ z. start_cell all z) e

some_size : (n : ℕ) × (n ≡ 65536)
some_size = (65536, refl)

pub cells_length : (all : List Standing) → length (first_cells all) ≡ 65536
cells_length all = let n = some_size in ap length (cells_sized all n.0 n.1) ∙ length_from n.0 0 all ∙ n.1

pub cell_is : (all : List Standing) (a : ℕ) → a < 65536 → cell_at (first_cells all) a ≡ start_cell all a
cell_is all a lt =
    let n = some_size in
    let e : 0 + a ≡ a = omega arith in
    ap (λ z. cell_at z a) (cells_sized all n.0 n.1) ∙ cell_from n.0 0 a all (omega (arith, n.1)) ∙ ap (λ z. start_cell all z) e

pub cell_past : (all : List Standing) (a : ℕ) → 65536 ≤ a → cell_at (first_cells all) a ≡ Dead
cell_past all a le = get_or-eq_default (first_cells all) Dead (let e = cells_length all in omega (arith, e))

-- there is no data at this address
abbrev pub ClearOf : ℕ → ℕ → Holding → Type 0
ClearOf a from (ARoutine g) = Unit {0}
ClearOf a from (Words ws) = (a < from) ⊎ (from + length ws ≤ a)

abbrev pub Clear : ℕ → List Standing → Type 0
Clear a [] = Unit {0}
Clear a (s ∷ ss) = ClearOf a s.address s.holding × Clear a ss

pub clear_both : (a : ℕ) (xs ys : List Standing) → Clear a xs → Clear a ys → Clear a (xs ++ ys)
clear_both a [] ys h k = k
clear_both a (x ∷ xs) ys h k = (h.0, clear_both a xs ys h.1 k)

pub in_bounds : (store : List ℕ) (low high : ℕ) (ss : List Standing) → DataAt store low high ss → low ≤ high
in_bounds store low high [] h = h
in_bounds store low high (s ∷ ss) h = by s.address s.holding (λ z k. in_bounds store z high ss k) h where
  by : (from : ℕ) (k : Holding) → ((z : ℕ) → DataAt store z high ss → z ≤ high) → DataAfter store k from low (λ z. DataAt store z high ss) → low ≤ high
  by from (ARoutine g) ih d = ih low d
  by from (Words ws) ih d = let k = ih (from + length ws) d.2 in omega (arith, d.1)

pub clear_below : (store : List ℕ) (low high a : ℕ) (ss : List Standing) → DataAt store low high ss → a < low → Clear a ss
clear_below store low high a [] h lt = tt
clear_below store low high a (s ∷ ss) h lt = by s.address s.holding (λ z k l. clear_below store z high a ss k l) h where
  by : (from : ℕ) (k : Holding) → ((z : ℕ) → DataAt store z high ss → a < z → Clear a ss) → DataAfter store k from low (λ z. DataAt store z high ss) → ClearOf a from k × Clear a ss
  by from (ARoutine g) ih d = (tt, ih low d lt)
  by from (Words ws) ih d = (inl (omega (arith, d.1)), ih (from + length ws) d.2 (omega (arith, d.1)))

pub clear_above : (store : List ℕ) (low high a : ℕ) (ss : List Standing) → DataAt store low high ss → high ≤ a → Clear a ss
clear_above store low high a [] h le = tt
clear_above store low high a (s ∷ ss) h le = by s.address s.holding (λ z k. clear_above store z high a ss k le) h where
  by : (from : ℕ) (k : Holding) → ((z : ℕ) → DataAt store z high ss → Clear a ss) → DataAfter store k from low (λ z. DataAt store z high ss) → ClearOf a from k × Clear a ss
  by from (ARoutine g) ih d = (tt, ih low d)
  by from (Words ws) ih d = (let k = in_bounds store (from + length ws) high ss d.2 in inr (omega arith), ih (from + length ws) d.2)

pub data_wider : (store : List ℕ) (low high low1 high1 : ℕ) (ss : List Standing) → low1 ≤ low → high ≤ high1 → DataAt store low high ss → DataAt store low1 high1 ss
data_wider store low high low1 high1 [] lo hi h = omega arith
data_wider store low high low1 high1 (s ∷ ss) lo hi h = by s.address s.holding (λ z z1 le k. data_wider store z high z1 high1 ss le hi k) h where
  by : (from : ℕ) (k : Holding) → ((z z1 : ℕ) → z1 ≤ z → DataAt store z high ss → DataAt store z1 high1 ss) → DataAfter store k from low (λ z. DataAt store z high ss) → DataAfter store k from low1 (λ z. DataAt store z high1 ss)
  by from (ARoutine g) ih d = ih low low1 lo d
  by from (Words ws) ih d = (d.0, omega (arith, d.1), ih (from + length ws) (from + length ws) (omega arith) d.2)

pub data_both : (store : List ℕ) (low middle high : ℕ) (xs ys : List Standing) → DataAt store low middle xs → DataAt store middle high ys → DataAt store low high (xs ++ ys)
data_both store low middle high [] ys h k = data_wider store middle high low high ys h (omega arith) k
data_both store low middle high (x ∷ xs) ys h k = by x.address x.holding (λ z l. data_both store z middle high xs ys l k) h where
  by : (from : ℕ) (q : Holding) → ((z : ℕ) → DataAt store z middle xs → DataAt store z high (xs ++ ys)) → DataAfter store q from low (λ z. DataAt store z middle xs) → DataAfter store q from low (λ z. DataAt store z high (xs ++ ys))
  by from (ARoutine g) ih d = ih low d
  by from (Words ws) ih d = (d.0, d.1, ih (from + length ws) d.2)

none_here : (a from : ℕ) (k : Holding) → ClearOf a from k → word_of k from a ≡ None
none_here a from (ARoutine g) h = refl
none_here a from (Words ws) h = by (nat_le from a) refl where
  by : (t : Bool) → nat_le from a ≡ t → (elim t as (λ z. Option ℕ) [ true ↦ slice_get ws (a - from) | false ↦ None ]) ≡ None
  by true e = let le : from ≤ a = grind (arith, nat_tests) in slice_get_past ws (a - from) (⊎_elim (λ lt. absurd (omega arith)) (λ ge. omega arith) h)
  by false e = refl

none_clear : (a : ℕ) (ss : List Standing) → Clear a ss → data_word ss a ≡ None
none_clear a [] h = refl
none_clear a (s ∷ ss) h = ap (λ z. or_else z (data_word ss a)) (none_here a s.address s.holding h.0) ∙ none_clear a ss h.1

get_is : (ws : List ℕ) (k w : ℕ) → slice_get ws k ≡ Some w → (k < length ws) × (slice_index ws k ≡ w)
get_is [] k w e = absurd (let f : None ≡ Some w = e in cc)
get_is (v ∷ ws) zero w e = (omega arith, let same : v ≡ w = cc in same)
get_is (v ∷ ws) (suc k) w e = let h = get_is ws k w e in (omega (arith, h.0), h.1)

-- the data that the source has at an address is in the store there
word_is : (store : List ℕ) (a w from : ℕ) (ws : List ℕ) → HasWords store from ws → word_of (Words ws) from a ≡ Some w → slice_index store a ≡ w
word_is store a w from ws d f = by_test (nat_le from a) refl f where
  by_test : (t : Bool) → nat_le from a ≡ t → (elim t as (λ z. Option ℕ) [ true ↦ slice_get ws (a - from) | false ↦ None ]) ≡ Some w → slice_index store a ≡ w
  by_test true t f =
      let le : from ≤ a = grind (arith, nat_tests) in
      let g = get_is ws (a - from) w f in
      let at : a ≡ from + (a - from) = omega arith in
      ap (λ z. slice_index store z) at ∙ word_at store from (a - from) ws d g.0 ∙ g.1
  by_test false t f = absurd (let k : None ≡ Some w = f in cc)

pub data_is : (store : List ℕ) (low high a w : ℕ) (ss : List Standing) → DataAt store low high ss → data_word ss a ≡ Some w → slice_index store a ≡ w
data_is store low high a w [] h e = absurd (let f : None ≡ Some w = e in cc)
data_is store low high a w (s ∷ ss) h e = by s.address s.holding (λ z k g. data_is store z high a w ss k g) h e where
  by_word : (from : ℕ) (ws : List ℕ) → HasWords store from ws → (data_word ss a ≡ Some w → slice_index store a ≡ w) → (o : Option ℕ) → word_of (Words ws) from a ≡ o → or_else o (data_word ss a) ≡ Some w → slice_index store a ≡ w
  by_word from ws d ih None f g = ih g
  by_word from ws d ih (Some v) f g = word_is store a w from ws d (f ∙ g)

  by : (from : ℕ) (k : Holding) → ((z : ℕ) → DataAt store z high ss → data_word ss a ≡ Some w → slice_index store a ≡ w) → DataAfter store k from low (λ z. DataAt store z high ss) → or_else (word_of k from a) (data_word ss a) ≡ Some w → slice_index store a ≡ w
  by from (ARoutine g) ih d f = ih low d f
  by from (Words ws) ih d f = by_word from ws d.0 (λ g. ih (from + length ws) d.2 g) (word_of (Words ws) from a) refl f

is_global : (a : ℕ) → (nat_le 8 a && nat_lt a 520) ≡ true → (8 ≤ a) × (a < 520)
is_global a e = by (nat_le 8 a) (nat_lt a 520) refl refl e where
  by : (x y : Bool) → nat_le 8 a ≡ x → nat_lt a 520 ≡ y → (x && y) ≡ true → (8 ≤ a) × (a < 520)
  by true true f g h = (grind (arith, nat_tests), grind (arith, nat_tests))
  by true false f g h = absurd (let k : false ≡ true = h in cc)
  by false y f g h = absurd (let k : false ≡ true = h in cc)

-- outside the globals, a cell without data is dead
pub cell_dead : (all : List Standing) (a : ℕ) → (a < 8) ⊎ (520 ≤ a) → Clear a all → cell_at (first_cells all) a ≡ Dead
cell_dead all a out h = ⊎_elim (λ lt. cell_is all a lt ∙ by (nat_le 8 a && nat_lt a 520) refl) (λ ge. cell_past all a ge) (cases_lt a 65536) where
  by : (t : Bool) → (nat_le 8 a && nat_lt a 520) ≡ t → (elim t as (λ z. Cell) [ true ↦ global_cell (setting all (a - 8)) | false ↦ data_cell (data_word all a) ]) ≡ Dead
  by true e = let k = is_global a e in absurd (⊎_elim (λ lt. let f = k.0 in omega arith) (λ ge. let f = k.1 in omega arith) out)
  by false e = ap data_cell (none_clear a all h)

global_word : (o : Option ℕ) (w : ℕ) → global_cell o ≡ Set w → or_zero o 0 ≡ w
global_word None w e = let f : Set 0 ≡ Set w = e in cc
global_word (Some v) w e = let f : Set v ≡ Set w = e in cc

data_some : (o : Option ℕ) (w : ℕ) → data_cell o ≡ Set w → o ≡ Some w
data_some None w e = absurd (let f : Dead ≡ Set w = e in cc)
data_some (Some v) w e = let f : Set v ≡ Set w = e in let same : v ≡ w = cc in ap (λ z. Some z) same

-- a set cell has the store's value
pub cells_agree : (all : List Standing) (store : List ℕ) (low high : ℕ) → DataAt store low high all → ((n : ℕ) → n < 512 → slice_index store (8 + n) ≡ or_zero (setting all n) 0)
    → (a w : ℕ) → cell_at (first_cells all) a ≡ Set w → slice_index store a ≡ w
cells_agree all store low high stands globals a w e = ⊎_elim (λ lt. by (nat_le 8 a && nat_lt a 520) refl (sym (cell_is all a lt) ∙ e)) (λ ge. absurd (let f : Dead ≡ Set w = sym (cell_past all a ge) ∙ e in cc)) (cases_lt a 65536) where
  by : (t : Bool) → (nat_le 8 a && nat_lt a 520) ≡ t → (elim t as (λ z. Cell) [ true ↦ global_cell (setting all (a - 8)) | false ↦ data_cell (data_word all a) ]) ≡ Set w → slice_index store a ≡ w
  by true t f =
      let k = is_global a t in
      let at : a ≡ 8 + (a - 8) = omega (arith, k.0) in
      ap (λ z. slice_index store z) at ∙ globals (a - 8) (omega (arith, k.0, k.1)) ∙ global_word (setting all (a - 8)) w f
  by false t f = data_is store low high a w all stands (data_some (data_word all a) w f)
