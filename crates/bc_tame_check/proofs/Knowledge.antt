-- What cells of the frame hold.
use Rattle.std.proofs.Common.{◌≡◌, ℕ, zero, suc, ◌+◌, ◌-◌, ◌<◌, ◌≤◌, Bool, true, false, List, [], ◌∷◌, ◌++◌, length, Some, refl, sym, ap, ◌∙◌, subst, arith}
use Rattle.std.specs.Prelude.{nat_lt, nat_le, ◌==◌, ◌&&◌, cond}
use Rattle.std.proofs.lemmas.Bool.{eq-eqb, cond-true, cond-false}
use Rattle.std.proofs.lemmas.Bool.Decides.{nat_tests}
use Rattle.bc_tame.specs.Tame.{Held, Nothing, ACell, AnyWord, Knows, and_also, is_cell, is_set, is_word, is_only, bounds, all_cells, all_between, parameters_set}
use Rattle.bc_tame_check.specs.declared.held.Entry.{Entry}
use Rattle.bc_tame_check.specs.declared.held.Entry.TheVariants as entries
use Rattle.bc_tame_check.specs.declared.held.Held as helds
use Rattle.bc_tame_check.specs.declared.held.Bounds.{Bounds}
use Rattle.bc_tame_check.specs.Views.{within, held_of, and_entry, set_over, held_over, bounds_in}
use Rattle.bc_tame_check.proofs.Tests.{and_true, less_true, most_true}
use Rattle.bc_tame_check.proofs.Places.{apart}

not_less : (a b : ℕ) → b ≤ a → nat_lt a b ≡ false
not_less a b h = grind (arith, nat_tests)

not_most : (a b : ℕ) → b < a → nat_le a b ≡ false
not_most a b h = grind (arith, nat_tests)

left_false : (a b : Bool) → a ≡ false → (a && b) ≡ false
left_false a b e = ap (λ t. t && b) e

right_false : (a b : Bool) → b ≡ false → (a && b) ≡ false
right_false true b e = e
right_false false b e = refl

-- one cell
pub one_here : (j k : ℕ) (h b : Held) → j ≡ k → h ≡ cond (j == k) h b
one_here j k h b e = sym (cond-true (j == k) h b (eq-eqb j k e))

pub one_else : (j k : ℕ) (h b : Held) → ((j ≡ k) → ⊥) → b ≡ cond (j == k) h b
one_else j k h b ne = sym (cond-false (j == k) h b (apart j k ne))

-- the cells of a vector
pub cells_here : (j k n : ℕ) (h : Held) → k ≤ j → j - k < n → ACell ≡ cond (nat_le k j && nat_lt j (k + n)) ACell h
cells_here j k n h low high = sym (cond-true _ ACell h (and_true (nat_le k j) (nat_lt j (k + n)) (most_true k j low) (less_true j (k + n) (omega arith))))

pub cells_below : (j k n : ℕ) (h : Held) → j < k → h ≡ cond (nat_le k j && nat_lt j (k + n)) ACell h
cells_below j k n h low = sym (cond-false _ ACell h (left_false (nat_le k j) (nat_lt j (k + n)) (not_most k j low)))

pub cells_above : (j k n : ℕ) (h : Held) → k ≤ j → n ≤ j - k → h ≡ cond (nat_le k j && nat_lt j (k + n)) ACell h
cells_above j k n h low high = sym (cond-false _ ACell h (right_false (nat_le k j) (nat_lt j (k + n)) (not_less j (k + n) (omega arith))))

-- one cell of a vector
pub only_here : (r : Bool) (j k : ℕ) (h b : Held) → r ≡ is_cell b → r ≡ true → j ≡ k → h ≡ cond (is_cell b && is_only (Some (bounds k k)) j) h b
only_here r j k h b is sure e =
    let same : (k == j) ≡ true = eq-eqb k j (sym e) in
    sym (cond-true _ h b (and_true (is_cell b) ((k == j) && (k == j)) (sym is ∙ sure) (and_true (k == j) (k == j) same same)))

pub only_else : (j k : ℕ) (h b : Held) → ((j ≡ k) → ⊥) → b ≡ cond (is_cell b && is_only (Some (bounds k k)) j) h b
only_else j k h b ne = sym (cond-false _ h b (right_false (is_cell b) ((k == j) && (k == j)) (left_false (k == j) (k == j) (apart k j (λ e. ne (sym e))))))

pub only_kept : (r : Bool) (j k : ℕ) (h b : Held) → r ≡ is_cell b → r ≡ false → b ≡ cond (is_cell b && is_only (Some (bounds k k)) j) h b
only_kept r j k h b is never = sym (cond-false _ h b (left_false (is_cell b) (is_only (Some (bounds k k)) j) (sym is ∙ never)))

-- cells of vectors that are filled
pub filled_here : (r : Bool) (j k n : ℕ) (b : Held) → r ≡ is_cell b → r ≡ true → k ≤ j → j ≤ n → AnyWord ≡ cond (is_cell b && within k n j) AnyWord b
filled_here r j k n b is sure low high =
    sym (cond-true _ AnyWord b (and_true (is_cell b) (within k n j) (sym is ∙ sure) (and_true (nat_le k j) (nat_le j n) (most_true k j low) (most_true j n high))))

pub filled_below : (j k n : ℕ) (b : Held) → j < k → b ≡ cond (is_cell b && within k n j) AnyWord b
filled_below j k n b low = sym (cond-false _ AnyWord b (right_false (is_cell b) (within k n j) (left_false (nat_le k j) (nat_le j n) (not_most k j low))))

pub filled_above : (j k n : ℕ) (b : Held) → n < j → b ≡ cond (is_cell b && within k n j) AnyWord b
filled_above j k n b high = sym (cond-false _ AnyWord b (right_false (is_cell b) (within k n j) (right_false (nat_le k j) (nat_le j n) (not_most j n high))))

pub filled_kept : (r : Bool) (j k n : ℕ) (b : Held) → r ≡ is_cell b → r ≡ false → b ≡ cond (is_cell b && within k n j) AnyWord b
filled_kept r j k n b is never = sym (cond-false _ AnyWord b (left_false (is_cell b) (within k n j) (sym is ∙ never)))

-- when a routine begins
pub parameter : (n j : ℕ) → 2 ≤ j → j - 2 < n → AnyWord ≡ parameters_set n j
parameter n j low high = sym (cond-true _ AnyWord Nothing (and_true (nat_le 2 j) (nat_lt j (2 + n)) (most_true 2 j low) (less_true j (2 + n) (omega arith))))

pub below_parameters : (n j : ℕ) → j < 2 → Nothing ≡ parameters_set n j
below_parameters n j low = sym (cond-false _ AnyWord Nothing (left_false (nat_le 2 j) (nat_lt j (2 + n)) (not_most 2 j low)))

pub above_parameters : (n j : ℕ) → 2 ≤ j → n ≤ j - 2 → Nothing ≡ parameters_set n j
above_parameters n j low high = sym (cond-false _ AnyWord Nothing (right_false (nat_le 2 j) (nat_lt j (2 + n)) (not_less j (2 + n) (omega arith))))

-- after all entries
one_cell : (e : Entry) (R : Knows) (j : ℕ) → and_entry e (λ i. R j) j ≡ and_entry e R j
one_cell (entries.One k h) R j = refl
one_cell (entries.Cells k n) R j = refl
one_cell (entries.Only k h) R j = refl
one_cell (entries.Filled k n) R j = refl

over_each : (R : Knows) (es : List Entry) (j : ℕ) → held_over es j (R j) ≡ set_over R es j
over_each R [] j = refl
over_each R (e ∷ es) j = ap (held_over es j) (one_cell e R j) ∙ over_each (and_entry e R) es j

pub over_all : (R : Knows) (es : List Entry) (j : ℕ) (h : Held) → h ≡ held_over es j (R j) → h ≡ set_over R es j
over_all R es j h e = e ∙ over_each R es j

pub over_end : (R : Knows) (left es : List Entry) (j : ℕ) (h : Held) → length left < 1 → held_over left j h ≡ held_over es j (R j) → h ≡ set_over R es j
over_end R [] es j h few e = over_all R es j h e
over_end R (d ∷ left) es j h few e = absurd (omega arith)

-- one entry more, and entries more
pub set_more : (R : Knows) (es : List Entry) (e : Entry) → set_over R (es ++ e ∷ []) ≡ and_entry e (set_over R es)
set_more R [] e = refl
set_more R (d ∷ es) e = set_more (and_entry d R) es e

pub set_all_more : (R : Knows) (es ds : List Entry) → set_over R (es ++ ds) ≡ set_over (set_over R es) ds
set_all_more R [] ds = refl
set_all_more R (e ∷ es) ds = set_all_more (and_entry e R) es ds

-- all cells of a range
pub all_none : (test : Held → Bool) (R : Knows) (n k : ℕ) → n ≤ 0 → all_cells test R n k ≡ true
all_none test R zero k h = refl
all_none test R (suc n) k h = absurd (omega arith)

pub all_more : (test : Held → Bool) (R : Knows) (n k : ℕ) (t : Bool) (h : Held) → t ≡ test h → h ≡ R k → t ≡ true → 0 < n → all_cells test R (n - 1) (k + 1) ≡ true → all_cells test R n k ≡ true
all_more test R zero k t h is at sure some rest = absurd (omega arith)
all_more test R (suc n) k t h is at sure some rest = and_true (test (R k)) (all_cells test R n (k + 1)) (sym (is ∙ ap test at) ∙ sure) (subst (λ m. all_cells test R m (k + 1) ≡ true) (omega arith) rest)

pub all_first : (test : Held → Bool) (R : Knows) (b : Bounds) (n : ℕ) → n ≡ b.greatest + 1 - b.least → all_cells test R n b.least ≡ true → all_between test R (Some (bounds_in b)) ≡ true
all_first test R b n e h = subst (λ m. all_cells test R m b.least ≡ true) e h

-- a cell that passes a test
pub cell_set : (R : Knows) (k : ℕ) (h : Held) (t : Bool) → h ≡ R k → t ≡ is_set h → t ≡ true → is_set (R k) ≡ true
cell_set R k h t at is sure = ap is_set (sym at) ∙ (sym is ∙ sure)

pub cell_word : (R : Knows) (k : ℕ) (h : Held) (t : Bool) → h ≡ R k → t ≡ is_word h → t ≡ true → is_word (R k) ≡ true
cell_word R k h t at is sure = ap is_word (sym at) ∙ (sym is ∙ sure)

-- one variable more
pub one_pushed : (R : Knows) (old new : List Entry) (k : ℕ) (h : helds.Held) → new ≡ old ++ entries.One k h ∷ [] → set_over R new ≡ and_also k (held_of h) (set_over R old)
one_pushed R old new k h e = ap (set_over R) e ∙ set_more R old (entries.One k h)

pub all_next : (test : Held → Bool) (R : Knows) (n k : ℕ) (h : Held) → test h ≡ true → h ≡ R k → 0 < n → all_cells test R (n - 1) (k + 1) ≡ true → all_cells test R n k ≡ true
all_next test R n k h pass at some rest = all_more test R n k (test h) h refl at pass some rest
