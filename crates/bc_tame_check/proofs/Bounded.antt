-- Bounds of expressions, and the cells that an address may be.
use Rattle.std.proofs.Common.{◌≡◌, ℕ, ◌+◌, ◌-◌, ◌*◌, ◌<◌, ◌≤◌, Bool, true, false, Option, Some, None, refl, sym, ap, ◌∙◌, subst, arith}
use Rattle.std.specs.Prelude.{nat_lt, nat_le, ◌&&◌, ◌||◌}
use Rattle.std.proofs.lemmas.Bool.{cond-true, cond-false}
use Rattle.std.proofs.lemmas.Bool.Decides.{nat_tests}
use Rattle.bc_word.specs.declared.operator.Op.{Op}
use Rattle.bc_word.specs.declared.operator.Op.TheVariants.{Add, Subtract, Multiply}
use Rattle.bc_core.specs.Tree.{Exp, Num, Frame, Load, Bin}
use Rattle.bc_tame.specs.Tame as tame
use Rattle.bc_tame.specs.Tame.{Held, VectorOf, TableAt, Knows, bounds, bounds_if, bounds_of_held, bounds_of, sum_of, difference_of, product_of, in_vector, element, or_bounds, offsets_at, all_between, in_table, table_element, is_in_table, counted}
use Rattle.bc_tame_check.specs.declared.held.Bounds.{Bounds}
use Rattle.bc_tame_check.specs.declared.held.Held as cells
use Rattle.bc_tame_check.specs.declared.held.Held.TheVariants as holds
use Rattle.bc_tame_check.specs.Views.{bounds_in, held_of, combined, local_in, content_in, element_at}
use Rattle.bc_tame_check.proofs.Tests.{and_true, less_true, most_true}

not_less : (a b : ℕ) → b ≤ a → nat_lt a b ≡ false
not_less a b h = grind (arith, nat_tests)

not_most : (a b : ℕ) → b < a → nat_le a b ≡ false
not_most a b h = grind (arith, nat_tests)

left_false : (a b : Bool) → a ≡ false → (a && b) ≡ false
left_false a b e = ap (λ t. t && b) e

right_false : (a b : Bool) → b ≡ false → (a && b) ≡ false
right_false true b e = e
right_false false b e = refl

if_yes : (t : Bool) (a b l g : ℕ) → t ≡ true → a ≡ l → b ≡ g → Some (bounds a b) ≡ bounds_if t l g
if_yes t a b l g sure e f = (λ i. Some (bounds (e i) (f i))) ∙ sym (cond-true t (Some (bounds l g)) None sure)

if_no : (t : Bool) (l g : ℕ) → t ≡ false → None ≡ bounds_if t l g
if_no t l g never = sym (cond-false t (Some (bounds l g)) None never)

-- sums, differences and products
pub sum_word : (x y : Bounds) (l g : ℕ) → l ≡ x.least + y.least → g ≡ x.greatest + y.greatest → g < 65536 → Some (bounds l g) ≡ sum_of (Some (bounds_in x)) (Some (bounds_in y))
sum_word x y l g e f h = if_yes (nat_lt (x.greatest + y.greatest) 65536) l g _ _ (less_true _ 65536 (subst (λ n. n < 65536) f h)) e f

pub sum_large : (x y : Bounds) (g : ℕ) → g ≡ x.greatest + y.greatest → 65536 ≤ g → None ≡ sum_of (Some (bounds_in x)) (Some (bounds_in y))
sum_large x y g f h = if_no (nat_lt (x.greatest + y.greatest) 65536) _ _ (not_less _ 65536 (subst (λ n. 65536 ≤ n) f h))

pub difference_word : (x y : Bounds) (l g : ℕ) → y.greatest ≤ x.least → l ≡ x.least - y.greatest → g ≡ x.greatest - y.least → Some (bounds l g) ≡ difference_of (Some (bounds_in x)) (Some (bounds_in y))
difference_word x y l g h e f = if_yes (nat_le y.greatest x.least) l g _ _ (most_true _ _ h) e f

pub difference_negative : (x y : Bounds) → x.least < y.greatest → None ≡ difference_of (Some (bounds_in x)) (Some (bounds_in y))
difference_negative x y h = if_no (nat_le y.greatest x.least) _ _ (not_most _ _ h)

pub product_word : (x y : Bounds) (l g : ℕ) → l ≡ x.least * y.least → g ≡ x.greatest * y.greatest → g < 65536 → Some (bounds l g) ≡ product_of (Some (bounds_in x)) (Some (bounds_in y))
product_word x y l g e f h = if_yes (nat_lt (x.greatest * y.greatest) 65536) l g _ _ (less_true _ 65536 (subst (λ n. n < 65536) f h)) e f

pub product_large : (x y : Bounds) (g : ℕ) → g ≡ x.greatest * y.greatest → 65536 ≤ g → None ≡ product_of (Some (bounds_in x)) (Some (bounds_in y))
product_large x y g f h = if_no (nat_lt (x.greatest * y.greatest) 65536) _ _ (not_less _ 65536 (subst (λ n. 65536 ≤ n) f h))

-- what is loaded
local_bounds : Knows → Option ℕ → Option tame.Bounds
local_bounds R None = None
local_bounds R (Some k) = bounds_of_held (R k)

loaded : (R : Knows) (a : Exp) → local_bounds R (local_in a) ≡ bounds_of R (Load a)
unfolding local_bounds
loaded R (Frame k) = refl
loaded R _ = refl

pub loaded_local : (R : Knows) (a : Exp) (k : ℕ) (h : Held) (r : Option tame.Bounds) → local_in a ≡ Some k → h ≡ R k → r ≡ bounds_of_held h → r ≡ bounds_of R (Load a)
unfolding local_bounds
loaded_local R a k h r is at e = e ∙ (ap bounds_of_held at ∙ (ap (local_bounds R) (sym is) ∙ loaded R a))

pub loaded_else : (R : Knows) (a : Exp) → local_in a ≡ None → None ≡ bounds_of R (Load a)
unfolding local_bounds
loaded_else R a is = ap (local_bounds R) (sym is) ∙ loaded R a

operated_is : (R : Knows) (op : Op) (x y : Exp) → combined op (bounds_of R x) (bounds_of R y) ≡ bounds_of R (Bin op x y)
operated_is R Add x y = refl
operated_is R Subtract x y = refl
operated_is R Multiply x y = refl
operated_is R _ x y = refl

pub operated_bounds : (R : Knows) (op : Op) (x y : Exp) (a b r : Option tame.Bounds) → a ≡ bounds_of R x → b ≡ bounds_of R y → r ≡ combined op a b → r ≡ bounds_of R (Bin op x y)
operated_bounds R op x y a b r e f g = g ∙ ((λ i. combined op (e i) (f i)) ∙ operated_is R op x y)

pub number_bounds : (R : Knows) (m n : ℕ) → m ≡ n → nat_lt m 65536 ≡ true → Some (bounds m m) ≡ bounds_of R (Num n)
number_bounds R m n e h = if_yes (nat_lt n 65536) m m n n (subst (λ k. nat_lt k 65536 ≡ true) e h) e e

-- cells of vectors
pub vector_within : (k n : ℕ) (i : Bounds) (f l g : ℕ) → f ≡ k + 1 → l ≡ f + i.least → g ≡ f + i.greatest → i.greatest ≤ n → Some (bounds l g) ≡ in_vector k (VectorOf n) (Some (bounds_in i))
vector_within k n i f l g e p q h = if_yes (nat_le i.greatest n) l g _ _ (most_true _ _ h) (p ∙ ap (λ m. m + i.least) e) (q ∙ ap (λ m. m + i.greatest) e)

pub vector_beyond : (k n : ℕ) (i : Bounds) → n < i.greatest → None ≡ in_vector k (VectorOf n) (Some (bounds_in i))
vector_beyond k n i h = if_no (nat_le i.greatest n) _ _ (not_most _ _ h)

element_is : (R : Knows) (x i : Exp) → element_at R (content_in x) (bounds_of R i) ≡ element R x i
element_is R (Load (Frame k)) i = refl
element_is R (Load _) i = refl
element_is R _ i = refl

pub cells_of_sum : (R : Knows) (x y : Exp) (j k : Option ℕ) (a b o p r : Option tame.Bounds) → j ≡ content_in x → k ≡ content_in y → a ≡ bounds_of R x → b ≡ bounds_of R y
    → o ≡ element_at R j b → p ≡ element_at R k a → r ≡ or_bounds o p → r ≡ offsets_at R (Bin Add x y)
cells_of_sum R x y j k a b o p r ej ek ea eb eo ep er =
    er ∙ (λ i. or_bounds ((eo ∙ ((λ n. element_at R (ej n) (eb n)) ∙ element_is R x y)) i) ((ep ∙ ((λ n. element_at R (ek n) (ea n)) ∙ element_is R y x)) i))

first_is : (R : Knows) (a : Exp) → element_at R (local_in a) (Some (bounds 0 0)) ≡ offsets_at R (Load a)
first_is R (Frame k) = refl
first_is R _ = refl

pub first_cell_of : (R : Knows) (a : Exp) (k : Option ℕ) (r : Option tame.Bounds) → k ≡ local_in a → r ≡ element_at R k (Some (bounds 0 0)) → r ≡ offsets_at R (Load a)
first_cell_of R a k r e f = f ∙ (ap (λ o. element_at R o (Some (bounds 0 0))) e ∙ first_is R a)

pub sum_cells : (R : Knows) (op : Op) (x y : Exp) (r : Option tame.Bounds) → op ≡ Add → r ≡ offsets_at R (Bin Add x y) → r ≡ offsets_at R (Bin op x y)
sum_cells R op x y r e h = h ∙ ap (λ o. offsets_at R (Bin o x y)) (sym e)

-- words of tables
content_table : (ℕ → ℕ) → Knows → Option ℕ → Option tame.Bounds → Bool → Bool
content_table words R None i other = other
content_table words R (Some k) i other = in_table words (R k) i

held_element : (words : ℕ → ℕ) (R : Knows) (e i : Exp) → content_table words R (content_in e) (bounds_of R i) (table_element words R e i) ≡ table_element words R e i
unfolding content_table
held_element words R (Load (Frame k)) i = refl
held_element words R (Load _) i = refl
held_element words R _ i = refl

pub table_held : (words : ℕ → ℕ) (R : Knows) (e : Exp) (k m : ℕ) (h : cells.Held) (i : Exp) → content_in e ≡ Some k → h ≡ holds.TableAt m → held_of h ≡ R k
    → in_table words (TableAt m) (bounds_of R i) ≡ true → table_element words R e i ≡ true
unfolding content_table
table_held words R e k m h i is held at pass =
    sym (held_element words R e i)
    ∙ (ap (λ o. content_table words R o (bounds_of R i) (table_element words R e i)) is
    ∙ (ap (λ x. in_table words x (bounds_of R i)) (sym at) ∙ (ap (λ x. in_table words (held_of x) (bounds_of R i)) held ∙ pass)))

pub table_index : (words : ℕ → ℕ) (m n : ℕ) (i : Bounds) → n ≡ words m → i.greatest < n → in_table words (TableAt m) (Some (bounds_in i)) ≡ true
table_index words m n i e h = less_true i.greatest (words m) (subst (λ k. i.greatest < k) e h)

pub table_element_true : (words : ℕ → ℕ) (R : Knows) (m : ℕ) (i : Exp) (o : Option tame.Bounds) → o ≡ bounds_of R i → in_table words (TableAt m) o ≡ true → in_table words (TableAt m) (bounds_of R i) ≡ true
table_element_true words R m i o e h = subst (λ b. in_table words (TableAt m) b ≡ true) e h

first_word_is : (words : ℕ → ℕ) (R : Knows) (a : Exp) → content_table words R (content_in a) (Some (bounds 0 0)) (is_in_table words R a) ≡ is_in_table words R a
unfolding content_table
first_word_is words R (Load (Frame k)) = refl
first_word_is words R (Load _) = refl
first_word_is words R _ = refl

pub first_word : (words : ℕ → ℕ) (R : Knows) (a : Exp) (k m : ℕ) (h : cells.Held) → content_in a ≡ Some k → h ≡ holds.TableAt m → held_of h ≡ R k
    → in_table words (TableAt m) (Some (bounds 0 0)) ≡ true → is_in_table words R a ≡ true
unfolding content_table
first_word words R a k m h is held at pass =
    sym (first_word_is words R a)
    ∙ (ap (λ o. content_table words R o (Some (bounds 0 0)) (is_in_table words R a)) is
    ∙ (ap (λ x. in_table words x (Some (bounds 0 0))) (sym at) ∙ (ap (λ x. in_table words (held_of x) (Some (bounds 0 0))) held ∙ pass)))

or_left : (a b : Bool) → a ≡ true → (a || b) ≡ true
or_left a b e = ap (λ t. t || b) e

or_right : (a b : Bool) → b ≡ true → (a || b) ≡ true
or_right true b e = refl
or_right false b e = e

pub word_left : (words : ℕ → ℕ) (R : Knows) (op : Op) (x y : Exp) → op ≡ Add → table_element words R x y ≡ true → is_in_table words R (Bin op x y) ≡ true
word_left words R op x y e h = ap (λ o. is_in_table words R (Bin o x y)) e ∙ or_left (table_element words R x y) (table_element words R y x) h

pub word_right : (words : ℕ → ℕ) (R : Knows) (op : Op) (x y : Exp) → op ≡ Add → table_element words R y x ≡ true → is_in_table words R (Bin op x y) ≡ true
word_right words R op x y e h = ap (λ o. is_in_table words R (Bin o x y)) e ∙ or_right (table_element words R x y) (table_element words R y x) h

-- addresses that pass a test
pub cells_pass : (test : Held → Bool) (R : Knows) (words : ℕ → ℕ) (a : Exp) (b : Bounds) → Some (bounds_in b) ≡ offsets_at R a → all_between test R (Some (bounds_in b)) ≡ true
    → (all_between test R (offsets_at R a) || is_in_table words R a) ≡ true
cells_pass test R words a b e h = or_left _ (is_in_table words R a) (subst (λ o. all_between test R o ≡ true) e h)

pub words_pass : (test : Held → Bool) (R : Knows) (words : ℕ → ℕ) (a : Exp) → is_in_table words R a ≡ true → (all_between test R (offsets_at R a) || is_in_table words R a) ≡ true
words_pass test R words a h = or_right (all_between test R (offsets_at R a)) (is_in_table words R a) h

-- what a FOR counts
pub low_yes : (m n : ℕ) (b : Bounds) → m < 32768 → n < 32768 → Some (bounds_in b) ≡ bounds_if (nat_lt m 32768 && nat_lt n 32768) b.least b.greatest
low_yes m n b h k = if_yes (nat_lt m 32768 && nat_lt n 32768) b.least b.greatest _ _ (and_true _ _ (less_true m 32768 h) (less_true n 32768 k)) refl refl

pub low_first : (m n : ℕ) (b : Bounds) → 32768 ≤ m → None ≡ bounds_if (nat_lt m 32768 && nat_lt n 32768) b.least b.greatest
low_first m n b h = if_no (nat_lt m 32768 && nat_lt n 32768) _ _ (left_false _ _ (not_less m 32768 h))

pub low_second : (m n : ℕ) (b : Bounds) → 32768 ≤ n → None ≡ bounds_if (nat_lt m 32768 && nat_lt n 32768) b.least b.greatest
low_second m n b h = if_no (nat_lt m 32768 && nat_lt n 32768) _ _ (right_false _ _ (not_less n 32768 h))

pub counted_down : (a b : Bounds) (by : ℕ) (r : Option tame.Bounds) → 32768 ≤ by → r ≡ bounds_if (nat_lt a.greatest 32768 && nat_lt b.greatest 32768) b.least a.greatest
    → r ≡ counted (Some (bounds_in a)) (Some (bounds_in b)) by
counted_down a b by r h e = e ∙ sym (cond-true (nat_le 32768 by) _ (bounds_if (nat_lt a.greatest 32768 && nat_lt (b.greatest + by) 32768) a.least b.greatest) (most_true 32768 by h))

pub counted_up : (a b : Bounds) (by n : ℕ) (r : Option tame.Bounds) → by < 32768 → n ≡ b.greatest + by → r ≡ bounds_if (nat_lt a.greatest 32768 && nat_lt n 32768) a.least b.greatest
    → r ≡ counted (Some (bounds_in a)) (Some (bounds_in b)) by
counted_up a b by n r h f e =
    e ∙ (ap (λ m. bounds_if (nat_lt a.greatest 32768 && nat_lt m 32768) a.least b.greatest) f
    ∙ sym (cond-false (nat_le 32768 by) (bounds_if (nat_lt a.greatest 32768 && nat_lt b.greatest 32768) b.least a.greatest) _ (not_most 32768 by h)))
