-- The addresses of cells of vectors and of words of tables.
use Rattle.std.proofs.Common.{◌≡◌, ◌⊎◌, inl, inr, ⊎_elim, ℕ, zero, suc, ◌+◌, ◌-◌, ◌*◌, ◌<◌, ◌≤◌, ◌%◌, ◌||◌, List, Bool, true, false, Option, Some, None, refl, sym, ap, ◌∙◌, subst, arith}
use Rattle.std.specs.Prelude.{nat_le, nat_lt}
use Rattle.std.proofs.lemmas.Bool.{cases_lt}
use Rattle.std.proofs.lemmas.Nat.{mul-le}
use Rattle.bc_word.specs.declared.operator.Op.TheVariants as operators
use Rattle.bc_word.proofs.Products.{product_is}
use Rattle.bc_core.specs.Tree.{Exp, Num, Frame, Place, Load, Bin}
use Rattle.bc_core.specs.Outcome.{read}
use Rattle.bc_core.specs.Value.{Context, has_call, sense}
use Rattle.bc_tame.specs.Tame.{Held, Nothing, ACell, AnyWord, StringAt, VectorOf, TableAt, Between, Knows, Bounds, bounds, bounds_if, bounds_of_held, sum_of, difference_of, product_of, bounds_of, in_vector, element, or_bounds, offsets_at, all_cells, all_between, in_table, table_element, is_in_table, is_set, Env}
use Rattle.bc_tame.proofs.Fine.{Sets, Fixed, Readable, Shape, Runs, runs_read_fixed, runs_done, runs_both, both_true, less_true, at_most_true}
use Rattle.bc_tame.proofs.Frames.{HoldsAt, Around, grounded}

-- expressions of constants and FOR variables: their values are known, and within their bounds
pub record Exactly (C : Context) (p s : ℕ) (σ : Shape) (e : Exp) (b : Bounds) : Type 0 where
  pub word : ℕ
  pub low : b.least ≤ word
  pub high : word ≤ b.greatest
  pub small : word < 65536
  pub runs : Runs σ (λ v. v ≡ word) σ (sense C e p s).value

pub loads_fixed : (C : Context) (p s k w : ℕ) (σ : Shape) → σ (p + k) ≡ Fixed w → p + k < 65536 → Runs σ (λ v. v ≡ w) σ (sense C (Load (Frame k)) p s).value
loads_fixed C p s k w σ e lt =
    let same : (p + k) % 65536 ≡ p + k = omega (arith, lt) in
    let run : Runs σ (λ v. v ≡ w) σ (read ((p + k) % 65536)) = rw same (runs_read_fixed σ (p + k) w e) in
    record { from = λ st i. run.from st i }

abbrev bounds_in : Option Bounds → Bounds
bounds_in None = bounds 0 0
bounds_in (Some b) = b

pub if_true : (t : Bool) (least greatest : ℕ) (b : Bounds) → bounds_if t least greatest ≡ Some b → (t ≡ true) × (bounds least greatest ≡ b)
if_true true least greatest b e = (refl, ap bounds_in e)
if_true false least greatest b e = let z : ⊥ = cc in absurd z

exact_sum : (C : Context) (p s : ℕ) (σ : Shape) (x y : Exp) (a b : Bounds) → a.greatest + b.greatest < 65536 → Exactly C p (s + 1) σ x a → Exactly C p (s + 1) σ y b
    → Exactly C p s σ (Bin operators.Add x y) (bounds (a.least + b.least) (a.greatest + b.greatest))
exact_sum C p s σ x y a b lt h k = record {
  word = h.word + k.word;
  low = omega (arith, h.low, k.low);
  high = omega (arith, h.high, k.high);
  small = omega (arith, h.high, k.high, lt);
  runs = runs_both σ σ (λ v. v ≡ h.word) (λ v. v ≡ k.word) (λ v. v ≡ h.word + k.word) (has_call x || has_call y) _ _ _ h.runs k.runs
      (λ i j ei ej. runs_done σ (λ v. v ≡ h.word + k.word) ((i + j) % 65536) (omega (arith, ei, ej, h.high, k.high, lt)));
}

exact_difference : (C : Context) (p s : ℕ) (σ : Shape) (x y : Exp) (a b : Bounds) → b.greatest ≤ a.least → Exactly C p (s + 1) σ x a → Exactly C p (s + 1) σ y b
    → Exactly C p s σ (Bin operators.Subtract x y) (bounds (a.least - b.greatest) (a.greatest - b.least))
exact_difference C p s σ x y a b le h k = record {
  word = h.word - k.word;
  low = omega (arith, h.low, k.high, le);
  high = omega (arith, h.high, k.low);
  small = omega (arith, h.small);
  runs = runs_both σ σ (λ v. v ≡ h.word) (λ v. v ≡ k.word) (λ v. v ≡ h.word - k.word) (has_call x || has_call y) _ _ _ h.runs k.runs
      (λ i j ei ej. runs_done σ (λ v. v ≡ h.word - k.word) ((i + (65536 - j)) % 65536) (omega (arith, ei, ej, h.low, k.high, h.small, k.small, le)));
}

exact_product : (C : Context) (p s : ℕ) (σ : Shape) (x y : Exp) (a b : Bounds) → a.greatest * b.greatest < 65536 → Exactly C p (s + 1) σ x a → Exactly C p (s + 1) σ y b
    → Exactly C p s σ (Bin operators.Multiply x y) (bounds (a.least * b.least) (a.greatest * b.greatest))
exact_product C p s σ x y a b lt h k = record {
  word = h.word * k.word;
  low = mul-le a.least b.least h.word k.word h.low k.low;
  high = up;
  small = low;
  runs = runs_both σ σ (λ v. v ≡ h.word) (λ v. v ≡ k.word) (λ v. v ≡ h.word * k.word) (has_call x || has_call y) _ _ _ h.runs k.runs
      (λ i j ei ej. runs_done σ (λ v. v ≡ h.word * k.word) _ (rw (ei, ej) (sym (product_is h.word k.word h.small k.small) ∙ whole)));
} where
  up : h.word * k.word ≤ a.greatest * b.greatest
  up = mul-le h.word k.word a.greatest b.greatest h.high k.high

  low : h.word * k.word < 65536
  low = omega (arith, up, lt)

  whole : (h.word * k.word) % 65536 ≡ h.word * k.word
  whole = omega (arith, low)

pub exactly : (E : Env) (γ : Shape) (C : Context) (R : Knows) (p s t : ℕ) (σ : Shape) → Around E C.place γ R p t σ → (e : Exp) (b : Bounds) → bounds_of R e ≡ Some b → Exactly C p s σ e b
exactly E γ C R p s t σ h (Num n) b e =
    let i = if_true (nat_lt n 65536) n n b e in
    let lt : n < 65536 = less_true n 65536 i.0 in
    let here : Exactly C p s σ (Num n) (bounds n n) = record { word = n; low = omega arith; high = omega arith; small = lt; runs = runs_done σ (λ v. v ≡ n) n refl } in
    subst (λ z. Exactly C p s σ (Num n) z) i.1 here
exactly E γ C R p s t σ h (Load (Frame k)) b e = by (R k) e (h.holds k) where
  by : (x : Held) → bounds_of_held x ≡ Some b → HoldsAt E.text C.place (σ (p + k)) (p + k) x → Exactly C p s σ (Load (Frame k)) b
  by (Between least greatest) e1 c =
      let run = loads_fixed C p s k c.0.word σ c.0.there c.1 in
      let here : Exactly C p s σ (Load (Frame k)) (bounds least greatest) = record { word = c.0.word; low = c.0.low; high = c.0.high; small = c.0.small; runs = run } in
      subst (λ z. Exactly C p s σ (Load (Frame k)) z) (ap bounds_in e1) here
  by _ e1 c = let z : ⊥ = cc in absurd z
exactly E γ C R p s t σ h (Bin operators.Add x y) b e =
    by (bounds_of R x) (bounds_of R y) e (λ a e1. exactly E γ C R p (s + 1) t σ h x a e1) (λ a e1. exactly E γ C R p (s + 1) t σ h y a e1) where
      by : (o q : Option Bounds) → sum_of o q ≡ Some b → ((a : Bounds) → o ≡ Some a → Exactly C p (s + 1) σ x a) → ((a : Bounds) → q ≡ Some a → Exactly C p (s + 1) σ y a) → Exactly C p s σ (Bin operators.Add x y) b
      by (Some u) (Some v) e1 hx hy =
          let i = if_true (nat_lt (u.greatest + v.greatest) 65536) (u.least + v.least) (u.greatest + v.greatest) b e1 in
          subst (λ z. Exactly C p s σ (Bin operators.Add x y) z) i.1 (exact_sum C p s σ x y u v (less_true (u.greatest + v.greatest) 65536 i.0) (hx u refl) (hy v refl))
      by None q e1 hx hy = let z : ⊥ = cc in absurd z
      by (Some u) None e1 hx hy = let z : ⊥ = cc in absurd z
exactly E γ C R p s t σ h (Bin operators.Subtract x y) b e =
    by (bounds_of R x) (bounds_of R y) e (λ a e1. exactly E γ C R p (s + 1) t σ h x a e1) (λ a e1. exactly E γ C R p (s + 1) t σ h y a e1) where
      by : (o q : Option Bounds) → difference_of o q ≡ Some b → ((a : Bounds) → o ≡ Some a → Exactly C p (s + 1) σ x a) → ((a : Bounds) → q ≡ Some a → Exactly C p (s + 1) σ y a) → Exactly C p s σ (Bin operators.Subtract x y) b
      by (Some u) (Some v) e1 hx hy =
          let i = if_true (nat_le v.greatest u.least) (u.least - v.greatest) (u.greatest - v.least) b e1 in
          subst (λ z. Exactly C p s σ (Bin operators.Subtract x y) z) i.1 (exact_difference C p s σ x y u v (at_most_true v.greatest u.least i.0) (hx u refl) (hy v refl))
      by None q e1 hx hy = let z : ⊥ = cc in absurd z
      by (Some u) None e1 hx hy = let z : ⊥ = cc in absurd z
exactly E γ C R p s t σ h (Bin operators.Multiply x y) b e =
    by (bounds_of R x) (bounds_of R y) e (λ a e1. exactly E γ C R p (s + 1) t σ h x a e1) (λ a e1. exactly E γ C R p (s + 1) t σ h y a e1) where
      by : (o q : Option Bounds) → product_of o q ≡ Some b → ((a : Bounds) → o ≡ Some a → Exactly C p (s + 1) σ x a) → ((a : Bounds) → q ≡ Some a → Exactly C p (s + 1) σ y a) → Exactly C p s σ (Bin operators.Multiply x y) b
      by (Some u) (Some v) e1 hx hy =
          let i = if_true (nat_lt (u.greatest * v.greatest) 65536) (u.least * v.least) (u.greatest * v.greatest) b e1 in
          subst (λ z. Exactly C p s σ (Bin operators.Multiply x y) z) i.1 (exact_product C p s σ x y u v (less_true (u.greatest * v.greatest) 65536 i.0) (hx u refl) (hy v refl))
      by None q e1 hx hy = let z : ⊥ = cc in absurd z
      by (Some u) None e1 hx hy = let z : ⊥ = cc in absurd z
exactly E γ C R p s t σ h _ b e = let z : ⊥ = cc in absurd z

-- the cells of vectors
pub record AtOffset (C : Context) (p s : ℕ) (σ : Shape) (e : Exp) (b : Bounds) : Type 0 where
  pub offset : ℕ
  pub low : b.least ≤ offset
  pub high : offset ≤ b.greatest
  pub runs : Runs σ (λ v. v ≡ (p + offset) % 65536) σ (sense C e p s).value

-- the addresses of a vector's variable and its index, in both orders
record Indexed (C : Context) (p s : ℕ) (σ : Shape) (x y : Exp) (b : Bounds) : Type 0 where
  offset : ℕ
  low : b.least ≤ offset
  high : offset ≤ b.greatest
  base : ℕ
  index : ℕ
  sum : base + index ≡ p + offset
  runs_base : Runs σ (λ v. v ≡ base) σ (sense C x p s).value
  runs_index : Runs σ (λ v. v ≡ index) σ (sense C y p s).value

vector_index : (E : Env) (γ : Shape) (C : Context) (R : Knows) (p s t k : ℕ) (σ : Shape) → Around E C.place γ R p t σ → (y : Exp) (b : Bounds) (x : Held) (o : Option Bounds) → HoldsAt E.text C.place (σ (p + k)) (p + k) x
    → in_vector k x o ≡ Some b → ((a : Bounds) → o ≡ Some a → Exactly C p s σ y a) → Indexed C p s σ (Load (Frame k)) y b
vector_index E γ C R p s t k σ h y b (VectorOf n) (Some a) c e exact =
    let i = if_true (nat_le a.greatest n) (k + 1 + a.least) (k + 1 + a.greatest) b e in
    let x = exact a refl in
    let here : Indexed C p s σ (Load (Frame k)) y (bounds (k + 1 + a.least) (k + 1 + a.greatest)) = record {
      offset = k + 1 + x.word;
      low = omega (arith, x.low);
      high = omega (arith, x.high);
      base = p + k + 1;
      index = x.word;
      sum = omega arith;
      runs_base = loads_fixed C p s k (p + k + 1) σ c.0 (omega (arith, c.1));
      runs_index = x.runs;
    } in
    subst (λ z. Indexed C p s σ (Load (Frame k)) y z) i.1 here
vector_index E γ C R p s t k σ h y b (VectorOf n) None c e exact = let z : ⊥ = cc in absurd z
vector_index E γ C R p s t k σ h y b _ o c e exact = let z : ⊥ = cc in absurd z

at_element : (E : Env) (γ : Shape) (C : Context) (R : Knows) (p s t : ℕ) (σ : Shape) → Around E C.place γ R p t σ → (x y : Exp) (b : Bounds) → element R x y ≡ Some b → Indexed C p s σ x y b
at_element E γ C R p s t σ h (Load (Frame k)) y b e = vector_index E γ C R p s t k σ h y b (R k) (bounds_of R y) (h.holds k) e (λ a e1. exactly E γ C R p s t σ h y a e1)
at_element E γ C R p s t σ h _ y b e = let z : ⊥ = cc in absurd z

pub at_offsets : (E : Env) (γ : Shape) (C : Context) (R : Knows) (p s t : ℕ) (σ : Shape) → Around E C.place γ R p t σ → (e : Exp) (b : Bounds) → offsets_at R e ≡ Some b → AtOffset C p s σ e b
at_offsets E γ C R p s t σ h (Load (Frame k)) b e = by (R k) e (h.holds k) where
  by : (x : Held) → in_vector k x (Some (bounds 0 0)) ≡ Some b → HoldsAt E.text C.place (σ (p + k)) (p + k) x → AtOffset C p s σ (Load (Frame k)) b
  by (VectorOf n) e1 c =
      let i = if_true (nat_le 0 n) (k + 1 + 0) (k + 1 + 0) b e1 in
      let low : p + k < 65536 = omega (arith, c.1) in
      let whole : p + k + 1 ≡ (p + (k + 1 + 0)) % 65536 = omega (arith, c.1) in
      let here : AtOffset C p s σ (Load (Frame k)) (bounds (k + 1 + 0) (k + 1 + 0)) = record {
        offset = k + 1 + 0;
        low = omega arith;
        high = omega arith;
        runs = subst (λ w. Runs σ (λ v. v ≡ w) σ (sense C (Load (Frame k)) p s).value) whole (loads_fixed C p s k (p + k + 1) σ c.0 low);
      } in
      subst (λ z. AtOffset C p s σ (Load (Frame k)) z) i.1 here
  by _ e1 c = let z : ⊥ = cc in absurd z
at_offsets E γ C R p s t σ h (Bin operators.Add x y) b e = by (element R x y) refl e where
  straight : Indexed C p (s + 1) σ x y b → AtOffset C p s σ (Bin operators.Add x y) b
  straight i = record {
    offset = i.offset;
    low = i.low;
    high = i.high;
    runs = runs_both σ σ (λ v. v ≡ i.base) (λ v. v ≡ i.index) (λ v. v ≡ (p + i.offset) % 65536) (has_call x || has_call y) _ _ _ i.runs_base i.runs_index
        (λ m n em en. runs_done σ (λ v. v ≡ (p + i.offset) % 65536) ((m + n) % 65536) (omega (arith, em, en, i.sum)));
  }

  turned : Indexed C p (s + 1) σ y x b → AtOffset C p s σ (Bin operators.Add x y) b
  turned i = record {
    offset = i.offset;
    low = i.low;
    high = i.high;
    runs = runs_both σ σ (λ v. v ≡ i.index) (λ v. v ≡ i.base) (λ v. v ≡ (p + i.offset) % 65536) (has_call x || has_call y) _ _ _ i.runs_index i.runs_base
        (λ m n em en. runs_done σ (λ v. v ≡ (p + i.offset) % 65536) ((m + n) % 65536) (omega (arith, em, en, i.sum)));
  }

  by : (o : Option Bounds) → element R x y ≡ o → or_bounds o (element R y x) ≡ Some b → AtOffset C p s σ (Bin operators.Add x y) b
  by None e1 e2 = turned (at_element E γ C R p (s + 1) t σ h y x b e2)
  by (Some a) e1 e2 = straight (at_element E γ C R p (s + 1) t σ h x y b (e1 ∙ e2))
at_offsets E γ C R p s t σ h _ b e = let z : ⊥ = cc in absurd z

-- the words of tables
pub record AtWord (C : Context) (p s : ℕ) (σ : Shape) (e : Exp) : Type 0 where
  pub address : ℕ
  pub small : address < 65536
  pub sets : σ address ≡ Sets
  pub runs : Runs σ (λ v. v ≡ address) σ (sense C e p s).value

record TableIndex (C : Context) (p s : ℕ) (σ : Shape) (x y : Exp) : Type 0 where
  base : ℕ
  index : ℕ
  small : base + index < 65536
  sets : σ (base + index) ≡ Sets
  runs_base : Runs σ (λ v. v ≡ base) σ (sense C x p s).value
  runs_index : Runs σ (λ v. v ≡ index) σ (sense C y p s).value

table_index : (E : Env) (γ : Shape) (C : Context) (R : Knows) (p s t m : ℕ) (σ : Shape) → Around E C.place γ R p t σ → (x y : Exp) → Runs σ (λ v. v ≡ C.place m) σ (sense C x p s).value
    → (o : Option Bounds) → in_table E.table (TableAt m) o ≡ true → ((a : Bounds) → o ≡ Some a → Exactly C p s σ y a) → TableIndex C p s σ x y
table_index E γ C R p s t m σ h x y run None ok exact = let z : ⊥ = cc in absurd z
table_index E γ C R p s t m σ h x y run (Some a) ok exact =
    let i = exact a refl in
    let lt : a.greatest < E.table m = less_true a.greatest (E.table m) ok in
    let w = (grounded E C.place γ R p t σ h).tables m i.word (omega (arith, i.high, lt)) in
    record { base = C.place m; index = i.word; small = w.1; sets = w.0; runs_base = run; runs_index = i.runs }

held_table : (E : Env) (γ : Shape) (C : Context) (R : Knows) (p s t k : ℕ) (σ : Shape) → Around E C.place γ R p t σ → (y : Exp) (x : Held) (o : Option Bounds) → HoldsAt E.text C.place (σ (p + k)) (p + k) x → in_table E.table x o ≡ true
    → ((a : Bounds) → o ≡ Some a → Exactly C p s σ y a) → TableIndex C p s σ (Load (Frame k)) y
held_table E γ C R p s t k σ h y (TableAt m) o c ok exact = table_index E γ C R p s t m σ h (Load (Frame k)) y (loads_fixed C p s k (C.place m) σ c.0 c.1) o ok exact
held_table E γ C R p s t k σ h y _ o c ok exact = let z : ⊥ = cc in absurd z

at_table_element : (E : Env) (γ : Shape) (C : Context) (R : Knows) (p s t : ℕ) (σ : Shape) → Around E C.place γ R p t σ → (x y : Exp) → table_element E.table R x y ≡ true → TableIndex C p s σ x y
at_table_element E γ C R p s t σ h (Load (Frame k)) y ok = held_table E γ C R p s t k σ h y (R k) (bounds_of R y) (h.holds k) ok (λ a e. exactly E γ C R p s t σ h y a e)
at_table_element E γ C R p s t σ h (Place m) y ok =
    table_index E γ C R p s t m σ h (Place m) y (runs_done σ (λ v. v ≡ C.place m) (C.place m) refl) (bounds_of R y) ok (λ a e. exactly E γ C R p s t σ h y a e)
at_table_element E γ C R p s t σ h _ y ok = let z : ⊥ = cc in absurd z

pub either_true : (a b : Bool) → (a || b) ≡ true → (a ≡ true) ⊎ (b ≡ true)
either_true true b e = inl refl
either_true false b e = inr e

pub at_words : (E : Env) (γ : Shape) (C : Context) (R : Knows) (p s t : ℕ) (σ : Shape) → Around E C.place γ R p t σ → (e : Exp) → is_in_table E.table R e ≡ true → AtWord C p s σ e
at_words E γ C R p s t σ h (Load (Frame k)) ok = by (R k) ok (h.holds k) where
  by : (x : Held) → in_table E.table x (Some (bounds 0 0)) ≡ true → HoldsAt E.text C.place (σ (p + k)) (p + k) x → AtWord C p s σ (Load (Frame k))
  by (TableAt m) ok1 c =
      let w = (grounded E C.place γ R p t σ h).tables m 0 (less_true 0 (E.table m) ok1) in
      let whole : C.place m + 0 ≡ C.place m = omega arith in
      let small : C.place m < 65536 = omega (arith, w.1) in
      record { address = C.place m; small = small; sets = subst (λ z. σ z ≡ Sets) whole w.0; runs = loads_fixed C p s k (C.place m) σ c.0 c.1 }
  by _ ok1 c = let z : ⊥ = cc in absurd z
at_words E γ C R p s t σ h (Bin operators.Add x y) ok =
    ⊎_elim (λ ok1. straight (at_table_element E γ C R p (s + 1) t σ h x y ok1)) (λ ok1. turned (at_table_element E γ C R p (s + 1) t σ h y x ok1))
    (either_true (table_element E.table R x y) (table_element E.table R y x) ok) where
      straight : TableIndex C p (s + 1) σ x y → AtWord C p s σ (Bin operators.Add x y)
      straight i = record {
        address = i.base + i.index;
        small = i.small;
        sets = i.sets;
        runs = runs_both σ σ (λ v. v ≡ i.base) (λ v. v ≡ i.index) (λ v. v ≡ i.base + i.index) (has_call x || has_call y) _ _ _ i.runs_base i.runs_index
            (λ m n em en. runs_done σ (λ v. v ≡ i.base + i.index) ((m + n) % 65536) (omega (arith, em, en, i.small)));
      }

      turned : TableIndex C p (s + 1) σ y x → AtWord C p s σ (Bin operators.Add x y)
      turned i = record {
        address = i.base + i.index;
        small = i.small;
        sets = i.sets;
        runs = runs_both σ σ (λ v. v ≡ i.index) (λ v. v ≡ i.base) (λ v. v ≡ i.base + i.index) (has_call x || has_call y) _ _ _ i.runs_index i.runs_base
            (λ m n em en. runs_done σ (λ v. v ≡ i.base + i.index) ((m + n) % 65536) (omega (arith, em, en, i.small)));
      }
at_words E γ C R p s t σ h _ ok = let z : ⊥ = cc in absurd z

-- cells that pass a test
all_cells_at : (test : Held → Bool) (R : Knows) (n first : ℕ) → all_cells test R n first ≡ true → (j : ℕ) → first ≤ j → j < first + n → test (R j) ≡ true
all_cells_at test R zero first ok j low high = absurd (omega arith)
all_cells_at test R (suc n) first ok j low high =
    let oks = both_true (test (R first)) (all_cells test R n (first + 1)) ok in
    ⊎_elim (λ later. all_cells_at test R n (first + 1) oks.1 j (omega arith) (omega arith)) (λ here. let e : j ≡ first = omega arith in subst (λ z. test (R z) ≡ true) (sym e) oks.0) (cases_lt first j)

pub between_at : (test : Held → Bool) (R : Knows) (b : Bounds) → all_between test R (Some b) ≡ true → (j : ℕ) → b.least ≤ j → j ≤ b.greatest → test (R j) ≡ true
between_at test R b ok j low high = all_cells_at test R (b.greatest + 1 - b.least) b.least ok j low (omega (arith, low, high))

pub passes_at : (E : Env) (γ : Shape) (C : Context) (R : Knows) (p s t : ℕ) (σ : Shape) (test : Held → Bool) → Around E C.place γ R p t σ → (e : Exp) → all_between test R (offsets_at R e) ≡ true
    → (j : ℕ) × ((test (R j) ≡ true) × Runs σ (λ v. v ≡ (p + j) % 65536) σ (sense C e p s).value)
passes_at E γ C R p s t σ test h e ok = by (offsets_at R e) refl ok where
  by : (o : Option Bounds) → offsets_at R e ≡ o → all_between test R o ≡ true → (j : ℕ) × ((test (R j) ≡ true) × Runs σ (λ v. v ≡ (p + j) % 65536) σ (sense C e p s).value)
  by None e1 ok1 = let z : ⊥ = cc in absurd z
  by (Some b) e1 ok1 =
      let i = at_offsets E γ C R p s t σ h e b e1 in
      (i.offset, (all_cells_at test R (b.greatest + 1 - b.least) b.least ok1 i.offset i.low (omega (arith, i.low, i.high)), i.runs))

pub set_readable : (text : ℕ → Option (List ℕ)) (place : ℕ → ℕ) (σ : Shape) (a : ℕ) (x : Held) → is_set x ≡ true → HoldsAt text place (σ a) a x → Readable (σ a) × (a < 65536)
set_readable text place σ a Nothing ok c = let z : ⊥ = cc in absurd z
set_readable text place σ a ACell ok c = let z : ⊥ = cc in absurd z
set_readable text place σ a AnyWord ok c = (rw c.0 tt, c.1)
set_readable text place σ a (StringAt m) ok c = (rw c.0 tt, c.1.0)
set_readable text place σ a (VectorOf n) ok c = (rw c.0 tt, omega (arith, c.1))
set_readable text place σ a (TableAt m) ok c = (rw c.0 tt, c.1)
set_readable text place σ a (Between least greatest) ok c = (rw c.0.there tt, c.1)
