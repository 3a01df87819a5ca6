-- FORs whose variable is known in each round, and those that fill cells of vectors.
use Rattle.std.proofs.Common.{◌≡◌, ◌≢◌, ◌⊎◌, inl, inr, ⊎_elim, ℕ, ◌+◌, ◌-◌, ◌<◌, ◌≤◌, ◌%◌, ◌==◌, ◌||◌, ◌&&◌, [], Bool, true, false, Option, Some, None, refl, sym, ap, ◌∙◌, subst, arith}
use Rattle.std.specs.Prelude.{nat_lt, nat_le, cond}
use Rattle.std.proofs.lemmas.Bool.{cases_lt}
use Rattle.std.proofs.lemmas.Bool.Decides.{nat_tests}
use Rattle.bc_word.specs.declared.operator.Op.TheVariants as operators
use Rattle.bc_core.specs.Tree.{Exp, Frame, Load, Bin}
use Rattle.bc_core.specs.Commands.{Command, Block, block, Items, no_item, command, case, default, label}
use Rattle.bc_core.specs.Commands as commands
use Rattle.bc_core.specs.Level.{side_level}
use Rattle.bc_core.specs.Outcome.{Run}
use Rattle.bc_core.specs.Value.{Context}
use Rattle.bc_core.specs.Exit.{Exit, Past, Broke, Looped, LeftCases, Returned, Resulted, Jumped}
use Rattle.bc_core.specs.Lists.{Beginning, has_label}
use Rattle.bc_core.specs.Loop.{LoopRound, after_body}
use Rattle.bc_core.specs.Command.{perform, perform_block, perform_items}
use Rattle.bc_tame.specs.Tame.{Held, Nothing, AnyWord, VectorOf, Between, Knows, Bounds, bounds, bounds_if, or_bounds, bounds_of, Env, Exits, in_a_loop, in_list, no_exits, is_cell, is_vector, is_cell_or_word, offsets_at, all_between, is_in_table, can_write, tame_exp, tame_filling, tame_block, tame_items, and_also, counted, if_bounds, held_between, has_no_entry, and_where, learned, indexed_by, covers, fills, filled_between, filled}
use Rattle.bc_tame.proofs.Fine.{Kind, Gone, Live, Sets, Fixed, Readable, Writable, Shape, Runs, RunsRound, Refines, refines_same, runs_refined, runs_each, round_leaves, Same, All_are, runs_both, runs_done, runs_then, runs_less, runs_with_cells, both_true, at_most_true, same_true, less_true, differ}
use Rattle.bc_tame.proofs.Frames.{HoldsAt, Around, higher}
use Rattle.bc_tame.proofs.Indices.{Exactly, exactly, AtOffset, if_true, loads_fixed, either_true}
use Rattle.bc_tame.proofs.Expressions.{Sound}
use Rattle.bc_tame.proofs.Shapes.{set_at, live_at, kind_here, kind_there, live_here, live_there, keeps_live, nothing_above, around_kept, around_also, around_kind, cell_or_word}
use Rattle.bc_tame.proofs.Assignments.{Learns, LearnsAt, around_as, refines_kind, holds_set, learns_at, block_ways, runs_list_once}
use Rattle.bc_tame.proofs.Counting.{Course, AnyCourse, course_of, course_up, Upwards, ends_above, counting, runs_for_counted}
use Rattle.bc_tame.proofs.Loops.{Allowed, outside}
use Rattle.bc_tame.proofs.Lists.{Step}

-- ---- FORs
-- a FOR at level s: its cell is live, and nothing is known of it yet
pub record InFor (E : Env) (γ : Shape) (C : Context) (R : Knows) (p s : ℕ) (σ : Shape) : Type 0 where
  pub low : p + s < 65536
  pub room : p + s + 1 ≤ 65536
  pub gone : All_are 1 (p + s) Gone σ
  pub live : live_at 1 (p + s) σ (p + s) ≡ Live
  pub around : Around E C.place γ R p (s + 2) (live_at 1 (p + s) σ)
  pub fresh : R s ≡ Nothing

pub in_for : (E : Env) (γ : Shape) (C : Context) (R : Knows) (p s : ℕ) (σ : Shape) → Around E C.place γ R p s σ → s + 2 ≤ E.size → InFor E γ C R p s σ
in_for E γ C R p s σ h fits =
    let above = nothing_above E C.place γ R p s σ h in
    let gone : All_are 1 (p + s) Gone σ = (λ x up lt. h.gone x up) in
    let none : R s ≡ Nothing = above s (omega arith) in
    record {
      low = omega (arith, fits, h.room);
      room = omega (arith, fits, h.room);
      gone = gone;
      live = live_here 1 (p + s) σ (p + s) (omega arith) (omega arith);
      around = around_kept E C.place γ R p s (s + 2) σ (live_at 1 (p + s) σ) (keeps_live 1 (p + s) σ gone)
          (λ j. ⊎_elim (λ lt. inr (live_there 1 (p + s) σ (p + j) (inl (omega (arith, lt))))) (λ le. inl (above j le)) (cases_lt j s))
          (λ a le. live_there 1 (p + s) σ a (inr (omega (arith, le))) ∙ h.gone a (omega (arith, le))) h;
      fresh = none;
    }

-- the variable of a counted FOR is known in the round of i
pub around_counting : (E : Env) (place : ℕ → ℕ) (γ : Shape) (R : Knows) (p s i least greatest : ℕ) (σ : Shape) → Around E place γ R p (s + 2) σ → σ (p + s) ≡ Live → R s ≡ Nothing → p + s < 65536
    → least ≤ i → i ≤ greatest → i < 65536 → Around E place γ (and_also s (Between least greatest) R) p (s + 2) (counting (p + s) i σ)
around_counting E place γ R p s i least greatest σ h live fresh low ge le word =
    around_also E place γ R p (s + 2) s (Between least greatest) (counting (p + s) i σ) (record { word = i; low = ge; high = le; small = word; there = kind_here (Fixed i) (p + s) σ }, low)
    (around_kind E place γ R p (s + 2) s (Fixed i) σ h (λ r. subst Readable live r) fresh (omega arith))

pub uncounted : (E : Env) (place : ℕ → ℕ) (γ : Shape) (R : Knows) (p s i : ℕ) (σ : Shape) → Around E place γ R p (s + 2) σ → σ (p + s) ≡ Live → R s ≡ Nothing → Around E place γ R p (s + 2) (counting (p + s) i σ)
uncounted E place γ R p s i σ h live fresh = around_kind E place γ R p (s + 2) s (Fixed i) σ h (λ r. subst Readable live r) fresh (omega arith)

-- afterwards only that it was set is known
pub refines_counting : (p s i : ℕ) (σ : Shape) → Refines p (counting (p + s) i σ) (set_at (p + s) σ)
refines_counting p s i σ = record {
  refines = λ a. ⊎_elim (λ ne. inl (kind_there (Fixed i) (p + s) σ a ne ∙ sym (kind_there Sets (p + s) σ a ne)))
      (λ e. inr (omega (arith, e), (subst (λ z. Writable (set_at (p + s) σ z)) (sym e) (rw (kind_here Sets (p + s) σ) tt), subst (λ z. Readable (counting (p + s) i σ z)) (sym e) (rw (kind_here (Fixed i) (p + s) σ) tt))))
      (differ a (p + s));
}

-- the bounds of a counted FOR
pub record Counts (R : Knows) (start limit : Exp) (by : ℕ) (i : Bounds) : Type 0 where
  pub first : Bounds
  pub last : Bounds
  pub starts : bounds_of R start ≡ Some first
  pub ends : bounds_of R limit ≡ Some last
  pub is : counted (Some first) (Some last) by ≡ Some i

pub counts : (R : Knows) (start limit : Exp) (by : ℕ) (i : Bounds) → counted (bounds_of R start) (bounds_of R limit) by ≡ Some i → Counts R start limit by i
counts R start limit by i e = of_both (bounds_of R start) (bounds_of R limit) refl refl e where
  of_both : (o q : Option Bounds) → bounds_of R start ≡ o → bounds_of R limit ≡ q → counted o q by ≡ Some i → Counts R start limit by i
  of_both None q eo eq e1 = let z : ⊥ = cc in absurd z
  of_both (Some a) None eo eq e1 = let z : ⊥ = cc in absurd z
  of_both (Some a) (Some z) eo eq e1 = record { first = a; last = z; starts = eo; ends = eq; is = e1 }

pub bounds_pass : (o : Option Bounds) (test : Bounds → Bool) → if_bounds o test ≡ true → (i : Bounds) × ((o ≡ Some i) × (test i ≡ true))
bounds_pass None test e = let z : ⊥ = cc in absurd z
bounds_pass (Some i) test e = (i, (refl, e))

pub leaves_loop : (J : Exits) (p : ℕ) (σ ρ τ : Shape) (rest : LoopRound) → Refines p σ τ → RunsRound σ ρ τ (Allowed J) rest → (x : Exit) → Allowed (in_a_loop J) x → RunsRound σ ρ τ (Allowed J) (after_body rest x)
leaves_loop J p σ ρ τ rest r h Past a = h
leaves_loop J p σ ρ τ rest r h Looped a = h
leaves_loop J p σ ρ τ rest r h Broke a = round_leaves p σ ρ τ (Allowed J) Past r tt
leaves_loop J p σ ρ τ rest r h LeftCases a = round_leaves p σ ρ τ (Allowed J) LeftCases r a
leaves_loop J p σ ρ τ rest r h Returned a = round_leaves p σ ρ τ (Allowed J) Returned r a
leaves_loop J p σ ρ τ rest r h (Resulted v) a = round_leaves p σ ρ τ (Allowed J) (Resulted v) r a
leaves_loop J p σ ρ τ rest r h (Jumped l) a = round_leaves p σ ρ τ (Allowed J) (Jumped l) r a

-- a FOR whose variable is known in each round, if its body keeps each shape that agrees with that
pub runs_counted : (E : Env) (γ : Shape) (C : Context) (R : Knows) (p s : ℕ) (σ : Shape) (A Q : Exit → Type 0) (start limit : Exp) (by : ℕ) (b : Block) (i : Bounds) → Around E C.place γ R p s σ → s + 2 ≤ E.size → by < 65536
    → Counts R start limit by i
    → ((τ : Shape) → Around E C.place γ (and_also s (held_between i) R) p (s + 2) τ → Runs τ A τ (perform_block C b p (s + 2))) → Q Past
    → ((σ ρ τ : Shape) (rest : LoopRound) → Refines p σ τ → RunsRound σ ρ τ Q rest → (x : Exit) → A x → RunsRound σ ρ τ Q (after_body rest x))
    → Runs σ Q σ (perform C (commands.For start limit by b) p s)
runs_counted E γ C R p s σ A Q start limit by b i h fits word c bodies q leaves =
    runs_with_cells σ σ L (set_at (p + s) L) Q 1 (p + s) _ f.room (live_there 1 (p + s) σ) (live_here 1 (p + s) σ)
    (λ x out. kind_there Sets (p + s) L x (outside (p + s) x out) ∙ live_there 1 (p + s) σ x out) f.gone
    (runs_for_counted C p s by x0.word x1.word i.least i.greatest L (λ j. L) (set_at (p + s) L) k.I A Q start limit (perform_block C b p (s + 2))
    f.low f.live (λ a. refl) x0.small x0.runs x1.runs k.course (λ j now e. refines_counting p s j L) q
    (λ j now ge le small. bodies (counting (p + s) j L) (around_counting E C.place γ R p s j i.least i.greatest L f.around f.live f.fresh f.low ge le small))
    (λ j rest r x a. leaves (counting (p + s) j L) (counting (p + s) ((j + by) % 65536) L) (set_at (p + s) L) rest (refines_counting p s j L) r x a)) where
      f : InFor E γ C R p s σ
      f = in_for E γ C R p s σ h fits

      L : Shape
      L = live_at 1 (p + s) σ

      x0 : Exactly C p (s + 2) (live_at 1 (p + s) σ) start c.first
      x0 = exactly E γ C R p (s + 2) (s + 2) (live_at 1 (p + s) σ) f.around start c.first c.starts

      x1 : Exactly C p (s + 2) (counting (p + s) x0.word (live_at 1 (p + s) σ)) limit c.last
      x1 = exactly E γ C R p (s + 2) (s + 2) (counting (p + s) x0.word (live_at 1 (p + s) σ)) (uncounted E C.place γ R p s x0.word (live_at 1 (p + s) σ) f.around f.live f.fresh) limit c.last c.ends

      k : AnyCourse by x0.word x1.word i
      k = course_of c.first c.last i by x0.word x1.word c.is word x0.low x0.high x1.low x1.high

-- ---- FORs that fill cells
pub past_only : (x : Exit) → Allowed no_exits x → x ≡ Past
past_only Past a = refl
past_only Broke a = let z : ⊥ = cc in absurd z
past_only Looped a = let z : ⊥ = cc in absurd z
past_only LeftCases a = let z : ⊥ = cc in absurd z
past_only Returned a = let z : ⊥ = cc in absurd z
past_only (Resulted v) a = let e : false ≡ true = a.0 in let z : ⊥ = cc in absurd z
past_only (Jumped l) a = let z : ⊥ = cc in absurd z

pub no_label : (is : Items) → has_no_entry is ≡ true → (l : ℕ) → has_label is l ≡ false
no_label no_item once l = refl
no_label (command c is) once l = no_label is once l
no_label (case k is) once l = let z : ⊥ = cc in absurd z
no_label (default is) once l = let z : ⊥ = cc in absurd z
no_label (label k is) once l = let z : ⊥ = cc in absurd z

pub list_past_only : (is : Items) → has_no_entry is ≡ true → (x : Exit) → Allowed (in_list is no_exits) x → x ≡ Past
list_past_only is once Past a = refl
list_past_only is once Broke a = let z : ⊥ = cc in absurd z
list_past_only is once Looped a = let z : ⊥ = cc in absurd z
list_past_only is once LeftCases a = let z : ⊥ = cc in absurd z
list_past_only is once Returned a = let z : ⊥ = cc in absurd z
list_past_only is once (Resulted v) a = let e : false ≡ true = a.0 in let z : ⊥ = cc in absurd z
list_past_only is once (Jumped l) a = let e : (false || false) ≡ true = subst (λ t. (t || false) ≡ true) (no_label is once l) a in let z : ⊥ = cc in absurd z

-- a list assigns `V!I`, where V and I are the variables at these offsets
abbrev pub Assigns : (variable vector : ℕ) → Items → Type 0
Assigns v k (command (commands.Assign e a) is) = (indexed_by v a ≡ Some k) ⊎ Assigns v k is
Assigns v k (command c is) = Assigns v k is
Assigns v k _ = ⊥

pub record FillsAt (R : Knows) (v first last : ℕ) (is : Items) (j : ℕ) : Type 0 where
  pub vector : ℕ
  pub size : ℕ
  pub holds : R vector ≡ VectorOf size
  pub low : vector + 1 + first ≤ j
  pub high : j ≤ vector + 1 + last
  pub assigns : Assigns v vector is

pub vector_is : (x : Held) → is_vector x ≡ true → (n : ℕ) × (x ≡ VectorOf n)
vector_is (VectorOf n) e = (n, refl)
vector_is _ e = let z : ⊥ = cc in absurd z

pub covers_at : (R : Knows) (k first last j : ℕ) → covers R (Some k) first last j ≡ true → (n : ℕ) × ((R k ≡ VectorOf n) × ((k + 1 + first ≤ j) × (j ≤ k + 1 + last)))
covers_at R k first last j e =
    let a = both_true (is_vector (R k)) (nat_le (k + 1 + first) j && nat_le j (k + 1 + last)) e in
    let b = both_true (nat_le (k + 1 + first) j) (nat_le j (k + 1 + last)) a.1 in
    let n = vector_is (R k) a.0 in
    (n.0, (n.1, (at_most_true (k + 1 + first) j b.0, at_most_true j (k + 1 + last) b.1)))

pub fills_at : (R : Knows) (v first last : ℕ) (is : Items) (j : ℕ) → fills R v first last is j ≡ true → FillsAt R v first last is j
fills_at R v first last (command (commands.Assign e a) is) j ok = by (λ ok1. fills_at R v first last is j ok1) (either_true (covers R (indexed_by v a) first last j) (fills R v first last is j) ok) where
  here : (o : Option ℕ) → indexed_by v a ≡ o → covers R o first last j ≡ true → FillsAt R v first last (command (commands.Assign e a) is) j
  here None eo ok1 = let z : ⊥ = cc in absurd z
  here (Some k) eo ok1 = let c = covers_at R k first last j ok1 in record { vector = k; size = c.0; holds = c.1.0; low = c.1.1.0; high = c.1.1.1; assigns = inl eo }

  by : (fills R v first last is j ≡ true → FillsAt R v first last is j) → (covers R (indexed_by v a) first last j ≡ true) ⊎ (fills R v first last is j ≡ true) → FillsAt R v first last (command (commands.Assign e a) is) j
  by next (inl ok1) = here (indexed_by v a) refl ok1
  by next (inr ok1) = let f = next ok1 in record { vector = f.vector; size = f.size; holds = f.holds; low = f.low; high = f.high; assigns = inr f.assigns }
fills_at R v first last (command c is) j ok = let f = fills_at R v first last is j ok in record { vector = f.vector; size = f.size; holds = f.holds; low = f.low; high = f.high; assigns = f.assigns }
fills_at R v first last _ j ok = let z : ⊥ = cc in absurd z

abbrev offset_in : Option ℕ → ℕ
offset_in None = 0
offset_in (Some k) = k

pub indexed_is : (v k : ℕ) (a : Exp) → indexed_by v a ≡ Some k → a ≡ Bin operators.Add (Load (Frame k)) (Load (Frame v))
indexed_is v k (Bin operators.Add (Load (Frame j)) (Load (Frame w))) e = by (v == w) refl e where
  by : (t : Bool) → (v == w) ≡ t → cond t (Some j) None ≡ Some k → Bin operators.Add (Load (Frame j)) (Load (Frame w)) ≡ Bin operators.Add (Load (Frame k)) (Load (Frame v))
  by true same e1 =
      let ej : j ≡ k = ap offset_in e1 in
      let ew : w ≡ v = sym (same_true v w same) in
      ap (λ z. Bin operators.Add (Load (Frame z)) (Load (Frame w))) ej ∙ ap (λ z. Bin operators.Add (Load (Frame k)) (Load (Frame z))) ew
  by false other e1 = let z : ⊥ = cc in absurd z
indexed_is v k _ e = let z : ⊥ = cc in absurd z

-- such an assignment, in the round of i
pub at_index : (C : Context) (p t k v i : ℕ) (σ : Shape) (b : Bounds) → σ (p + k) ≡ Fixed (p + k + 1) → p + k < 65536 → σ (p + v) ≡ Fixed i → p + v < 65536 → b.least ≤ k + 1 + i → k + 1 + i ≤ b.greatest
    → AtOffset C p t σ (Bin operators.Add (Load (Frame k)) (Load (Frame v))) b
at_index C p t k v i σ b ek lk ev lv low high = record {
  offset = k + 1 + i;
  low = low;
  high = high;
  runs = runs_both σ σ (λ x. x ≡ p + k + 1) (λ x. x ≡ i) (λ x. x ≡ (p + (k + 1 + i)) % 65536) (false || false) _ _ _ (loads_fixed C p (t + 1) k (p + k + 1) σ ek lk) (loads_fixed C p (t + 1) v i σ ev lv)
      (λ m n em en. runs_done σ (λ x. x ≡ (p + (k + 1 + i)) % 65536) ((m + n) % 65536) (omega (arith, em, en)));
}

pub or_none : (o : Option Bounds) → or_bounds o None ≡ o
or_none None = refl
or_none (Some b) = refl

pub fixed_word : Kind → ℕ
fixed_word (Fixed w) = w
fixed_word _ = 0

pub fill_runs : (E : Env) (γ : Shape) (C : Context) (R : Knows) (p s : ℕ) (σ : Shape) → Sound E γ C → Around E C.place γ R p s σ → (e a : Exp) (k v i n least greatest : ℕ) → a ≡ Bin operators.Add (Load (Frame k)) (Load (Frame v))
    → R k ≡ VectorOf n → R v ≡ Between least greatest → σ (p + v) ≡ Fixed i → least ≤ i → i ≤ greatest → can_write E R a ≡ true → tame_exp E R e (side_level a s) ≡ true
    → LearnsAt E γ C (learned E R (commands.Assign e a)) p s (p + (k + 1 + i)) σ (perform C (commands.Assign e a) p s)
unfolding at_index
fill_runs E γ C R p s σ sound h e a k v i n least greatest ea ek ev fixed low high =
    subst (λ x. can_write E R x ≡ true → tame_exp E R e (side_level x s) ≡ true → LearnsAt E γ C (learned E R (commands.Assign e x)) p s (p + (k + 1 + i)) σ (perform C (commands.Assign e x) p s)) (sym ea) main where
      offsets : offsets_at R (Bin operators.Add (Load (Frame k)) (Load (Frame v))) ≡ bounds_if (nat_le greatest n) (k + 1 + least) (k + 1 + greatest)
      offsets = rw (ek, ev) (or_none (bounds_if (nat_le greatest n) (k + 1 + least) (k + 1 + greatest)))

      no_table : is_in_table E.table R (Bin operators.Add (Load (Frame k)) (Load (Frame v))) ≡ false
      no_table = rw (ek, ev) refl

      pointer : (σ (p + k) ≡ Fixed (p + k + 1)) × (p + k + 1 < 65536)
      pointer = subst (λ x. HoldsAt E.text C.place (σ (p + k)) (p + k) x) ek (h.holds k)

      counter : p + v < 65536
      counter = (subst (λ x. HoldsAt E.text C.place (σ (p + v)) (p + v) x) ev (h.holds v)).1

      of_test : (t : Bool) → offsets_at R (Bin operators.Add (Load (Frame k)) (Load (Frame v))) ≡ bounds_if t (k + 1 + least) (k + 1 + greatest) → all_between is_cell_or_word R (bounds_if t (k + 1 + least) (k + 1 + greatest)) ≡ true
          → tame_exp E R e (side_level (Bin operators.Add (Load (Frame k)) (Load (Frame v))) s) ≡ true
          → LearnsAt E γ C (learned E R (commands.Assign e (Bin operators.Add (Load (Frame k)) (Load (Frame v))))) p s (p + (k + 1 + i)) σ (perform C (commands.Assign e (Bin operators.Add (Load (Frame k)) (Load (Frame v)))) p s)
      of_test false eo can ok = let z : ⊥ = cc in absurd z
      of_test true eo can ok =
          learns_at E γ C R p s σ sound h e (Bin operators.Add (Load (Frame k)) (Load (Frame v))) (bounds (k + 1 + least) (k + 1 + greatest)) eo can ok
          (at_index C p (side_level (Bin operators.Add (Load (Frame k)) (Load (Frame v))) s) k v i σ (bounds (k + 1 + least) (k + 1 + greatest)) pointer.0 (omega (arith, pointer.1)) fixed counter (omega (arith, low)) (omega (arith, high)))

      main : can_write E R (Bin operators.Add (Load (Frame k)) (Load (Frame v))) ≡ true → tame_exp E R e (side_level (Bin operators.Add (Load (Frame k)) (Load (Frame v))) s) ≡ true
          → LearnsAt E γ C (learned E R (commands.Assign e (Bin operators.Add (Load (Frame k)) (Load (Frame v))))) p s (p + (k + 1 + i)) σ (perform C (commands.Assign e (Bin operators.Add (Load (Frame k)) (Load (Frame v)))) p s)
      main can ok =
          let cells : all_between is_cell_or_word R (offsets_at R (Bin operators.Add (Load (Frame k)) (Load (Frame v)))) ≡ true = ⊎_elim (λ x. x) (λ x. let z : ⊥ = cc in absurd z)
          (either_true (all_between is_cell_or_word R (offsets_at R (Bin operators.Add (Load (Frame k)) (Load (Frame v))))) (is_in_table E.table R (Bin operators.Add (Load (Frame k)) (Load (Frame v)))) can) in
          of_test (nat_le greatest n) offsets (subst (λ o. all_between is_cell_or_word R o ≡ true) offsets cells) ok

pub refines_set : (p c : ℕ) (τ σ : Shape) → Refines p τ σ → Refines p (set_at c τ) (set_at c σ)
refines_set p c τ σ r = record {
  refines = λ a. ⊎_elim (λ ne. subst (λ z. (set_at c τ a ≡ z) ⊎ ((p ≤ a) × (Writable z × Readable (set_at c τ a)))) (sym (kind_there Sets c σ a ne)) (subst (λ z. (z ≡ σ a) ⊎ ((p ≤ a) × (Writable (σ a) × Readable z))) (sym (kind_there Sets c τ a ne)) (r.refines a)))
      (λ e. inl (ap (set_at c τ) e ∙ kind_here Sets c τ ∙ sym (kind_here Sets c σ) ∙ ap (set_at c σ) (sym e))) (differ a c);
}

pub refines_was_set : (p c : ℕ) (τ σ : Shape) → Refines p τ σ → Readable (τ c) → p ≤ c → Refines p τ (set_at c σ)
refines_was_set p c τ σ r set le = record {
  refines = λ a. ⊎_elim (λ ne. subst (λ z. (τ a ≡ z) ⊎ ((p ≤ a) × (Writable z × Readable (τ a)))) (sym (kind_there Sets c σ a ne)) (r.refines a))
      (λ e. inr (omega (arith, e, le), (subst (λ z. Writable (set_at c σ z)) (sym e) (rw (kind_here Sets c σ) tt), subst (λ z. Readable (τ z)) (sym e) set))) (differ a c);
}

-- the rest of a list whose commands all go past
pub runs_past : (J : Exits) (σ τ : Shape) (r : Run Exit) → ((x : Exit) → Allowed J x → x ≡ Past) → Runs σ (Allowed J) τ r → Runs σ (λ x. x ≡ Past) τ r
runs_past J σ τ r only h = runs_less σ τ (Allowed J) (λ x. x ≡ Past) r h only

pub until_later : (E : Env) (γ : Shape) (C : Context) (R : Knows) (J : Exits) (p s c : ℕ) (σ : Shape) (x : Command) (is : Items) → ((x : Exit) → Allowed J x → x ≡ Past) → (st : Step E γ C R J p s σ x is)
    → Runs st.shape (λ x. x ≡ Past) (set_at c st.shape) (perform_items C is p s Beginning) → Runs σ (λ x. x ≡ Past) (set_at c σ) (perform_items C (command x is) p s Beginning)
until_later E γ C R J p s c σ x is only st run =
    runs_then σ st.shape (set_at c σ) (λ x. x ≡ Past) (λ x. x ≡ Past) _ _ (runs_past J σ st.shape _ only st.runs)
    (λ y e. rw e (runs_refined p st.shape (set_at c st.shape) (set_at c σ) (λ x. x ≡ Past) _ (refines_set p c st.shape σ st.refines) run))

pub until_now : (E : Env) (γ : Shape) (C : Context) (Q : Knows) (J : Exits) (p s c : ℕ) (σ : Shape) (x : Command) (is : Items) → ((x : Exit) → Allowed J x → x ≡ Past) → p ≤ c → (l : LearnsAt E γ C Q p s c σ (perform C x p s))
    → Runs l.learns.shape (Allowed J) l.learns.shape (perform_items C is p s Beginning) → Runs σ (λ x. x ≡ Past) (set_at c σ) (perform_items C (command x is) p s Beginning)
until_now E γ C Q J p s c σ x is only le l run =
    let τ : Shape = l.learns.shape in
    runs_then σ τ (set_at c σ) (λ x. x ≡ Past) (λ x. x ≡ Past) _ _ l.learns.runs
    (λ y e. rw e (runs_refined p τ τ (set_at c σ) (λ x. x ≡ Past) _ (refines_was_set p c τ σ l.learns.refines l.is_set le) (runs_past J τ τ _ only run)))

-- a cell of a vector is set
pub around_set : (E : Env) (place : ℕ → ℕ) (γ : Shape) (R : Knows) (p t j : ℕ) (σ : Shape) → is_cell (R j) ≡ true → Around E place γ R p t σ → Around E place γ R p t (set_at (p + j) σ)
around_set E place γ R p t j σ cell h =
    let test : is_cell_or_word (R j) ≡ true = rw cell refl in
    let c = cell_or_word E.text place (σ (p + j)) (p + j) (R j) test (h.holds j) in
    around_as E place γ R R p t σ (set_at (p + j) σ) (refines_kind p j Sets σ c.0 tt)
    (λ i. ⊎_elim (λ ne. subst (λ z. HoldsAt E.text place z (p + i) (R i)) (sym (kind_there Sets (p + j) σ (p + i) (λ e. ne (omega (arith, e))))) (h.holds i))
    (λ e. subst (λ z. HoldsAt E.text place (set_at (p + j) σ (p + z)) (p + z) (R z)) (sym e) (subst (λ z. HoldsAt E.text place z (p + j) (R j)) (sym (kind_here Sets (p + j) σ)) (holds_set E.text place (p + j) (R j) test c.1))) (differ i j)) h

-- how a FOR that fills cells passes
pub record PassesFilling (E : Env) (R : Knows) (start limit : Exp) (by : ℕ) (b : Block) (s : ℕ) : Type 0 where
  pub one : by ≡ 1
  pub fits : s + 2 ≤ E.size
  pub between : Bounds
  pub counts : Counts R start limit by between
  pub body : tame_block E (and_also s (held_between between) R) no_exits b (s + 2) ≡ true

pub passes_filling : (E : Env) (R : Knows) (start limit : Exp) (by : ℕ) (b : Block) (s : ℕ) → tame_filling E R (commands.For start limit by b) s ≡ true → PassesFilling E R start limit by b s
passes_filling E R start limit by b s ok =
    let test : Bounds → Bool = λ i. tame_block E (and_also s (held_between i) R) no_exits b (s + 2) in
    let a = both_true (by == 1) (nat_le (s + 2) E.size && if_bounds (counted (bounds_of R start) (bounds_of R limit) by) (λ i. tame_block E (and_also s (held_between i) R) no_exits b (s + 2))) ok in
    let c = both_true (nat_le (s + 2) E.size) (if_bounds (counted (bounds_of R start) (bounds_of R limit) by) (λ i. tame_block E (and_also s (held_between i) R) no_exits b (s + 2))) a.1 in
    let i = bounds_pass (counted (bounds_of R start) (bounds_of R limit) by) (λ i. tame_block E (and_also s (held_between i) R) no_exits b (s + 2)) c.1 in
    record { one = same_true by 1 a.0; fits = at_most_true (s + 2) E.size c.0; between = i.0; counts = counts R start limit by i.0 i.1.0; body = i.1.1 }

-- its body keeps each shape
abbrev pub Bodies : Env → Shape → Context → ℕ → ℕ → Block → Type 0
Bodies E γ C p t b = (Q : Knows) (τ : Shape) → Around E C.place γ Q p t τ → tame_block E Q no_exits b t ≡ true → Runs τ (Allowed no_exits) τ (perform_block C b p t)

-- and its list sets the cells that are indexed by its variable
abbrev pub Untils : Env → Shape → Context → (p s : ℕ) → Items → Type 0
Untils E γ C p s is =
    (Q : Knows) (τ : Shape) → Around E C.place γ Q p (s + 2 + 0) τ → has_no_entry is ≡ true → tame_items E Q (in_list is no_exits) is (s + 2 + 0) ≡ true
    → (k i n least greatest : ℕ) → Assigns s k is → Q k ≡ VectorOf n → Q s ≡ Between least greatest → least ≤ i → i ≤ greatest → τ (p + s) ≡ Fixed i
    → Runs τ (λ x. x ≡ Past) (set_at (p + (k + 1 + i)) τ) (perform_items C is p (s + 2 + 0) Beginning)

pub stays_in_loop : (σ ρ τ : Shape) (rest : LoopRound) → RunsRound σ ρ τ (λ x. x ≡ Past) rest → (x : Exit) → x ≡ Past → RunsRound σ ρ τ (λ x. x ≡ Past) (after_body rest x)
stays_in_loop σ ρ τ rest h x e = rw e h

pub filling_plain : (E : Env) (γ : Shape) (C : Context) (R : Knows) (p s : ℕ) (σ : Shape) (start limit : Exp) (by : ℕ) (b : Block) → Around E C.place γ R p s σ → Bodies E γ C p (s + 2) b
    → PassesFilling E R start limit by b s → Runs σ (λ x. x ≡ Past) σ (perform C (commands.For start limit by b) p s)
filling_plain E γ C R p s σ start limit by b h bodies f =
    runs_counted E γ C R p s σ (λ x. x ≡ Past) (λ x. x ≡ Past) start limit by b f.between h f.fits (omega (arith, f.one)) f.counts
    (λ τ t. runs_less τ τ (Allowed no_exits) (λ x. x ≡ Past) _ (bodies (and_also s (held_between f.between) R) τ t f.body) past_only) refl
    (λ σ1 ρ1 τ1 rest r run x e. stays_in_loop σ1 ρ1 τ1 rest run x e)

-- the facts of a FOR that counts up by 1
pub record CountsUp (a z i : Bounds) (by : ℕ) : Type 0 where
  pub up : nat_le 32768 by ≡ false
  pub small : a.greatest < 32768
  pub top : z.greatest + by < 32768
  pub least : i.least ≡ a.least
  pub greatest : i.greatest ≡ z.greatest

pub counts_up : (a z i : Bounds) (by : ℕ) → by ≡ 1 → counted (Some a) (Some z) by ≡ Some i → CountsUp a z i by
counts_up a z i by one e =
    let up : nat_le 32768 by ≡ false = rw one refl in
    let e1 : bounds_if (nat_lt a.greatest 32768 && nat_lt (z.greatest + by) 32768) a.least z.greatest ≡ Some i =
    subst (λ t. cond t (bounds_if (nat_lt a.greatest 32768 && nat_lt z.greatest 32768) z.least a.greatest) (bounds_if (nat_lt a.greatest 32768 && nat_lt (z.greatest + by) 32768) a.least z.greatest) ≡ Some i) up e in
    let k = if_true (nat_lt a.greatest 32768 && nat_lt (z.greatest + by) 32768) a.least z.greatest i e1 in
    let b = both_true (nat_lt a.greatest 32768) (nat_lt (z.greatest + by) 32768) k.0 in
    record { up = up; small = less_true a.greatest 32768 b.0; top = less_true (z.greatest + by) 32768 b.1; least = sym (ap (λ (q : Bounds). q.least) k.1); greatest = sym (ap (λ (q : Bounds). q.greatest) k.1) }

-- a cell is set once the round of m is over
pub once_past : (m c : ℕ) (L : Shape) (i : ℕ) → Shape
once_past m c L i = elim (nat_lt m i) as (λ z. Shape) [ true ↦ set_at c L | false ↦ L ]

pub is_past : (m c : ℕ) (L : Shape) (i : ℕ) → m < i → once_past m c L i ≡ set_at c L
unfolding once_past
is_past m c L i lt = let e : nat_lt m i ≡ true = grind (arith, nat_tests) in rw (e, once_past) refl

pub not_past : (m c : ℕ) (L : Shape) (i : ℕ) → i ≤ m → once_past m c L i ≡ L
unfolding once_past
not_past m c L i le = let e : nat_lt m i ≡ false = grind (arith, nat_tests) in rw (e, once_past) refl

pub either_past : (m i : ℕ) → (m < i) ⊎ (i ≤ m)
either_past m i = cases_lt m i

-- one cell that such a FOR fills
pub filling_one : (E : Env) (γ : Shape) (C : Context) (R : Knows) (p s j : ℕ) (σ : Shape) (start limit : Exp) (by : ℕ) (is : Items) → Around E C.place γ R p s σ → Bodies E γ C p (s + 2) (block [] is) → Untils E γ C p s is
    → (f : PassesFilling E R start limit by (block [] is) s) → has_no_entry is ≡ true → is_cell (R j) ≡ true → FillsAt R s f.counts.first.greatest f.counts.last.least is j
    → Runs σ (λ x. x ≡ Past) (set_at (p + j) σ) (perform C (commands.For start limit by (block [] is)) p s)
filling_one E γ C R p s j σ start limit by is h bodies untils f once cell g =
    runs_with_cells σ (set_at (p + j) σ) L (set_at (p + s) (set_at (p + j) L)) (λ x. x ≡ Past) 1 (p + s) _ F.room (live_there 1 (p + s) σ) (live_here 1 (p + s) σ) same gone
    (runs_for_counted C p s by x0.word x1.word f.between.least f.between.greatest L β (set_at (p + s) (set_at (p + j) L)) (Upwards x0.word) (λ x. x ≡ Past) (λ x. x ≡ Past) start limit (perform_block C (block [] is) p (s + 2))
    F.low F.live (λ a. ap (λ (z : Shape). z a) (not_past m (p + j) L x0.word before)) x0.small x0.runs x1.runs course
    (λ i now e. let over : x1.word < i = ends_above by i x1.word u.up now.1 (omega (arith, x1.high, u.top)) e in
    let late : m < i = omega (arith, over, within) in
    subst (λ z. Refines p (counting (p + s) i z) (set_at (p + s) (set_at (p + j) L))) (sym (is_past m (p + j) L i late)) (refines_counting p s i (set_at (p + j) L)))
    refl round
    (λ i rest r x e. stays_in_loop _ _ _ rest r x e)) where
      L : Shape
      L = live_at 1 (p + s) σ

      F : InFor E γ C R p s σ
      F = in_for E γ C R p s σ h f.fits

      R1 : Knows
      R1 = and_also s (held_between f.between) R

      m : ℕ
      m = j - (g.vector + 1)

      is_m : g.vector + 1 + m ≡ j
      is_m = omega (arith, g.low)

      β : ℕ → Shape
      β i = once_past m (p + j) L i

      c : Counts R start limit by f.between
      c = f.counts

      u : CountsUp c.first c.last f.between by
      u = counts_up c.first c.last f.between by f.one c.is

      apart : p + j ≢ p + s
      apart e =
          let here : j ≡ s = omega (arith, e) in
          let fresh : R j ≡ Nothing = ap R here ∙ F.fresh in
          let none : is_cell Nothing ≡ true = subst (λ x. is_cell x ≡ true) fresh cell in
          let z : ⊥ = cc in z

      below : j < s
      below = ⊎_elim (λ lt. lt) (λ le. let nothing = nothing_above E C.place γ R p s σ h j le in let none : is_cell Nothing ≡ true = subst (λ x. is_cell x ≡ true) nothing cell in let z : ⊥ = cc in absurd z) (cases_lt j s)

      L_set : Around E C.place γ R p (s + 2) (set_at (p + j) L)
      L_set = around_set E C.place γ R p (s + 2) j L cell F.around

      live_set : set_at (p + j) L (p + s) ≡ Live
      live_set = kind_there Sets (p + j) L (p + s) (λ e. apart (sym e)) ∙ F.live

      β_around : (i : ℕ) → Around E C.place γ R p (s + 2) (β i)
      β_around i = ⊎_elim (λ lt. subst (λ z. Around E C.place γ R p (s + 2) z) (sym (is_past m (p + j) L i lt)) L_set) (λ le. subst (λ z. Around E C.place γ R p (s + 2) z) (sym (not_past m (p + j) L i le)) F.around) (either_past m i)

      β_live : (i : ℕ) → β i (p + s) ≡ Live
      β_live i = ⊎_elim (λ lt. ap (λ (z : Shape). z (p + s)) (is_past m (p + j) L i lt) ∙ live_set) (λ le. ap (λ (z : Shape). z (p + s)) (not_past m (p + j) L i le) ∙ F.live) (either_past m i)

      x0 : Exactly C p (s + 2) L start c.first
      x0 = exactly E γ C R p (s + 2) (s + 2) L F.around start c.first c.starts

      x1 : Exactly C p (s + 2) (counting (p + s) x0.word (β x0.word)) limit c.last
      x1 = exactly E γ C R p (s + 2) (s + 2) (counting (p + s) x0.word (β x0.word)) (uncounted E C.place γ R p s x0.word (β x0.word) (β_around x0.word) (β_live x0.word) F.fresh) limit c.last c.ends

      before : x0.word ≤ m
      before = omega (arith, x0.high, g.low)

      within : m ≤ x1.word
      within = omega (arith, x1.low, g.high)

      course : Course by x0.word x1.word f.between.least f.between.greatest (Upwards x0.word)
      course = course_up by x0.word x1.word f.between.least f.between.greatest u.up (omega (arith, u.least, x0.low)) (omega (arith, x0.high, u.small)) (omega (arith, u.greatest, x1.high)) (omega (arith, u.greatest, u.top))

      same : Same 1 (p + s) (set_at (p + j) σ) (set_at (p + s) (set_at (p + j) L))
      same b out = kind_there Sets (p + s) (set_at (p + j) L) b (outside (p + s) b out)
          ∙ ⊎_elim (λ ne. kind_there Sets (p + j) L b ne ∙ live_there 1 (p + s) σ b out ∙ sym (kind_there Sets (p + j) σ b ne))
          (λ e. ap (set_at (p + j) L) e ∙ kind_here Sets (p + j) L ∙ sym (kind_here Sets (p + j) σ) ∙ ap (set_at (p + j) σ) (sym e)) (differ b (p + j))

      gone : All_are 1 (p + s) Gone (set_at (p + j) σ)
      gone b up lt = kind_there Sets (p + j) σ b (λ e. omega (arith, e, up, below)) ∙ F.gone b up lt

      vector : R1 g.vector ≡ VectorOf g.size
      vector =
          let other : (g.vector == s) ≡ false = (let ne : g.vector < s = omega (arith, below, g.low) in grind (arith, nat_tests)) in
          rw other g.holds

      variable : R1 s ≡ Between f.between.least f.between.greatest
      variable = let here : (s == s) ≡ true = grind (arith, nat_tests) in rw here refl

      -- the round of m
      refined : (i : ℕ) → Refines p (set_at (p + j) (counting (p + s) i L)) (counting (p + s) i (set_at (p + j) L))
      refined i = record {
        refines = λ a. inl (⊎_elim
            (λ ne. kind_there Sets (p + j) (counting (p + s) i L) a ne
            ∙ ⊎_elim (λ ns. kind_there (Fixed i) (p + s) L a ns ∙ sym (kind_there Sets (p + j) L a ne) ∙ sym (kind_there (Fixed i) (p + s) (set_at (p + j) L) a ns))
            (λ es. ap (counting (p + s) i L) es ∙ kind_here (Fixed i) (p + s) L ∙ sym (kind_here (Fixed i) (p + s) (set_at (p + j) L)) ∙ ap (counting (p + s) i (set_at (p + j) L)) (sym es)) (differ a (p + s)))
            (λ e. ap (set_at (p + j) (counting (p + s) i L)) e ∙ kind_here Sets (p + j) (counting (p + s) i L) ∙ sym (kind_there (Fixed i) (p + s) (set_at (p + j) L) (p + j) apart ∙ kind_here Sets (p + j) L)
            ∙ ap (counting (p + s) i (set_at (p + j) L)) (sym e))
            (differ a (p + j)));
      }

      filling : (i : ℕ) → i ≡ m → f.between.least ≤ i → i ≤ f.between.greatest → i < 65536 → Runs (counting (p + s) i L) (λ x. x ≡ Past) (counting (p + s) i (set_at (p + j) L)) (perform_block C (block [] is) p (s + 2))
      filling i ei ge le word =
          let t = around_counting E C.place γ R p s i f.between.least f.between.greatest L F.around F.live F.fresh F.low ge le word in
          let up : s + 2 ≤ s + 2 + 0 = omega arith in
          let w = block_ways E R1 no_exits [] is (s + 2) f.body in
          let run = untils R1 (counting (p + s) i L) (higher E C.place γ R1 p (s + 2) (s + 2 + 0) (counting (p + s) i L) up t) once w.1.1 g.vector i g.size f.between.least f.between.greatest g.assigns vector variable ge le (kind_here (Fixed i) (p + s) L) in
          let there : p + (g.vector + 1 + i) ≡ p + j = omega (arith, ei, is_m) in
          let set = subst (λ z. Runs (counting (p + s) i L) (λ x. x ≡ Past) (set_at z (counting (p + s) i L)) (perform_items C is p (s + 2 + 0) Beginning)) there run in
          runs_refined p (counting (p + s) i L) (set_at (p + j) (counting (p + s) i L)) (counting (p + s) i (set_at (p + j) L)) (λ x. x ≡ Past) _ (refined i)
          (runs_list_once (counting (p + s) i L) (set_at (p + j) (counting (p + s) i L)) (has_label is) (perform_items C is p (s + 2 + 0)) set)

      plainly : (i : ℕ) → f.between.least ≤ i → i ≤ f.between.greatest → i < 65536 → Runs (counting (p + s) i (β i)) (λ x. x ≡ Past) (counting (p + s) i (β i)) (perform_block C (block [] is) p (s + 2))
      plainly i ge le word =
          runs_less (counting (p + s) i (β i)) (counting (p + s) i (β i)) (Allowed no_exits) (λ x. x ≡ Past) _
          (bodies R1 (counting (p + s) i (β i)) (around_counting E C.place γ R p s i f.between.least f.between.greatest (β i) (β_around i) (β_live i) F.fresh F.low ge le word) f.body) past_only

      round : (i : ℕ) → Upwards x0.word i → f.between.least ≤ i → i ≤ f.between.greatest → i < 65536 → Runs (counting (p + s) i (β i)) (λ x. x ≡ Past) (counting (p + s) i (β ((i + by) % 65536))) (perform_block C (block [] is) p (s + 2))
      round i now ge le word =
          let next : (i + by) % 65536 ≡ i + 1 = omega (arith, f.one, now.1) in
          ⊎_elim
          (λ ne. let still : β ((i + by) % 65536) ≡ β i = ⊎_elim
          (λ lt. is_past m (p + j) L ((i + by) % 65536) (omega (arith, lt, next)) ∙ sym (is_past m (p + j) L i lt))
          (λ at_most. not_past m (p + j) L ((i + by) % 65536) (omega (arith, at_most, next, ne)) ∙ sym (not_past m (p + j) L i at_most)) (either_past m i) in
          subst (λ z. Runs (counting (p + s) i (β i)) (λ x. x ≡ Past) (counting (p + s) i z) (perform_block C (block [] is) p (s + 2))) (sym still) (plainly i ge le word))
          (λ e. let early : β i ≡ L = not_past m (p + j) L i (omega (arith, e)) in
          let late : β ((i + by) % 65536) ≡ set_at (p + j) L = is_past m (p + j) L ((i + by) % 65536) (omega (arith, e, next)) in
          subst (λ z. Runs (counting (p + s) i (β i)) (λ x. x ≡ Past) (counting (p + s) i z) (perform_block C (block [] is) p (s + 2))) (sym late)
          (subst (λ z. Runs (counting (p + s) i z) (λ x. x ≡ Past) (counting (p + s) i (set_at (p + j) L)) (perform_block C (block [] is) p (s + 2))) (sym early) (filling i e ge le word)))
          (differ i m)

-- the cells that pass a test are set
pub filled_shape : (p : ℕ) → (ℕ → Bool) → Shape → Shape
filled_shape p test σ a = elim (nat_le p a && test (a - p)) as (λ z. Kind) [ true ↦ Sets | false ↦ σ a ]

pub filled_shape_is : (p : ℕ) (test : ℕ → Bool) (σ : Shape) (a : ℕ) (t : Bool) → (nat_le p a && test (a - p)) ≡ t → filled_shape p test σ a ≡ elim t as (λ z. Kind) [ true ↦ Sets | false ↦ σ a ]
unfolding filled_shape
filled_shape_is p test σ a t e = rw (e, filled_shape) refl

pub in_frame : (p j : ℕ) (test : ℕ → Bool) → (nat_le p (p + j) && test (p + j - p)) ≡ test j
in_frame p j test =
    let up : nat_le p (p + j) ≡ true = grind (arith, nat_tests) in
    let back : p + j - p ≡ j = omega arith in
    rw (up, back) refl

pub cell_of : (E : Env) (place : ℕ → ℕ) (γ : Shape) (R : Knows) (p s j : ℕ) (σ : Shape) → Around E place γ R p s σ → is_cell (R j) ≡ true → Writable (σ (p + j)) × (p + j < 65536)
cell_of E place γ R p s j σ h cell = let test : is_cell_or_word (R j) ≡ true = rw cell refl in cell_or_word E.text place (σ (p + j)) (p + j) (R j) test (h.holds j)

pub refines_filled : (E : Env) (place : ℕ → ℕ) (γ : Shape) (R : Knows) (p s : ℕ) (fill : ℕ → Bool) (σ : Shape) → Around E place γ R p s σ → Refines p (filled_shape p (λ j. is_cell (R j) && fill j) σ) σ
refines_filled E place γ R p s fill σ h = record { refines = λ a. by a (nat_le p a && (is_cell (R (a - p)) && fill (a - p))) refl } where
  by : (a : ℕ) (t : Bool) → (nat_le p a && (is_cell (R (a - p)) && fill (a - p))) ≡ t
      → (filled_shape p (λ j. is_cell (R j) && fill j) σ a ≡ σ a) ⊎ ((p ≤ a) × (Writable (σ a) × Readable (filled_shape p (λ j. is_cell (R j) && fill j) σ a)))
  by a false e = inl (filled_shape_is p (λ j. is_cell (R j) && fill j) σ a false e)
  by a true e =
      let b = both_true (nat_le p a) (is_cell (R (a - p)) && fill (a - p)) e in
      let cell = (both_true (is_cell (R (a - p))) (fill (a - p)) b.1).0 in
      let le : p ≤ a = at_most_true p a b.0 in
      let there : p + (a - p) ≡ a = omega (arith, le) in
      inr (le, (subst (λ z. Writable (σ z)) there (cell_of E place γ R p s (a - p) σ h cell).0, rw (filled_shape_is p (λ j. is_cell (R j) && fill j) σ a true e) tt))

pub around_filled : (E : Env) (place : ℕ → ℕ) (γ : Shape) (R : Knows) (p s : ℕ) (fill : ℕ → Bool) (σ : Shape) → Around E place γ R p s σ → Around E place γ (and_where fill AnyWord R) p s (filled_shape p (λ j. is_cell (R j) && fill j) σ)
around_filled E place γ R p s fill σ h =
    around_as E place γ R (and_where fill AnyWord R) p s σ (filled_shape p (λ j. is_cell (R j) && fill j) σ) (refines_filled E place γ R p s fill σ h) (λ j. by j (is_cell (R j) && fill j) refl) h where
      by : (j : ℕ) (t : Bool) → (is_cell (R j) && fill j) ≡ t → HoldsAt E.text place (filled_shape p (λ j. is_cell (R j) && fill j) σ (p + j)) (p + j) (cond (is_cell (R j) && fill j) AnyWord (R j))
      by j t e =
          let test : (nat_le p (p + j) && (is_cell (R (p + j - p)) && fill (p + j - p))) ≡ t = in_frame p j (λ i. is_cell (R i) && fill i) ∙ e in
          subst (λ k. HoldsAt E.text place k (p + j) (cond (is_cell (R j) && fill j) AnyWord (R j))) (sym (filled_shape_is p (λ j. is_cell (R j) && fill j) σ (p + j) t test))
          (subst (λ b. HoldsAt E.text place (elim t as (λ z. Kind) [ true ↦ Sets | false ↦ σ (p + j) ]) (p + j) (cond b AnyWord (R j))) (sym e) (held t e)) where
            held : (t : Bool) → (is_cell (R j) && fill j) ≡ t → HoldsAt E.text place (elim t as (λ z. Kind) [ true ↦ Sets | false ↦ σ (p + j) ]) (p + j) (cond t AnyWord (R j))
            held true e = (refl, (cell_of E place γ R p s j σ h (both_true (is_cell (R j)) (fill j) e).0).1)
            held false e = h.holds j

pub learns_filling : (E : Env) (γ : Shape) (C : Context) (R : Knows) (p s : ℕ) (σ : Shape) (start limit : Exp) (by : ℕ) (is : Items) → Around E C.place γ R p s σ → Bodies E γ C p (s + 2) (block [] is) → Untils E γ C p s is
    → tame_filling E R (commands.For start limit by (block [] is)) s ≡ true → Learns E γ C (filled R (commands.For start limit by (block [] is)) s) p s σ (perform C (commands.For start limit by (block [] is)) p s)
learns_filling E γ C R p s σ start limit by is h bodies untils ok = of_test (has_no_entry is) refl where
  f : PassesFilling E R start limit by (block [] is) s
  f = passes_filling E R start limit by (block [] is) s ok

  base : Runs σ (λ x. x ≡ Past) σ (perform C (commands.For start limit by (block [] is)) p s)
  base = filling_plain E γ C R p s σ start limit by (block [] is) h bodies f

  fill : ℕ → Bool
  fill j = fills R s f.counts.first.greatest f.counts.last.least is j

  τ : Shape
  τ = filled_shape p (λ j. is_cell (R j) && fill j) σ

  each : has_no_entry is ≡ true → (a : ℕ) (t : Bool) → (nat_le p a && (is_cell (R (a - p)) && fill (a - p))) ≡ t
      → (τ a ≡ σ a) ⊎ ((π : Shape) × (Runs σ (λ x. x ≡ Past) π (perform C (commands.For start limit by (block [] is)) p s) × (π a ≡ τ a)))
  each once a false e = inl (filled_shape_is p (λ j. is_cell (R j) && fill j) σ a false e)
  each once a true e =
      let b = both_true (nat_le p a) (is_cell (R (a - p)) && fill (a - p)) e in
      let d = both_true (is_cell (R (a - p))) (fill (a - p)) b.1 in
      let le : p ≤ a = at_most_true p a b.0 in
      let there : p + (a - p) ≡ a = omega (arith, le) in
      let run = filling_one E γ C R p s (a - p) σ start limit by is h bodies untils f once d.0 (fills_at R s f.counts.first.greatest f.counts.last.least is (a - p) d.1) in
      inr (set_at a σ, (subst (λ z. Runs σ (λ x. x ≡ Past) (set_at z σ) (perform C (commands.For start limit by (block [] is)) p s)) there run, kind_here Sets a σ ∙ sym (filled_shape_is p (λ j. is_cell (R j) && fill j) σ a true e)))

  of_test : (t : Bool) → has_no_entry is ≡ t → Learns E γ C (cond t (filled_between R s is (bounds_of R start) (bounds_of R limit)) R) p s σ (perform C (commands.For start limit by (block [] is)) p s)
  of_test false e = record { shape = σ; runs = base; around = h; refines = refines_same p σ }
  of_test true once =
      let ea = f.counts.starts in
      let ez = f.counts.ends in
      let l : Learns E γ C (and_where fill AnyWord R) p s σ (perform C (commands.For start limit by (block [] is)) p s) = record {
        shape = τ;
        runs = runs_each σ σ τ (λ x. x ≡ Past) _ base (λ a. each once a (nat_le p a && (is_cell (R (a - p)) && fill (a - p))) refl);
        around = around_filled E C.place γ R p s fill σ h;
        refines = refines_filled E C.place γ R p s fill σ h;
      } in
      subst (λ o. Learns E γ C (filled_between R s is o (bounds_of R limit)) p s σ (perform C (commands.For start limit by (block [] is)) p s)) (sym ea)
      (subst (λ q. Learns E γ C (filled_between R s is (Some f.counts.first) q) p s σ (perform C (commands.For start limit by (block [] is)) p s)) (sym ez) l)
