-- FORs whose variable is known in each round.
use Rattle.std.proofs.Common.{◌≡◌, ◌⊎◌, inl, inr, ⊎_elim, ℕ, ◌+◌, ◌-◌, ◌<◌, ◌≤◌, ◌%◌, ◌||◌, ◌&&◌, Bool, true, false, Some, refl, sym, ap, ◌∙◌, subst, arith}
use Rattle.std.specs.Prelude.{nat_lt, nat_le, cond, pos, negsuc, int_lt, ltb}
use Rattle.std.proofs.lemmas.Bool.{cases_lt}
use Rattle.std.proofs.lemmas.Bool.Decides.{nat_tests}
use Rattle.bc_word.specs.Words.{signed, holds}
use Rattle.bc_word.specs.declared.operator.Rel.TheVariants as relations
use Rattle.bc_library_laws.proofs.Words.{is_positive, is_negative}
use Rattle.bc_core.specs.Tree.{Exp, Frame, Load}
use Rattle.bc_core.specs.Store.{Set}
use Rattle.bc_core.specs.Outcome.{Run, then_do, choose, repeated}
use Rattle.bc_core.specs.Value.{Context, sense, value, assign}
use Rattle.bc_core.specs.Exit.{Exit, Past}
use Rattle.bc_core.specs.Loop.{LoopRound, back, leave, after_body, for_loop, end_relation}
use Rattle.bc_core.specs.Command.{step_of_for}
use Rattle.bc_tame.specs.Tame.{Bounds, bounds_if, counted}
use Rattle.bc_tame.proofs.Fine.{Live, Fixed, Shape, Runs, RunsRound, RoundAt, Refines, anything, runs_done, runs_then, runs_both, round_then, round_again, round_leaves, runs_repeated_at, both_true, at_most_true, less_true}
use Rattle.bc_tame.proofs.Indices.{if_true, loads_fixed}
use Rattle.bc_tame.proofs.Shapes.{kind_at, kind_here, kind_there, runs_to_frame_as}

-- a round that is followed by one with the variable `next`
pub record ForRound (I : ℕ → Type 0) (ρ : ℕ → Shape) (τ : Shape) (A Q : Exit → Type 0) (body : Run Exit) (step : Run (Unit {0})) (i : ℕ) : Type 0 where
  pub next : ℕ
  pub still : I next
  pub after : Shape
  pub done : Runs (ρ i) A after body
  pub steps : Runs after (anything {A = Unit {0}}) (ρ next) step
  pub leaves : (rest : LoopRound) → RunsRound after (ρ next) τ Q rest → (x : Exit) → A x → RunsRound after (ρ next) τ Q (after_body rest x)

abbrev rounds_of : ℕ → ℕ → Run ℕ → Run (Unit {0}) → Run Exit → Unit {0} → LoopRound
rounds_of by n variable step body u = then_do variable (λ i. choose (holds (end_relation by) i n) leave (then_do body (after_body (then_do step (λ u. back)))))

runs_for_at : (I : ℕ → Type 0) (ρ : ℕ → Shape) (σ τ : Shape) (A Q : Exit → Type 0) (p by w0 w1 : ℕ) (start : Run (Unit {0})) (limit variable : Run ℕ) (step : Run (Unit {0})) (body : Run Exit)
    → Runs σ (anything {A = Unit {0}}) (ρ w0) start → Runs (ρ w0) (λ v. v ≡ w1) (ρ w0) limit → I w0 → ((i : ℕ) → I i → Runs (ρ i) (λ v. v ≡ i) (ρ i) variable)
    → ((i : ℕ) → I i → holds (end_relation by) i w1 ≡ true → Refines p (ρ i) τ) → Q Past
    → ((i : ℕ) → I i → holds (end_relation by) i w1 ≡ false → ForRound I ρ τ A Q body step i)
    → Runs σ Q τ (for_loop by start limit variable step body)
runs_for_at I ρ σ τ A Q p by w0 w1 start limit variable step body hs hl first hv ends q goes =
    runs_then σ (ρ w0) τ (anything {A = Unit {0}}) Q start _ hs (λ u x. runs_then (ρ w0) (ρ w0) τ (λ v. v ≡ w1) Q limit _ hl (λ n en.
    subst (λ z. Runs (ρ w0) Q τ (repeated (rounds_of by z variable step body) tt)) (sym en)
    (runs_repeated_at I ρ τ Q (rounds_of by w1 variable step body) tt w0 first (λ i now. round_at i now (holds (end_relation by) i w1) refl)))) where
      tested : (i : ℕ) (σ2 : Shape) (t : Bool) → holds (end_relation by) i w1 ≡ t → RunsRound (ρ i) σ2 τ Q (choose t leave (then_do body (after_body (then_do step (λ u. back)))))
          → (v : ℕ) → v ≡ i → RunsRound (ρ i) σ2 τ Q (choose (holds (end_relation by) v w1) leave (then_do body (after_body (then_do step (λ u. back)))))
      tested i σ2 t e h v ev =
          subst (λ z. RunsRound (ρ i) σ2 τ Q (choose (holds (end_relation by) z w1) leave (then_do body (after_body (then_do step (λ u. back)))))) (sym ev)
          (subst (λ z. RunsRound (ρ i) σ2 τ Q (choose z leave (then_do body (after_body (then_do step (λ u. back)))))) (sym e) h)

      round_at : (i : ℕ) → I i → (t : Bool) → holds (end_relation by) i w1 ≡ t → RoundAt I ρ τ Q (rounds_of by w1 variable step body) i
      round_at i now true e =
          let over : RunsRound (ρ i) (ρ i) τ Q leave = round_leaves p (ρ i) (ρ i) τ Q Past (ends i now e) q in
          record { next = i; still = now; runs = λ u. round_then (ρ i) (ρ i) (ρ i) τ (λ v. v ≡ i) Q variable _ (hv i now) (tested i (ρ i) true e (record { from = over.from })) }
      round_at i now false e =
          let g = goes i now e in
          let rest : RunsRound g.after (ρ g.next) τ Q (then_do step (λ u. back)) = round_then g.after (ρ g.next) (ρ g.next) τ (anything {A = Unit {0}}) Q step _ g.steps (λ u x. round_again (ρ g.next) τ Q tt) in
          let more : RunsRound (ρ i) (ρ g.next) τ Q (then_do body (after_body (then_do step (λ u. back)))) = round_then (ρ i) g.after (ρ g.next) τ A Q body _ g.done (λ x a. g.leaves (then_do step (λ u. back)) rest x a) in
          record { next = g.next; still = g.still; runs = λ u. round_then (ρ i) (ρ i) (ρ g.next) τ (λ v. v ≡ i) Q variable _ (hv i now) (tested i (ρ g.next) false e (record { from = more.from })) }

-- which values a variable takes
pub record Course (by w0 w1 least greatest : ℕ) (I : ℕ → Type 0) : Type 0 where
  pub first : I w0
  pub goes : (i : ℕ) → I i → holds (end_relation by) i w1 ≡ false → (least ≤ i) × ((i ≤ greatest) × ((i < 65536) × I ((i + by) % 65536)))

abbrev pub Upwards : ℕ → ℕ → Type 0
Upwards w0 i = (w0 ≤ i) × (i < 32768)

abbrev pub Downwards : ℕ → ℕ → Type 0
Downwards w0 i = (i < 65536) × ((i ≤ w0) ⊎ (32768 ≤ i))

not_ltb : (a b : ℕ) → ltb a b ≡ false → b ≤ a
not_ltb a b e = grind (arith, nat_tests)

is_ltb : (a b : ℕ) → ltb a b ≡ true → a < b
is_ltb a b e = grind (arith, nat_tests)

up_going : (i n : ℕ) → i < 32768 → n < 32768 → holds relations.Greater i n ≡ false → i ≤ n
up_going i n li ln e =
    let e1 : int_lt (pos n) (signed i) ≡ false = subst (λ z. int_lt z (signed i) ≡ false) (is_positive n ln) e in
    let e2 : int_lt (pos n) (pos i) ≡ false = subst (λ z. int_lt (pos n) z ≡ false) (is_positive i li) e1 in
    not_ltb n i e2

up_ended : (i n : ℕ) → i < 32768 → n < 32768 → holds relations.Greater i n ≡ true → n < i
up_ended i n li ln e =
    let e1 : int_lt (pos n) (signed i) ≡ true = subst (λ z. int_lt z (signed i) ≡ true) (is_positive n ln) e in
    let e2 : int_lt (pos n) (pos i) ≡ true = subst (λ z. int_lt (pos n) z ≡ true) (is_positive i li) e1 in
    is_ltb n i e2

down_going : (i n : ℕ) → i < 65536 → n < 32768 → holds relations.Less i n ≡ false → (i < 32768) × (n ≤ i)
down_going i n li ln e =
    ⊎_elim (λ low. let e1 : int_lt (signed i) (pos n) ≡ false = subst (λ z. int_lt (signed i) z ≡ false) (is_positive n ln) e in
    let e2 : int_lt (pos i) (pos n) ≡ false = subst (λ z. int_lt z (pos n) ≡ false) (is_positive i low) e1 in
    (low, not_ltb i n e2))
    (λ high. let same : 65535 - (65535 - i) ≡ i = omega (arith, li) in
    let negative : signed i ≡ negsuc (65535 - i) = subst (λ z. signed z ≡ negsuc (65535 - i)) same (is_negative (65535 - i) (omega (arith, high, li))) in
    let e1 : int_lt (negsuc (65535 - i)) (signed n) ≡ false = subst (λ z. int_lt z (signed n) ≡ false) negative e in
    let e2 : int_lt (negsuc (65535 - i)) (pos n) ≡ false = subst (λ z. int_lt (negsuc (65535 - i)) z ≡ false) (is_positive n ln) e1 in
    let z : ⊥ = cc in absurd z) (cases_lt i 32768)

-- a FOR that counts up ends above its limit
pub up_relation : (by : ℕ) → nat_le 32768 by ≡ false → (i n : ℕ) (t : Bool) → holds (end_relation by) i n ≡ t → holds relations.Greater i n ≡ t
up_relation by e i n t h = subst (λ z. holds (cond z relations.Less relations.Greater) i n ≡ t) e h

down_relation : (by : ℕ) → nat_le 32768 by ≡ true → (i n : ℕ) (t : Bool) → holds (end_relation by) i n ≡ t → holds relations.Less i n ≡ t
down_relation by e i n t h = subst (λ z. holds (cond z relations.Less relations.Greater) i n ≡ t) e h

pub ends_above : (by i n : ℕ) → nat_le 32768 by ≡ false → i < 32768 → n < 32768 → holds (end_relation by) i n ≡ true → n < i
ends_above by i n e li ln h = up_ended i n li ln (up_relation by e i n true h)

pub course_up : (by w0 w1 least greatest : ℕ) → nat_le 32768 by ≡ false → least ≤ w0 → w0 < 32768 → w1 ≤ greatest → greatest + by < 32768 → Course by w0 w1 least greatest (Upwards w0)
course_up by w0 w1 least greatest e low small high top = record {
  first = (omega arith, small);
  goes = λ i now h.
      let le : i ≤ w1 = up_going i w1 now.1 (omega (arith, high, top)) (up_relation by e i w1 false h) in
      (omega (arith, low, now.0), (omega (arith, le, high), (omega (arith, now.1), (omega (arith, now.0, le, high, top), omega (arith, le, high, top)))));
}

course_down : (by w0 w1 least greatest : ℕ) → nat_le 32768 by ≡ true → by < 65536 → least ≤ w1 → w1 < 32768 → w0 ≤ greatest → w0 < 32768 → Course by w0 w1 least greatest (Downwards w0)
course_down by w0 w1 least greatest e word low small high top = record {
  first = (omega (arith, top), inl (omega arith));
  goes = λ i now h.
      let r = down_going i w1 now.0 small (down_relation by e i w1 false h) in
      let up : 32768 ≤ by = at_most_true 32768 by e in
      let le : i ≤ w0 = ⊎_elim (λ x. x) (λ x. absurd (omega (arith, x, r.0))) now.1 in
      (omega (arith, low, r.1), (omega (arith, le, high), (now.0, (omega arith, next i by w0 le r.0 up word))));
} where
  next : (i by w0 : ℕ) → i ≤ w0 → i < 32768 → 32768 ≤ by → by < 65536 → ((i + by) % 65536 ≤ w0) ⊎ (32768 ≤ (i + by) % 65536)
  next i by w0 le small up word = ⊎_elim (λ lt. inr (omega (arith, lt, up))) (λ ge. inl (omega (arith, ge, le, small, word))) (cases_lt (i + by) 65536)

-- the course of a variable whose bounds are known
pub record AnyCourse (by w0 w1 : ℕ) (i : Bounds) : Type 1 where
  pub I : ℕ → Type 0
  pub course : Course by w0 w1 i.least i.greatest I

pub course_of : (a z i : Bounds) (by w0 w1 : ℕ) → counted (Some a) (Some z) by ≡ Some i → by < 65536 → a.least ≤ w0 → w0 ≤ a.greatest → z.least ≤ w1 → w1 ≤ z.greatest → AnyCourse by w0 w1 i
course_of a z i by w0 w1 e word low0 high0 low1 high1 = of_test (nat_le 32768 by) refl e where
  of_test : (t : Bool) → nat_le 32768 by ≡ t
      → cond t (bounds_if (nat_lt a.greatest 32768 && nat_lt z.greatest 32768) z.least a.greatest) (bounds_if (nat_lt a.greatest 32768 && nat_lt (z.greatest + by) 32768) a.least z.greatest) ≡ Some i → AnyCourse by w0 w1 i
  of_test true et e1 =
      let k = if_true (nat_lt a.greatest 32768 && nat_lt z.greatest 32768) z.least a.greatest i e1 in
      let b = both_true (nat_lt a.greatest 32768) (nat_lt z.greatest 32768) k.0 in
      let x : a.greatest < 32768 = less_true a.greatest 32768 b.0 in
      let y : z.greatest < 32768 = less_true z.greatest 32768 b.1 in
      record { I = Downwards w0; course = subst (λ (q : Bounds). Course by w0 w1 q.least q.greatest (Downwards w0)) k.1 (course_down by w0 w1 z.least a.greatest et word low1 (omega (arith, high1, y)) high0 (omega (arith, high0, x))) }
  of_test false et e1 =
      let k = if_true (nat_lt a.greatest 32768 && nat_lt (z.greatest + by) 32768) a.least z.greatest i e1 in
      let b = both_true (nat_lt a.greatest 32768) (nat_lt (z.greatest + by) 32768) k.0 in
      let x : a.greatest < 32768 = less_true a.greatest 32768 b.0 in
      let y : z.greatest + by < 32768 = less_true (z.greatest + by) 32768 b.1 in
      record { I = Upwards w0; course = subst (λ (q : Bounds). Course by w0 w1 q.least q.greatest (Upwards w0)) k.1 (course_up by w0 w1 a.least z.greatest et low0 (omega (arith, high0, x)) high1 y) }

-- the shape in a round: the variable is known
abbrev pub counting : (a i : ℕ) → Shape → Shape
counting a i σ = kind_at (Fixed i) a σ

runs_step : (C : Context) (p s i by : ℕ) (σ : Shape) → σ (p + s) ≡ Fixed i → p + s < 65536 → Runs σ (λ v. v ≡ (i + by) % 65536) σ (sense C (step_of_for by s) p (s + 2)).value
runs_step C p s i by σ e lt =
    runs_both σ σ (λ v. v ≡ i) (λ v. v ≡ by) (λ v. v ≡ (i + by) % 65536) (false || false) _ _ _ (loads_fixed C p (s + 2 + 1) s i σ e lt) (runs_done σ (λ v. v ≡ by) by refl)
    (λ m n em en. runs_done σ (λ v. v ≡ (i + by) % 65536) ((m + n) % 65536) (rw (em, en) refl))

-- A FOR at level s, in cells of the shape σ. Apart from its variable the shape is β i in the round of i.
pub runs_for_counted : (C : Context) (p s by w0 w1 least greatest : ℕ) (σ : Shape) (β : ℕ → Shape) (τ : Shape) (I : ℕ → Type 0) (A Q : Exit → Type 0) (start limit : Exp) (body : Run Exit)
    → p + s < 65536 → σ (p + s) ≡ Live → ((b : ℕ) → β w0 b ≡ σ b) → w0 < 65536
    → Runs σ (λ v. v ≡ w0) σ (sense C start p (s + 2)).value
    → Runs (counting (p + s) w0 (β w0)) (λ v. v ≡ w1) (counting (p + s) w0 (β w0)) (sense C limit p (s + 2)).value
    → Course by w0 w1 least greatest I
    → ((i : ℕ) → I i → holds (end_relation by) i w1 ≡ true → Refines p (counting (p + s) i (β i)) τ) → Q Past
    → ((i : ℕ) → I i → least ≤ i → i ≤ greatest → i < 65536 → Runs (counting (p + s) i (β i)) A (counting (p + s) i (β ((i + by) % 65536))) body)
    → ((i : ℕ) → (rest : LoopRound) → RunsRound (counting (p + s) i (β ((i + by) % 65536))) (counting (p + s) ((i + by) % 65536) (β ((i + by) % 65536))) τ Q rest → (x : Exit) → A x
    → RunsRound (counting (p + s) i (β ((i + by) % 65536))) (counting (p + s) ((i + by) % 65536) (β ((i + by) % 65536))) τ Q (after_body rest x))
    → Runs σ Q τ (for_loop by (assign C start (Frame s) p (s + 2)) (value C limit p (s + 2)) (value C (Load (Frame s)) p (s + 2)) (assign C (step_of_for by s) (Frame s) p (s + 2)) body)
runs_for_counted C p s by w0 w1 least greatest σ β τ I A Q start limit body lt live same word hs hl course ends q bodies leaves =
    runs_for_at I (λ i. counting (p + s) i (β i)) σ τ A Q p by w0 w1 _ _ _ _ body
    (runs_to_frame_as (λ v. v ≡ w0) (Fixed w0) C p (s + 2) σ (counting (p + s) w0 (β w0)) start s hs (λ v e. (ap Set e, word)) (rw live tt) lt (kind_here (Fixed w0) (p + s) (β w0)) (λ b ne. kind_there (Fixed w0) (p + s) (β w0) b ne ∙ same b))
    hl course.first (λ i now. loads_fixed C p (s + 2) s i (counting (p + s) i (β i)) (kind_here (Fixed i) (p + s) (β i)) lt) ends q
    (λ i now e. let g = course.goes i now e in
    let n : ℕ = (i + by) % 65536 in
    let small : (i + by) % 65536 < 65536 = omega arith in
    let here : counting (p + s) i (β ((i + by) % 65536)) (p + s) ≡ Fixed i = kind_here (Fixed i) (p + s) (β ((i + by) % 65536)) in
    record {
      next = (i + by) % 65536;
      still = g.1.1.1;
      after = counting (p + s) i (β ((i + by) % 65536));
      done = bodies i now g.0 g.1.0 g.1.1.0;
      steps = runs_to_frame_as (λ v. v ≡ (i + by) % 65536) (Fixed ((i + by) % 65536)) C p (s + 2) (counting (p + s) i (β ((i + by) % 65536))) (counting (p + s) ((i + by) % 65536) (β ((i + by) % 65536))) (step_of_for by s) s
          (runs_step C p s i by (counting (p + s) i (β ((i + by) % 65536))) here lt) (λ v e1. (ap Set e1, small)) (rw here tt) lt (kind_here (Fixed ((i + by) % 65536)) (p + s) (β ((i + by) % 65536)))
          (λ b ne. kind_there (Fixed ((i + by) % 65536)) (p + s) (β ((i + by) % 65536)) b ne ∙ sym (kind_there (Fixed i) (p + s) (β ((i + by) % 65536)) b ne));
      leaves = leaves i;
    })
