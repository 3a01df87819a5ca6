-- Cells are allocated above all live ones, and freed again.
use Rattle.std.proofs.Common.{◌≡◌, ◌≢◌, ◌⊎◌, inl, inr, ⊎_elim, ℕ, zero, suc, ◌+◌, ◌≤◌, List, length, refl, sym, ap, ◌∙◌, subst, arith}
use Rattle.std.specs.Prelude.{slice_set}
use Rattle.std.proofs.lemmas.Bool.{cases_lt}
use Rattle.std.proofs.lemmas.List.{get_or-set_same, get_or-set_other, length-set}
use Rattle.std.proofs.Math.ListN.{get_or-eq_default}
use Rattle.bc_machine_defs.specs.State.{State}
use Rattle.bc_core.specs.Store.{Cell, Dead, Unset, Set, cell_at, filled, opened, closed}
use Rattle.bc_core.specs.Outcome.{Outcome, Done, Ended, Going, Wild, Run, left, with_cells}
use Rattle.bc_core.proofs.Liveness.{filled_outside, closed_inside}
use Rattle.bc_right.specs.steps.Agreement.{Holds}
use Rattle.bc_right.specs.steps.Landing.{Moment, moment, Later, Goal, Lands, Does}

filled_length : (n a : ℕ) (k : Cell) (cells : List Cell) → length (filled n a k cells) ≡ length cells
filled_length zero a k cells = refl
filled_length (suc n) a k cells = filled_length n (a + 1) k (slice_set cells a k) ∙ length-set cells a k

pub differ : (n k : ℕ) → (n ≢ k) ⊎ (n ≡ k)
differ n k = ⊎_elim (λ lt. inl (λ e. omega arith)) (λ ge. ⊎_elim (λ lt. inl (λ e. omega arith)) (λ le. inr (omega arith)) (cases_lt k n)) (cases_lt n k)

-- each cell is the new one or unchanged
pub set_either : (cells : List Cell) (a b : ℕ) (k : Cell) → (cell_at (slice_set cells a k) b ≡ k) ⊎ (cell_at (slice_set cells a k) b ≡ cell_at cells b)
set_either cells a b k = ⊎_elim (λ ne. inr (get_or-set_other cells a b k Dead ne)) (λ e. here e) (differ b a) where
  here : b ≡ a → (cell_at (slice_set cells a k) b ≡ k) ⊎ (cell_at (slice_set cells a k) b ≡ cell_at cells b)
  here e = ⊎_elim (λ lt. inl (ap (λ z. cell_at (slice_set cells a k) z) e ∙ get_or-set_same cells a k Dead lt))
      (λ ge. inr (ap (λ z. cell_at (slice_set cells a k) z) e ∙ get_or-eq_default (slice_set cells a k) Dead (subst (λ z. z ≤ a) (sym (length-set cells a k)) ge) ∙ sym (get_or-eq_default cells Dead ge) ∙ sym (ap (λ z. cell_at cells z) e)))
      (cases_lt a (length cells))

pub filled_either : (n a : ℕ) (k : Cell) (cells : List Cell) (b : ℕ) → (cell_at (filled n a k cells) b ≡ k) ⊎ (cell_at (filled n a k cells) b ≡ cell_at cells b)
filled_either zero a k cells b = inr refl
filled_either (suc n) a k cells b =
    ⊎_elim (λ e. inl e) (λ e. ⊎_elim (λ h. inl (e ∙ h)) (λ h. inr (e ∙ h)) (set_either cells a b k)) (filled_either n (a + 1) k (slice_set cells a k) b)

pub set_is : (v w : ℕ) (k : Cell) → k ≡ Set v → k ≡ Set w → v ≡ w
set_is v w k e h = let f : Set v ≡ Set w = sym e ∙ h in cc

pub unset_is_not : (w : ℕ) (k : Cell) → k ≡ Unset → k ≡ Set w → ⊥
unset_is_not w k e h = let f : Unset ≡ Set w = sym e ∙ h in cc

pub dead_is_not : (w : ℕ) (k : Cell) → k ≡ Dead → k ≡ Set w → ⊥
dead_is_not w k e h = let f : Dead ≡ Set w = sym e ∙ h in cc

opened_holds : (n top : ℕ) (cells : List Cell) (m : List ℕ) → Holds top cells m → Holds (top + n) (opened n top cells) m
opened_holds n top cells m h = record {
  agrees = λ a w e. ⊎_elim (λ u. absurd (unset_is_not w (cell_at (opened n top cells) a) u e)) (λ s. h.agrees a w (sym s ∙ e)) (filled_either n top Unset cells a);
  above = λ a ge. filled_outside n top Unset cells a (inr ge) ∙ h.above a (omega arith);
  whole = h.whole;
  spans = let e = filled_length n top Unset cells in omega (arith, e, h.spans);
}

pub closed_holds : (n top : ℕ) (cells : List Cell) (m : List ℕ) → Holds (top + n) cells m → Holds top (closed n top cells) m
closed_holds n top cells m h = record {
  agrees = λ a w e. ⊎_elim (λ u. absurd (dead_is_not w (cell_at (closed n top cells) a) u e)) (λ s. h.agrees a w (sym s ∙ e)) (filled_either n top Dead cells a);
  above = λ a ge. ⊎_elim (λ lt. closed_inside n top cells a ge lt) (λ far. filled_outside n top Dead cells a (inr far) ∙ h.above a far) (cases_lt a (top + n));
  whole = h.whole;
  spans = let e = filled_length n top Dead cells in omega (arith, e, h.spans);
}

opened_later : (O : Moment) (n top : ℕ) (cells : List Cell) (m : List ℕ) → Later O (moment top cells m) → Later O (moment (top + n) (opened n top cells) m)
opened_later O n top cells m l = record {
  low = omega (arith, l.low);
  keeps = record {
    dead = λ a lt d. filled_outside n top Unset cells a (inl (omega (arith, l.low))) ∙ l.keeps.dead a lt d;
    same = l.keeps.same;
    unset = λ a lt u. l.keeps.unset a lt (sym (filled_outside n top Unset cells a (inl (omega (arith, l.low)))) ∙ u);
  };
}

closed_later : (O : Moment) (n top : ℕ) (cells : List Cell) (m : List ℕ) → O.top ≤ top → Later O (moment (top + n) cells m) → Later O (moment top (closed n top cells) m)
closed_later O n top cells m low l = record {
  low = low;
  keeps = record {
    dead = λ a lt d. ⊎_elim (λ e. e) (λ e. e ∙ l.keeps.dead a lt d) (filled_either n top Dead cells a);
    same = l.keeps.same;
    unset = λ a lt u. l.keeps.unset a lt (sym (filled_outside n top Dead cells a (inl (omega arith))) ∙ u);
  };
}

lands_left : {A : Type 0} (K : Moment) (most : ℕ) (O : Moment) (x : State) (t n top p limit : ℕ) (goal : Goal A) (o : Outcome A) → O.top ≤ top → Lands K most O x t (top + n) p limit goal o → Lands K most O x t top p limit goal (left n top o)
lands_left K most O x t n top p limit goal (Done v st) low l =
    let r = l.5 in
    (l.0, l.1, l.2, l.3, l.4, record { few = r.few; are_words = r.are_words; leads = r.leads; holds = closed_holds n top st.cells l.4 r.holds; since = r.since; later = closed_later O n top st.cells l.4 low r.later }, l.6, l.7)
lands_left K most O x t n top p limit goal (Ended e streams) low l = l
lands_left K most O x t n top p limit goal (Going streams) low l = l
lands_left K most O x t n top p limit goal Wild low l = tt

pub does_with_cells : {A : Type 0} {K : Moment} {most : ℕ} {p limit a c : ℕ} (n top : ℕ) (goal : Goal A) (r : Run A) → Does K most (top + n) p limit a c goal r → Does K most top p limit a c goal (with_cells n top r)
does_with_cells {K = K} {most = most} {p = p} {limit = limit} n top goal r d = record {
  from = λ O x t b m st le here.
      lands_left K most O x t n top p limit goal (r (record st { cells = opened n top st.cells })) here.later.low
      (d.from O x t b m (record st { cells = opened n top st.cells }) le (record { few = here.few; are_words = here.are_words; leads = here.leads; holds = opened_holds n top st.cells m here.holds; since = here.since; later = opened_later O n top st.cells m here.later }));
}
