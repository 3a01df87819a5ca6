-- The iterations of a loop, by induction on the remaining turns.
use Rattle.std.proofs.Common.{◌≡◌, ℕ, zero, suc, ◌<◌, ◌≤◌, List, arith}
use Rattle.bc_machine_defs.specs.State.{State}
use Rattle.bc_core.specs.Outcome as outcomes
use Rattle.bc_core.specs.Outcome.{Run, Round, Again, Leave, next_round, rounds, repeated}
use Rattle.bc_right.specs.steps.Landing.{Moment, Reached, Goal, Lands, Does}
use Rattle.bc_right.proofs.step_lemmas.Steps.{plain, at_place, lands_done, bind, lands_map}

-- an iteration either returns to its beginning, having taken a turn, or leaves the loop
abbrev pub round_goal : {A B : Type 0} → (start : A → ℕ) → (good : A → Type 0) → ℕ → Goal B → Goal (Round A B)
round_goal start good limit goal (Again y) a b c g turns = (c ≡ start y) × good y × (turns < limit)
round_goal start good limit goal (Leave z) a b c g turns = goal z a b c g turns

abbrev pub Raises : {B : Type 0} → (ℕ → Goal B) → Type 0
Raises {B = B} goal = (low high : ℕ) → low ≤ high → (v : B) (a b c g turns : ℕ) → goal low v a b c g turns → goal high v a b c g turns

does_rounds : {A B : Type 0} {K : Moment} {most top p : ℕ} (f : A → Run (Round A B)) (start : A → ℕ) (good : A → Type 0) (goal : ℕ → Goal B) → Raises goal
    → ((y : A) → good y → (limit a : ℕ) → Does K most top p limit a (start y) (round_goal start good limit (goal limit)) (f y))
    → (n : ℕ) (y : A) → good y → (limit a : ℕ) → limit < n → Does K most top p limit a (start y) (goal limit) (rounds n f y)
does_rounds f start good goal raise round zero y is limit a lt = record { from = λ O x t b m st le here. absurd (omega arith) }
does_rounds {A = A} {B = B} {K = K} {most = most} {top = top} {p = p} f start good goal raise round (suc n) y is limit a lt = record {
  from = λ O x t b m st le here. bind limit (round_goal start good limit (goal limit)) (goal limit) (f y st) (next_round (rounds n f)) ((round y is limit a).from O x t b m st le here)
      (λ v a1 b1 c1 g m1 st1 there le1 w. next O x t (does_rounds f start good goal raise round n) v a1 b1 c1 g m1 st1 there le1 w);
} where
  next : (O : Moment) (x : State) (t : ℕ) → ((z : A) → good z → (limit1 a1 : ℕ) → limit1 < n → Does K most top p limit1 a1 (start z) (goal limit1) (rounds n f z))
      → (v : Round A B) (a1 b1 c1 g : ℕ) (m1 : List ℕ) (st1 : outcomes.State) → Reached K most O x t top p a1 b1 c1 g m1 st1 → st1.turns ≤ limit → round_goal start good limit (goal limit) v a1 b1 c1 g st1.turns → Lands K most O x t top p limit (goal limit) (next_round (rounds n f) v st1)
  next O x t further (Again z) a1 b1 c1 g m1 st1 there le1 w =
      let same : st1.turns ≤ st1.turns = omega arith in
      let down : st1.turns < n = omega (arith, w.2) in
      lands_map K most O x t top p st1.turns limit (goal st1.turns) (goal limit) (rounds n f z st1) le1 (raise st1.turns limit le1)
      ((further z w.1 st1.turns a1 down).from O x t b1 m1 st1 same (plain (at_place w.0 there)))
  next O x t further (Leave z) a1 b1 c1 g m1 st1 there le1 w = lands_done limit (goal limit) z there le1 w

pub does_repeated : {A B : Type 0} {K : Moment} {most top p limit a : ℕ} (f : A → Run (Round A B)) (start : A → ℕ) (good : A → Type 0) (goal : ℕ → Goal B) → Raises goal
    → ((y : A) → good y → (limit a : ℕ) → Does K most top p limit a (start y) (round_goal start good limit (goal limit)) (f y))
    → (y : A) → good y → Does K most top p limit a (start y) (goal limit) (repeated f y)
does_repeated {K = K} {most = most} {top = top} {p = p} {limit = limit} {a = a} f start good goal raise round y is = record {
  from = λ O x t b m st le here.
      let same : st.turns ≤ st.turns = omega arith in
      let more : st.turns < suc st.turns = omega arith in
      lands_map K most O x t top p st.turns limit (goal st.turns) (goal limit) (repeated f y st) le (raise st.turns limit le)
      ((does_rounds f start good goal raise round (suc st.turns) y is st.turns a more).from O x t b m st same here);
}
