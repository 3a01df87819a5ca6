-- Runs of the machine reach the meaning of the sections.
use Rattle.std.proofs.Common.{◌≡◌, ℕ, zero, suc, ◌+◌, ◌≤◌, ◌<◌, List, [], ◌∷◌, Option, Some, None, refl, sym, ap, subst, arith, ◌∙◌, ◌⊎◌, inl, inr}
use Rattle.std.proofs.Math.Nat.{eq-or-lt_of_le}
use Rattle.bc_core.specs.Map.{Placed, placed}
use Rattle.bc_core.specs.Outcome.{State, Outcome, Done, Ended, Going, Wild, followed, read}
use Rattle.bc_core.specs.Meaning.{Call as Calling, result_of, run_of, entered_at, calls}
use Rattle.bc_interpret_defs.specs.Machine.{Answer, Number, Work, Evaluate, Decide, Argue, Store, Perform, Enter, Declare, Initialise, Listing, Round, Give, Rest, At, go, step}
use Rattle.bc_interpret_defs.specs.Machine as machine
use Rattle.bc_interpret_defs.specs.Resume.{number, resume, meant}
use Rattle.bc_interpret_defs.specs.Weight.{weight, Lessens}
use Rattle.bc_interpret_defs.specs.Laws.{StepsKeep, StepsLessen, MachineMeans, MachineIsRight}
use Rattle.bc_interpret_defs.specs.Running.{from_step, last_or, Moves, ran, start_at, start_state, result_if}
use Rattle.bc_interpret_defs.proofs.Alike.{alike_calls}
use Rattle.bc_interpret_defs.proofs.Kept.{evaluate_kept, decide_kept, argue_kept, store_kept}
use Rattle.bc_interpret_defs.proofs.Doing.{perform_kept, enter_kept, declare_kept, initialise_kept, listing_kept, round_kept}
use Rattle.bc_interpret_defs.proofs.Resting.{next_kept}
use Rattle.bc_interpret_defs.proofs.Lessening.{work_less}

pub steps_keep : StepsKeep
steps_keep program n (Evaluate E e s) rs st l = evaluate_kept program (calls program n) E e s rs st
steps_keep program n (Decide E e s) rs st l = decide_kept program (calls program n) E e s rs st
steps_keep program n (Argue E vs es level f m s) rs st l = argue_kept program (calls program n) E vs es level f m s rs st
steps_keep program n (Store E v a s) rs st l = store_kept program (calls program n) E v a s rs st
steps_keep program n (Perform E c s) rs st l = perform_kept program (calls program n) (alike_calls program 0 n n (omega arith) (omega arith)) E c s rs st
steps_keep program n (Enter E b s) rs st l = enter_kept program (calls program n) (alike_calls program 0 n n (omega arith) (omega arith)) E b s rs st
steps_keep program n (Declare E ds is s level) rs st l = declare_kept program (calls program n) (alike_calls program 0 n n (omega arith) (omega arith)) E ds is s level rs st
steps_keep program n (Initialise E vs k s) rs st l = initialise_kept program (calls program n) E vs k s rs st
steps_keep program n (Listing E is s at) rs st l = listing_kept program (calls program n) E is s at rs st
steps_keep program n (Round E limit by b s) rs st l = round_kept program (calls program n) (alike_calls program 0 n n (omega arith) (omega arith)) E limit by b s rs st
steps_keep program n (Give a) [] st l = refl
steps_keep program n (Give a) (r ∷ rs) st l = next_kept program n r a rs st l

pub steps_lessen : StepsLessen
steps_lessen program w rs st m = work_less program w rs st m

-- the answer of the whole run, or a step
by_moves : (P : Work → List Rest → Type 0) → ((a : Answer) → P (Give a) []) → ((w : Work) (rs : List Rest) → Moves w rs → P w rs) → (w : Work) (rs : List Rest) → P w rs
by_moves P last more (Give a) [] = last a
by_moves P last more (Give a) (r ∷ rs) = more (Give a) (r ∷ rs) tt
by_moves P last more (Evaluate E e s) rs = more (Evaluate E e s) rs tt
by_moves P last more (Decide E e s) rs = more (Decide E e s) rs tt
by_moves P last more (Argue E vs es level f n s) rs = more (Argue E vs es level f n s) rs tt
by_moves P last more (Store E v a s) rs = more (Store E v a s) rs tt
by_moves P last more (Perform E c s) rs = more (Perform E c s) rs tt
by_moves P last more (Enter E b s) rs = more (Enter E b s) rs tt
by_moves P last more (Declare E ds is s level) rs = more (Declare E ds is s level) rs tt
by_moves P last more (Initialise E vs k s) rs = more (Initialise E vs k s) rs tt
by_moves P last more (Listing E is s at) rs = more (Listing E is s at) rs tt
by_moves P last more (Round E limit by b s) rs = more (Round E limit by b s) rs tt

moved : (w : Work) (rs : List Rest) (st : State) (o : Option (Outcome Answer)) → Moves w rs → last_or w rs st o ≡ o
moved (Give a) [] st o m = absurd m
moved (Give a) (r ∷ rs) st o m = refl
moved (Evaluate E e s) rs st o m = refl
moved (Decide E e s) rs st o m = refl
moved (Argue E vs es level f n s) rs st o m = refl
moved (Store E v a s) rs st o m = refl
moved (Perform E c s) rs st o m = refl
moved (Enter E b s) rs st o m = refl
moved (Declare E ds is s level) rs st o m = refl
moved (Initialise E vs k s) rs st o m = refl
moved (Listing E is s at) rs st o m = refl
moved (Round E limit by b s) rs st o m = refl

abbrev Halts : List Placed → ℕ → Work → List Rest → State → Type 0
Halts program n w rs st = (k : ℕ) × (ran program k (record { work = w; rests = rs }) st ≡ Some (meant (calls program n) (record { work = w; rests = rs }) st))

-- one step more
stepped : (program : List Placed) (n : ℕ) (w : Work) (rs : List Rest) (st : State) → st.turns < n → Moves w rs → (o : Outcome At) → step program w rs st ≡ o → ((at : At) (st1 : State) → o ≡ Done at st1 → Halts program n at.work at.rests st1) → Halts program n w rs st
stepped program n w rs st l m (Done at st1) e h =
    let k = h at st1 refl in
    (suc k.0, moved w rs st _ m ∙ (ap (λ o. from_step o (λ at1 st2. ran program k.0 at1 st2)) e ∙ (k.1 ∙ ap Some (ap (λ o. followed o (meant (calls program n))) (sym e) ∙ sym (steps_keep program n w rs st l)))))
stepped program n w rs st l m (Ended x streams) e h =
    (1, moved w rs st _ m ∙ (ap (λ o. from_step o (λ at1 st2. ran program 0 at1 st2)) e ∙ ap Some (ap (λ o. followed o (meant (calls program n))) (sym e) ∙ sym (steps_keep program n w rs st l))))
stepped program n w rs st l m (Going streams) e h =
    (1, moved w rs st _ m ∙ (ap (λ o. from_step o (λ at1 st2. ran program 0 at1 st2)) e ∙ ap Some (ap (λ o. followed o (meant (calls program n))) (sym e) ∙ sym (steps_keep program n w rs st l))))
stepped program n w rs st l m Wild e h =
    (1, moved w rs st _ m ∙ (ap (λ o. from_step o (λ at1 st2. ran program 0 at1 st2)) e ∙ ap Some (ap (λ o. followed o (meant (calls program n))) (sym e) ∙ sym (steps_keep program n w rs st l))))

of_start : (call : Calling) (f : ℕ) (o : Outcome ℕ) → result_of (followed (followed o number) (resume call (machine.Calls [] f ∷ []))) ≡ result_of (followed o (λ start. call start [] f))
of_start call f (Done v st) = of_call (call v [] f st) where
  of_call : (o : Outcome ℕ) → result_of (followed (followed o number) (λ a. Done a)) ≡ result_of o
  of_call (Done v st) = refl
  of_call (Ended e streams) = refl
  of_call (Going streams) = refl
  of_call Wild = refl
of_start call f (Ended e streams) = refl
of_start call f (Going streams) = refl
of_start call f Wild = refl

pub start_means : (program : List Placed) (base : ℕ) (st : State) → result_of (meant (calls program (suc st.turns)) (start_at base) st) ≡ result_of (run_of (entered_at program) base st)
start_means program base st = of_start (calls program (suc st.turns)) (base + 2) (read 9 st)

lessened : (program : List Placed) (w : Work) (rs : List Rest) (st : State) → Moves w rs → (at : At) (st1 : State) → step program w rs st ≡ Done at st1 → Lessens st.turns (weight w rs) (Done at st1)
lessened program w rs st m at st1 e = subst (λ o. Lessens st.turns (weight w rs) o) e (steps_lessen program w rs st m)

-- whatever outcome the machine reaches is the meaning of the state it started from
in_some : Option (Outcome Answer) → Outcome Answer
in_some (Some o) = o
in_some None = Wild

unsome : (o o1 : Outcome Answer) → Some o ≡ Some o1 → o ≡ o1
unfolding in_some
unsome o o1 e = ap in_some e

abbrev Right : List Placed → ℕ → ℕ → Outcome Answer → Work → List Rest → Type 0
Right program n k o w rs =
    (st : State) → st.turns < n → ran program k (record { work = w; rests = rs }) st ≡ Some o → o ≡ meant (calls program n) (record { work = w; rests = rs }) st

right_step : (program : List Placed) (n k : ℕ) (o : Outcome Answer) → ((w : Work) (rs : List Rest) → Right program n k o w rs) → (w : Work) (rs : List Rest) → Moves w rs → (st : State) → st.turns < n → (p : Outcome At) → step program w rs st ≡ p → ran program (suc k) (record { work = w; rests = rs }) st ≡ Some o → o ≡ meant (calls program n) (record { work = w; rests = rs }) st
right_step program n k o ih w rs m st l (Done at st1) e h =
    let le = (lessened program w rs st m at st1 e).0 in
    let h1 = sym (ap (λ p. from_step p (λ at1 st2. ran program k at1 st2)) e) ∙ (sym (moved w rs st _ m) ∙ h) in
    ih at.work at.rests st1 (omega arith) h1 ∙ (ap (λ p. followed p (meant (calls program n))) (sym e) ∙ sym (steps_keep program n w rs st l))
right_step program n k o ih w rs m st l (Ended x streams) e h =
    let h1 = sym (ap (λ p. from_step p (λ at1 st2. ran program k at1 st2)) e) ∙ (sym (moved w rs st _ m) ∙ h) in
    sym (unsome (Ended x streams) o h1) ∙ (ap (λ p. followed p (meant (calls program n))) (sym e) ∙ sym (steps_keep program n w rs st l))
right_step program n k o ih w rs m st l (Going streams) e h =
    let h1 = sym (ap (λ p. from_step p (λ at1 st2. ran program k at1 st2)) e) ∙ (sym (moved w rs st _ m) ∙ h) in
    sym (unsome (Going streams) o h1) ∙ (ap (λ p. followed p (meant (calls program n))) (sym e) ∙ sym (steps_keep program n w rs st l))
right_step program n k o ih w rs m st l Wild e h =
    let h1 = sym (ap (λ p. from_step p (λ at1 st2. ran program k at1 st2)) e) ∙ (sym (moved w rs st _ m) ∙ h) in
    sym (unsome Wild o h1) ∙ (ap (λ p. followed p (meant (calls program n))) (sym e) ∙ sym (steps_keep program n w rs st l))

right : (program : List Placed) (n k : ℕ) (o : Outcome Answer) (w : Work) (rs : List Rest) → Right program n k o w rs
right program n zero o w rs st l e = absurd cc
right program n (suc k) o w rs st l e =
    by_moves (Right program n (suc k) o) (λ a st1 l1 e1. sym (unsome (Done a st1) o e1))
    (λ w1 rs1 m st1 l1 e1. right_step program n k o (right program n k o) w1 rs1 m st1 l1 (step program w1 rs1 st1) refl e1) w rs st l e

-- after some number of steps it reaches that outcome: by induction on the remaining turns, then on the weight
abbrev HaltsBelow : List Placed → (n t m : ℕ) → Type 0
HaltsBelow program n t m = (w : Work) (rs : List Rest) (st : State) → st.turns < n → st.turns < t → weight w rs < m → Halts program n w rs st

halts_next : (program : List Placed) (n t m : ℕ) → ((m1 : ℕ) → HaltsBelow program n t m1) → HaltsBelow program n (suc t) m → HaltsBelow program n (suc t) (suc m)
halts_next program n t m outer inner w rs st l lt lw =
    by_moves (λ w1 rs1. (st1 : State) → st1.turns < n → st1.turns < suc t → weight w1 rs1 < suc m → Halts program n w1 rs1 st1) (λ a st1 l1 lt1 lw1. (1, refl))
    (λ w1 rs1 mv st1 l1 lt1 lw1. stepped program n w1 rs1 st1 l1 mv (step program w1 rs1 st1) refl
    (λ at st2 e. chosen at st2 st1 w1 rs1 l1 lt1 lw1 (lessened program w1 rs1 st1 mv at st2 e))) w rs st l lt lw where
      chosen_by : (at : At) (st2 st1 : State) (w1 : Work) (rs1 : List Rest) → st1.turns < n → st1.turns < suc t → weight w1 rs1 < suc m → (st2.turns ≤ st1.turns) × (st1.turns ≤ st2.turns → weight at.work at.rests < weight w1 rs1) → (st2.turns ≡ st1.turns) ⊎ (st2.turns < st1.turns) → Halts program n at.work at.rests st2
      chosen_by at st2 st1 w1 rs1 l1 lt1 lw1 h (inl e) = let h1 = h.1 (omega arith) in inner at.work at.rests st2 (omega arith) (omega arith) (omega arith)
      chosen_by at st2 st1 w1 rs1 l1 lt1 lw1 h (inr e) = outer (suc (weight at.work at.rests)) at.work at.rests st2 (omega arith) (omega arith) (omega arith)

      chosen : (at : At) (st2 st1 : State) (w1 : Work) (rs1 : List Rest) → st1.turns < n → st1.turns < suc t → weight w1 rs1 < suc m → (st2.turns ≤ st1.turns) × (st1.turns ≤ st2.turns → weight at.work at.rests < weight w1 rs1) → Halts program n at.work at.rests st2
      chosen at st2 st1 w1 rs1 l1 lt1 lw1 h = chosen_by at st2 st1 w1 rs1 l1 lt1 lw1 h (eq-or-lt_of_le h.0)

halts_by_weight : (program : List Placed) (n t : ℕ) → ((m1 : ℕ) → HaltsBelow program n t m1) → (m : ℕ) → HaltsBelow program n (suc t) m
halts_by_weight program n t outer zero w rs st l lt lw = absurd (omega arith)
halts_by_weight program n t outer (suc m) w rs st l lt lw = halts_next program n t m outer (halts_by_weight program n t outer m) w rs st l lt lw

halts : (program : List Placed) (n t m : ℕ) → HaltsBelow program n t m
halts program n zero m w rs st l lt lw = absurd (omega arith)
halts program n (suc t) m w rs st l lt lw = halts_by_weight program n t (halts program n t) m w rs st l lt lw

-- from any state
pub machine_means_over : (program : List Placed) (base : ℕ) (st : State) → (k : ℕ) × (result_if (ran program k (start_at base) st) ≡ Some (result_of (run_of (entered_at program) base st)))
machine_means_over program base st =
    let at = start_at base in
    let h = halts program (suc st.turns) (suc st.turns) (suc (weight at.work at.rests)) at.work at.rests st (omega arith) (omega arith) (omega arith) in
    (h.0, ap result_if h.1 ∙ ap Some (start_means program base st))

pub machine_is_right_over : (program : List Placed) (base : ℕ) (st : State) (k : ℕ) (o : Outcome Answer) → ran program k (start_at base) st ≡ Some o → result_of o ≡ result_of (run_of (entered_at program) base st)
machine_is_right_over program base st k o e =
    let at = start_at base in
    ap result_of (right program (suc st.turns) k o at.work at.rests st (omega arith) e) ∙ start_means program base st

pub machine_means : MachineMeans
machine_means cores map streams n = let program = placed cores map.places in machine_means_over program map.stack_base (start_state program streams n)

pub machine_is_right : MachineIsRight
machine_is_right cores map streams n k o e = let program = placed cores map.places in machine_is_right_over program map.stack_base (start_state program streams n) k o e
