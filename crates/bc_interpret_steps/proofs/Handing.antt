-- Giving an answer to the innermost continuation.
use Rattle.std.proofs.Common.{◌≡◌, ℕ, List, ◌∷◌, refl, sym, subst}
use Rattle.bc_core.specs.Map.{Placed}
use Rattle.bc_interpret_defs.specs.Machine as machine
use Rattle.bc_core.specs.Meaning.{callee}
use Rattle.bc_core.specs.Outcome as outcomes
use Rattle.bc_interpret_defs.specs.Machine.{step, next}
use Rattle.bc_interpret_defs.specs.Meeting.{ByCell, ByCall, ByForm}
use Rattle.bc_interpret_defs.specs.Called.{IsCall}
use Rattle.bc_interpret_defs.specs.Trails.{Standing, position_in, trail_in, trail_from, trail_of, Within, Calling}
use Rattle.bc_interpret_pure.specs.declared.context.Cause.TheVariants as causes
use Rattle.bc_interpret_defs.specs.Running.{Moves}
use Rattle.bc_interpret_steps.specs.declared.state.State.{State}
use Rattle.bc_interpret_steps.specs.declared.forms.Progress.{Progress}
use Rattle.bc_interpret_steps.specs.declared.forms.Progress.TheVariants as progress
use Rattle.bc_interpret_steps.specs.declared.continuations.NumberRest.{NumberRest}
use Rattle.bc_interpret_steps.specs.declared.continuations.NumberRest.TheVariants as number_rests
use Rattle.bc_interpret_steps.specs.declared.continuations.ValueRest.{ValueRest}
use Rattle.bc_interpret_steps.specs.declared.continuations.ValueRest.TheVariants as value_rests
use Rattle.bc_interpret_steps.specs.declared.continuations.TruthRest.{TruthRest}
use Rattle.bc_interpret_steps.specs.declared.continuations.TruthRest.TheVariants as truth_rests
use Rattle.bc_interpret_steps.specs.declared.continuations.NothingRest.{NothingRest}
use Rattle.bc_interpret_steps.specs.declared.continuations.NothingRest.TheVariants as nothing_rests
use Rattle.bc_interpret_steps.specs.declared.continuations.ExitRest.{ExitRest}
use Rattle.bc_interpret_steps.specs.declared.continuations.ExitRest.TheVariants as exit_rests
use Rattle.bc_interpret_steps.specs.Code.{number_rest, value_rest, truth_rest, nothing_rest, exit_rest}
use Rattle.bc_interpret_steps.specs.Came.{state_of, Came, CameOrMalformed}
use Rattle.bc_interpret_steps.specs.Arrived.{Lands}
use Rattle.bc_interpret_steps.specs.Stepped.{Stepped}

-- the step isn't a call
abbrev pub NoCall : machine.Work → List machine.Rest → Type 0
NoCall w rs = (v : ℕ) (vs : List ℕ) (f : ℕ) → IsCall w rs v vs f → ⊥

pub stepped : (program : List Placed) (w : machine.Work) (rs : List machine.Rest) (old : State) (p : Progress) (rs1 : List machine.Rest) (vs1 : List ℕ) (new : State) → NoCall w rs → Moves w rs → Came (trail_of w rs) (step program w rs) old p rs1 vs1 new → Stepped program w rs old p rs1 vs1 new
stepped program w rs old (progress.On x) rs1 vs1 new n m h = (m, h)
stepped program w rs old (progress.Serve q f) rs1 vs1 new n m h = absurd h
stepped program w rs old progress.Answered rs1 vs1 new n m h = absurd h
stepped program w rs old (progress.Ended e) rs1 vs1 new n m h = (m, h)
stepped program w rs old progress.Going rs1 vs1 new n m h = (m, h)
stepped program w rs old (progress.Wild c) rs1 vs1 new n m h = (m, h.0, ByCell n h.1, Within n h.2)

pub malformed : (program : List Placed) (w : machine.Work) (rs : List machine.Rest) (old : State) (rs1 : List machine.Rest) (vs1 : List ℕ) (new : State) → NoCall w rs → Moves w rs → ((st : outcomes.State) → step program w rs st ≡ outcomes.Wild) → trail_in rs1 ≡ trail_of w rs → Stepped program w rs old (progress.Wild causes.Malformed) rs1 vs1 new
malformed program w rs old rs1 vs1 new n m h k = (m, λ streams. h (state_of old streams), ByForm n refl h, Within n k)

pub stepped_loosely : (program : List Placed) (w : machine.Work) (rs : List machine.Rest) (old : State) (p : Progress) (rs1 : List machine.Rest) (vs1 : List ℕ) (new : State) → NoCall w rs → Moves w rs → CameOrMalformed (trail_of w rs) (step program w rs) old p rs1 vs1 new → Stepped program w rs old p rs1 vs1 new
stepped_loosely program w rs old (progress.On x) rs1 vs1 new n m h = (m, h)
stepped_loosely program w rs old (progress.Serve q f) rs1 vs1 new n m h = absurd h
stepped_loosely program w rs old progress.Answered rs1 vs1 new n m h = absurd h
stepped_loosely program w rs old (progress.Ended e) rs1 vs1 new n m h = (m, h)
stepped_loosely program w rs old progress.Going rs1 vs1 new n m h = (m, h)
stepped_loosely program w rs old (progress.Wild (causes.Unset a)) rs1 vs1 new n m h = (m, h.0, ByCell n h.1, Within n h.2)
stepped_loosely program w rs old (progress.Wild (causes.Dead a)) rs1 vs1 new n m h = (m, h.0, ByCell n h.1, Within n h.2)
stepped_loosely program w rs old (progress.Wild (causes.NoCell a)) rs1 vs1 new n m h = (m, h.0, ByCell n h.1, Within n h.2)
stepped_loosely program w rs old (progress.Wild (causes.NotRoutine v)) rs1 vs1 new n m h = absurd h.1
stepped_loosely program w rs old (progress.Wild (causes.FrameTooLarge f)) rs1 vs1 new n m h = absurd h.1
stepped_loosely program w rs old (progress.Wild causes.Malformed) rs1 vs1 new n m h = malformed program w rs old rs1 vs1 new n m h.0 h.1

-- an answer that is given to the innermost continuation
pub handed : (program : List Placed) (a : machine.Answer) (rs : List machine.Rest) (r : machine.Rest) (rs0 : List machine.Rest) (old : State) (p : Progress) (rs1 : List machine.Rest) (vs1 : List ℕ) (new : State) → NoCall (machine.Give a) (r ∷ rs0) → trail_of (machine.Give a) (r ∷ rs0) ≡ trail_in rs0 → rs ≡ r ∷ rs0 → Came (trail_in rs0) (next program r a rs0) old p rs1 vs1 new → Stepped program (machine.Give a) rs old p rs1 vs1 new
handed program a rs r rs0 old p rs1 vs1 new n k e h =
    subst (λ q. Stepped program (machine.Give a) q old p rs1 vs1 new) (sym e) (stepped program (machine.Give a) (r ∷ rs0) old p rs1 vs1 new n tt (subst (λ trail. Came trail (next program r a rs0) old p rs1 vs1 new) (sym k) h))

pub handed_loosely : (program : List Placed) (a : machine.Answer) (rs : List machine.Rest) (r : machine.Rest) (rs0 : List machine.Rest) (old : State) (p : Progress) (rs1 : List machine.Rest) (vs1 : List ℕ) (new : State) → NoCall (machine.Give a) (r ∷ rs0) → trail_of (machine.Give a) (r ∷ rs0) ≡ trail_in rs0 → rs ≡ r ∷ rs0 → CameOrMalformed (trail_in rs0) (next program r a rs0) old p rs1 vs1 new → Stepped program (machine.Give a) rs old p rs1 vs1 new
handed_loosely program a rs r rs0 old p rs1 vs1 new n k e h =
    subst (λ q. Stepped program (machine.Give a) q old p rs1 vs1 new) (sym e) (stepped_loosely program (machine.Give a) (r ∷ rs0) old p rs1 vs1 new n tt (subst (λ trail. CameOrMalformed trail (next program r a rs0) old p rs1 vs1 new) (sym k) h))

-- no continuation for a number but a call's own is a call
pub no_number_calls : (xs : List ℕ) (r : NumberRest) (rs : List machine.Rest) (a : machine.Answer) → NoCall (machine.Give a) (number_rest xs r ∷ rs)
no_number_calls xs number_rests.Loads rs a v vs f k = let h = k.rests in cc
no_number_calls xs number_rests.Negates rs a v vs f k = let h = k.rests in cc
no_number_calls xs number_rests.Complements rs a v vs f k = let h = k.rests in cc
no_number_calls xs number_rests.Tests rs a v vs f k = let h = k.rests in cc
no_number_calls xs (number_rests.Operates E op e) rs a v vs f k = let h = k.rests in cc
no_number_calls xs (number_rests.Operated op x) rs a v vs f k = let h = k.rests in cc
no_number_calls xs (number_rests.Argues y) rs a v vs f k = let h = k.rests in cc

pub no_value_calls : (r : ValueRest) (rs : List machine.Rest) (a : machine.Answer) → NoCall (machine.Give a) (value_rest r ∷ rs)
no_value_calls (value_rests.Stores E x) rs a v vs f k = let h = k.rests in cc
no_value_calls (value_rests.Stored w) rs a v vs f k = let h = k.rests in cc
no_value_calls (value_rests.StoresAt x) rs a v vs f k = let h = k.rests in cc
no_value_calls value_rests.Drops rs a v vs f k = let h = k.rests in cc
no_value_calls (value_rests.Fors E by b) rs a v vs f k = let h = k.rests in cc
no_value_calls (value_rests.Switches E is) rs a v vs f k = let h = k.rests in cc
no_value_calls value_rests.Leaves rs a v vs f k = let h = k.rests in cc

-- the continuations of each kind of answer end no call: the trail of a step that takes one is that of the continuations after it
pub no_number_closes : (xs : List ℕ) (r : NumberRest) (rs : List machine.Rest) → trail_from (position_in rs) (number_rest xs r ∷ rs) ≡ trail_in rs
no_number_closes xs number_rests.Loads rs = refl
no_number_closes xs number_rests.Negates rs = refl
no_number_closes xs number_rests.Complements rs = refl
no_number_closes xs number_rests.Tests rs = refl
no_number_closes xs (number_rests.Operates E op e) rs = refl
no_number_closes xs (number_rests.Operated op x) rs = refl
no_number_closes xs (number_rests.Argues y) rs = refl

pub no_value_closes : (r : ValueRest) (rs : List machine.Rest) → trail_from (position_in rs) (value_rest r ∷ rs) ≡ trail_in rs
no_value_closes (value_rests.Stores E x) rs = refl
no_value_closes (value_rests.Stored w) rs = refl
no_value_closes (value_rests.StoresAt x) rs = refl
no_value_closes value_rests.Drops rs = refl
no_value_closes (value_rests.Fors E by b) rs = refl
no_value_closes (value_rests.Switches E is) rs = refl
no_value_closes value_rests.Leaves rs = refl

pub no_truth_closes : (r : TruthRest) (rs : List machine.Rest) → trail_from (position_in rs) (truth_rest r ∷ rs) ≡ trail_in rs
no_truth_closes truth_rests.Opposes rs = refl
no_truth_closes (truth_rests.Conjoins E x) rs = refl
no_truth_closes (truth_rests.Disjoins E x) rs = refl
no_truth_closes (truth_rests.Selects E x y) rs = refl
no_truth_closes (truth_rests.Ifs E t b) rs = refl
no_truth_closes (truth_rests.Chooses E b d) rs = refl
no_truth_closes (truth_rests.Whiles E c b) rs = refl
no_truth_closes (truth_rests.RepeatWhiles E b c) rs = refl

pub no_nothing_closes : (r : NothingRest) (rs : List machine.Rest) → trail_from (position_in rs) (nothing_rest r ∷ rs) ≡ trail_in rs
no_nothing_closes nothing_rests.Passes rs = refl
no_nothing_closes (nothing_rests.Limits E x by b) rs = refl
no_nothing_closes (nothing_rests.Declares E ds is n) rs = refl
no_nothing_closes (nothing_rests.Initialises E vs k) rs = refl

pub no_exit_closes : (r : ExitRest) (rs : List machine.Rest) → trail_from (position_in rs) (exit_rest r ∷ rs) ≡ trail_in rs
no_exit_closes exit_rests.Returns rs = refl
no_exit_closes (exit_rests.Results n) rs = refl
no_exit_closes (exit_rests.Skips that) rs = refl
no_exit_closes (exit_rests.WhileBody E c b) rs = refl
no_exit_closes (exit_rests.RepeatBody E b) rs = refl
no_exit_closes (exit_rests.RepeatWhileBody E b c) rs = refl
no_exit_closes (exit_rests.ForBody E r) rs = refl
no_exit_closes exit_rests.Cases rs = refl
no_exit_closes (exit_rests.Follows E is) rs = refl
no_exit_closes (exit_rests.Listed E is) rs = refl

-- a value that is called
pub landed : (program : List Placed) (v : ℕ) (vs : List ℕ) (f : ℕ) (rs rs0 : List machine.Rest) (old : State) (p : Progress) (rs1 : List machine.Rest) (vs1 : List ℕ) (new : State) → rs ≡ machine.Calls vs f ∷ rs0 → Lands (trail_in rs0) (machine.arrive (callee program v) v vs f rs0) (callee program v) v vs f old p rs1 vs1 new → Stepped program (machine.Give (machine.Number v)) rs old p rs1 vs1 new
landed program v vs f rs rs0 old p rs1 vs1 new e h =
    subst (λ q. Stepped program (machine.Give (machine.Number v)) q old p rs1 vs1 new) (sym e) (by_progress p h) where
      call : IsCall (machine.Give (machine.Number v)) (machine.Calls vs f ∷ rs0) v vs f
      call = record { following = rs0; work = refl; rests = refl }

      by_progress : (p : Progress) → Lands (trail_in rs0) (machine.arrive (callee program v) v vs f rs0) (callee program v) v vs f old p rs1 vs1 new → Stepped program (machine.Give (machine.Number v)) (machine.Calls vs f ∷ rs0) old p rs1 vs1 new
      by_progress (progress.On x) g = (tt, g)
      by_progress (progress.Serve q d) g = (tt, record { value = v; arguments = vs; frame = f; calls = call; named = g.1; kept = g.2; served = g.0 })
      by_progress progress.Answered g = absurd g
      by_progress (progress.Ended x) g = (tt, g)
      by_progress progress.Going g = (tt, g)
      by_progress (progress.Wild c) g = (tt, g.0, ByCall v vs f call g.1, Calling v vs f call g.2)
