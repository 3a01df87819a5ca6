-- The laws of the machine: it computes the meaning of resolved programs, and nothing else.
use Rattle.std.specs.Prelude.{ℕ, ◌≡◌, ◌<◌, Bool, false, List, Option, Some}
use Rattle.bc_machine_defs.specs.Streams.{Content}
use Rattle.bc_core.specs.Commands.{Core}
use Rattle.bc_core.specs.Map.{Map, Placed, placed}
use Rattle.bc_core.specs.Tree.{Exp}
use Rattle.bc_core.specs.Outcome.{State, Outcome, Run, followed}
use Rattle.bc_core.specs.Value.{has_call, value, truth}
use Rattle.bc_core.specs.Meaning.{Call, context, result_of, calls, meaning}
use Rattle.bc_interpret_defs.specs.Machine.{Answer, Work, Rest, step}
use Rattle.bc_interpret_defs.specs.Resume.{meant}
use Rattle.bc_interpret_defs.specs.Weight.{weight, Lessens}
use Rattle.bc_interpret_defs.specs.Running.{Moves, ran, start_at, start_state, result_if}
use Rattle.bc_interpret_defs.specs.Causes.{Cause}
use Rattle.bc_core.specs.Store.{Cell}
use Rattle.bc_interpret_defs.specs.Meeting.{IsWildBy}
use Rattle.bc_interpret_defs.specs.Quiet.{Sight, Worth, Is, Divides, Fails, settled, worth, QuietWork, QuietRest, quiet_step, quiet_meant, quiet_after, quiet_weight, IsLighter, QuietMoves}

-- any two amounts of fuel greater than the remaining turns give a call the same outcome
abbrev pub FuelNeverEnds : Type 0
FuelNeverEnds =
    (program : List Placed) (n m a : ℕ) (arguments : List ℕ) (frame : ℕ) (st : State)
    → st.turns < n → st.turns < m → calls program n a arguments frame st ≡ calls program m a arguments frame st

-- each step preserves the meaning of the work followed by its continuations
abbrev pub StepsKeep : Type 0
StepsKeep =
    (program : List Placed) (n : ℕ) (w : Work) (rs : List Rest) (st : State) → st.turns < n
    → meant (calls program n) (record { work = w; rests = rs }) st ≡ followed (step program w rs st) (meant (calls program n))

-- each step takes a turn or decreases the weight
abbrev pub StepsLessen : Type 0
StepsLessen = (program : List Placed) (w : Work) (rs : List Rest) (st : State) → Moves w rs → Lessens st.turns (weight w rs) (step program w rs st)

-- after some number of steps the machine reaches the meaning of the sections
abbrev pub MachineMeans : Type 0
MachineMeans =
    (cores : List Core) (map : Map) (streams : Content) (n : ℕ)
    → let program = placed cores map.places in
    (k : ℕ) × (result_if (ran program k (start_at map.stack_base) (start_state program streams n)) ≡ Some (meaning cores map streams n))

-- whatever result the machine reaches is the meaning of the sections
abbrev pub MachineIsRight : Type 0
MachineIsRight =
    (cores : List Core) (map : Map) (streams : Content) (n k : ℕ) (o : Outcome Answer)
    → let program = placed cores map.places in
    ran program k (start_at map.stack_base) (start_state program streams n) ≡ Some o → result_of o ≡ meaning cores map streams n

-- the worth of a pure expression (no call, no VALOF) is its value and its truth
abbrev pub WorthIsValue : Type 0
WorthIsValue =
    (place : ℕ → ℕ) (call : Call) (valof : ℕ → ℕ → ℕ → Run ℕ) (e : Exp) → has_call e ≡ false → (p s : ℕ) (st : State)
    → let S : Sight = record { cells = st.cells; address = place; frame = p } in
    (value (context place call valof) e p s st ≡ settled (worth S e).value st) × (truth (context place call valof) e p s st ≡ settled (worth S e).truth st)

-- each step of the machine for pure expressions preserves the meaning of the remaining work
abbrev pub QuietStepsKeep : Type 0
QuietStepsKeep = (S : Sight) (w : QuietWork) (rs : List QuietRest) → quiet_meant S w rs ≡ quiet_after S (quiet_step S w rs)

-- each step of that machine decreases its weight
abbrev pub QuietStepsLessen : Type 0
QuietStepsLessen = (S : Sight) (w : QuietWork) (rs : List QuietRest) → QuietMoves w rs → IsLighter (quiet_weight w rs) (quiet_step S w rs)

-- if this fails, it fails with a cause that has the property P
abbrev pub FailsBy : {A : Type 0} → (Cause → Type 0) → Worth A → Type 0
FailsBy P (Is x) = Unit {0}
FailsBy P Divides = Unit {0}
FailsBy P (Fails c) = P c

-- a pure expression that fails is wild because of the cell that is named
abbrev pub FailuresName : Type 0
FailuresName =
    (place : ℕ → ℕ) (call : Call) (valof : ℕ → ℕ → ℕ → Run ℕ) (e : Exp) → has_call e ≡ false → (p s : ℕ) (cells : List Cell)
    → let S : Sight = record { cells = cells; address = place; frame = p } in
    FailsBy (IsWildBy (value (context place call valof) e p s) cells) (worth S e).value
    × FailsBy (IsWildBy (truth (context place call valof) e p s) cells) (worth S e).truth
