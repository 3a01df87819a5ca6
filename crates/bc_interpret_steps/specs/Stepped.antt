-- For proofs: the outcome of a step, including the end of the whole run, and the forms in which contracts state it.
use Rattle.std.specs.Prelude.{ℕ, ◌≡◌, List, [], Vec, Result, OnOk, IfOk}
use Rattle.std.specs.declared.alloc.Global.{Global}
use Rattle.bc_core.specs.Map.{Placed}
use Rattle.bc_interpret_defs.specs.Machine as machine
use Rattle.bc_machine_defs.specs.Streams.{Content}
use Rattle.bc_core.specs.Meaning.{callee}
use Rattle.bc_core.specs.Outcome as outcomes
use Rattle.bc_core.specs.Primitive as primitives
use Rattle.bc_interpret_defs.specs.Machine.{step, next}
use Rattle.bc_interpret_defs.specs.Meeting.{Meets}
use Rattle.bc_interpret_defs.specs.Called.{IsCall}
use Rattle.bc_interpret_defs.specs.Trails.{Standing, trail_in, trail_of, IsTrail}
use Rattle.bc_interpret_pure.specs.Causes.{cause_of}
use Rattle.bc_interpret_defs.specs.Running.{Moves}
use Rattle.bc_interpret_steps.specs.declared.state.State.{State}
use Rattle.bc_interpret_steps.specs.declared.forms.Progress.{Progress}
use Rattle.bc_interpret_steps.specs.declared.forms.Progress.TheVariants as progress
use Rattle.bc_interpret_steps.specs.declared.forms.OpenCall.{OpenCall}
use Rattle.bc_interpret_steps.specs.declared.continuations.Rest.{Rest}
use Rattle.bc_interpret_steps.specs.declared.sections.Callable.{Callable}
use Rattle.bc_interpret_steps.specs.Code.{stack, given}
use Rattle.bc_interpret_steps.specs.Came.{state_of, primitive_of, Came, Went, CameOrMalformed, Goes, GoesOrMalformed, GoesAt, GoesAtOrMalformed}
use Rattle.bc_interpret_steps.specs.Arrived.{IsServed}
use Rattle.bc_interpret_steps.specs.Sections.{IsTable}

-- the step calls a primitive
pub record Serves (program : List Placed) (w : machine.Work) (rs : List machine.Rest) (q : primitives.Primitive) (call : OpenCall)
    (old : State) (rs1 : List machine.Rest) (new : State) : Type 0 where
  pub value : ℕ
  pub arguments : List ℕ
  pub frame : ℕ
  pub calls : IsCall w rs value arguments frame
  pub named : call.routine ≡ value
  pub kept : trail_in rs1 ≡ trail_in rs
  pub served : IsServed (step program w rs) (callee program value) arguments frame q call.frame old rs1 new

-- The code reports the outcome of the step; or the machine holds the answer of the whole run. If the step is wild, its trail is that of the
-- continuations that the code leaves.
abbrev pub Stepped :
    List Placed → machine.Work → (rs : List machine.Rest) → (old : State) → Progress → List machine.Rest → List ℕ → (new : State) → Type 0
Stepped program w rs old progress.Answered rs1 vs1 new = ((a : machine.Answer) × (w ≡ machine.Give a)) × (rs ≡ []) × (new ≡ old)
Stepped program w rs old (progress.Serve q call) rs1 vs1 new = Moves w rs × Serves program w rs (primitive_of q) call old rs1 new
Stepped program w rs old (progress.Wild c) rs1 vs1 new =
    Moves w rs × ((streams : Content) → step program w rs (state_of old streams) ≡ outcomes.Wild) × Meets program w rs old.store (cause_of c)
    × IsTrail w rs (trail_in rs1)
Stepped program w rs old p rs1 vs1 new = Moves w rs × Came (trail_of w rs) (step program w rs) old p rs1 vs1 new

-- unless memory ran out: the outcome of a step that is a function of the continuations
abbrev pub Proceeds :
    {A E : Type 0}
    → (List machine.Rest → machine.Step) → (before : Vec Rest Global) → (old : State) → Result A E → Progress → (after : Vec Rest Global) → (new : State)
    → Type 0
Proceeds f before old result p after new = OnOk result (Goes f before.items old p after.items new)

-- the same, where the step may be malformed
abbrev pub ProceedsOrMalformed :
    {A E : Type 0}
    → (List machine.Rest → machine.Step) → (before : Vec Rest Global) → (old : State) → Result A E → Progress → (after : Vec Rest Global) → (new : State)
    → Type 0
ProceedsOrMalformed f before old result p after new = OnOk result (GoesOrMalformed f before.items old p after.items new)

-- the same where a wild step has this trail
abbrev pub ProceedsAt :
    {A E : Type 0}
    → (List machine.Rest → List Standing) → (List machine.Rest → machine.Step) → (before : Vec Rest Global) → (old : State) → Result A E → Progress
    → (after : Vec Rest Global) → (new : State) → Type 0
ProceedsAt t f before old result p after new = OnOk result (GoesAt t f before.items old p after.items new)

abbrev pub ProceedsAtOrMalformed :
    {A E : Type 0}
    → (List machine.Rest → List Standing) → (List machine.Rest → machine.Step) → (before : Vec Rest Global) → (old : State) → Result A E → Progress
    → (after : Vec Rest Global) → (new : State) → Type 0
ProceedsAtOrMalformed t f before old result p after new = OnOk result (GoesAtOrMalformed t f before.items old p after.items new)

-- the same of a step that isn't wild
abbrev pub ProceedsOn :
    {A E : Type 0}
    → (List machine.Rest → machine.Step) → (before : Vec Rest Global) → (old : State) → Result A E → Progress → (after : Vec Rest Global) → (new : State)
    → Type 0
ProceedsOn f before old result p after new = OnOk result (Went (f (stack before.items)) old p (stack after.items) (given after.items) new)

-- the outcome of giving an answer to a popped continuation
abbrev pub Takes :
    {A E : Type 0}
    → machine.Rest → machine.Answer → (before : Vec Rest Global) → (old : State) → Result A E → Progress → (after : Vec Rest Global) → (new : State) → Type 0
Takes r a before old result p after new = (program : List Placed) → OnOk result (Goes (next program r a) before.items old p after.items new)

-- the same, where the step may be malformed
abbrev pub TakesOrMalformed :
    {A E : Type 0}
    → machine.Rest → machine.Answer → (before : Vec Rest Global) → (old : State) → Result A E → Progress → (after : Vec Rest Global) → (new : State) → Type 0
TakesOrMalformed r a before old result p after new =
    (program : List Placed) → OnOk result (GoesOrMalformed (next program r a) before.items old p after.items new)

-- the same where the continuation doesn't change the continuations after it
abbrev pub Gives : machine.Rest → machine.Answer → (old : State) → Progress → (new : State) → Type 0
Gives r a old p new = (program : List Placed) (rs : List machine.Rest) (vs : List ℕ) → Came (trail_in rs) (next program r a rs) old p rs vs new

-- the same, where the step may be malformed
abbrev pub GivesOrMalformed : machine.Rest → machine.Answer → (old : State) → Progress → (new : State) → Type 0
GivesOrMalformed r a old p new =
    (program : List Placed) (rs : List machine.Rest) (vs : List ℕ) → CameOrMalformed (trail_in rs) (next program r a rs) old p rs vs new

-- the same as a result, unless memory ran out
abbrev pub GivesIfOk : {E : Type 0} → machine.Rest → machine.Answer → (old : State) → Result Progress E → (new : State) → Type 0
GivesIfOk r a old result new =
    (program : List Placed) (rs : List machine.Rest) (vs : List ℕ) → IfOk result (λ p. Came (trail_in rs) (next program r a rs) old p rs vs new)

-- the outcome of one step of any program that has this table
abbrev pub StepsOver :
    {A E : Type 0}
    → List Callable → machine.Work → (before : Vec Rest Global) → (old : State) → Result A E → Progress → (after : Vec Rest Global) → (new : State) → Type 0
StepsOver table w before old result p after new =
    (program : List Placed) → IsTable program table
    → OnOk result (Stepped program w (stack before.items) old p (stack after.items) (given after.items) new)
