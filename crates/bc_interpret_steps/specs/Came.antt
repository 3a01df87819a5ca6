-- For proofs: that the outcome which the code reports is the outcome of the machine's step.
use Rattle.std.specs.Prelude.{ℕ, ◌≡◌, ◌≢◌, ◌+◌, ◌<◌, ◌≤◌, Bool, true, false, List, [], Option, Some, None, slice_set}
use Rattle.bc_machine_defs.specs.Streams.{Content}
use Rattle.bc_interpret_defs.specs.Causes as defined
use Rattle.bc_core.specs.Store.{Dead, Set, cell_at}
use Rattle.bc_interpret_defs.specs.Meeting.{IsWildBy}
use Rattle.bc_interpret_defs.specs.Trails.{Standing, trail_in}
use Rattle.bc_core.specs.Outcome as outcomes
use Rattle.bc_core.specs.Outcome.{in_turn, write}
use Rattle.bc_interpret_defs.specs.Quiet as quiet
use Rattle.bc_core.specs.Exit as exits
use Rattle.bc_core.specs.Lists as lists
use Rattle.bc_core.specs.Primitive as primitives
use Rattle.bc_interpret_pure.specs.declared.context.Cause.{Cause}
use Rattle.bc_interpret_pure.specs.declared.context.Cause.TheVariants as causes
use Rattle.bc_interpret_pure.specs.Causes.{cause_of}
use Rattle.bc_interpret_pure.specs.declared.value.Worth.{Worth}
use Rattle.bc_interpret_pure.specs.declared.value.Worth.TheVariants as worths
use Rattle.bc_interpret_pure.specs.declared.value.Truth.{Truth}
use Rattle.bc_interpret_pure.specs.declared.value.Truth.TheVariants as truths
use Rattle.bc_interpret_steps.specs.declared.state.State.{State}
use Rattle.bc_interpret_steps.specs.declared.calls.Fit.{Fit}
use Rattle.bc_interpret_steps.specs.declared.calls.Fit.TheVariants as fits
use Rattle.bc_interpret_steps.specs.declared.forms.Work.{Work}
use Rattle.bc_interpret_steps.specs.declared.forms.Work.TheVariants as works
use Rattle.bc_interpret_steps.specs.declared.forms.Primitive.{Primitive}
use Rattle.bc_interpret_steps.specs.declared.forms.Primitive.TheVariants as primitive_forms
use Rattle.bc_interpret_steps.specs.Endings.{ending}
use Rattle.bc_interpret_steps.specs.declared.forms.Ending.TheVariants as endings
use Rattle.bc_interpret_steps.specs.declared.forms.Exit.{Exit}
use Rattle.bc_interpret_steps.specs.declared.forms.Progress.{Progress}
use Rattle.bc_interpret_steps.specs.declared.forms.Progress.TheVariants as progress
use Rattle.bc_interpret_defs.specs.Machine as machine
use Rattle.bc_interpret_defs.specs.Machine.{give, following, frame_taken}
use Rattle.bc_interpret_steps.specs.declared.continuations.Rest.{Rest}
use Rattle.bc_interpret_steps.specs.Code.{work_of, exit_of, stacked, then_given, stack, given}

-- the state of the code, over these streams, as the definitions have it
abbrev pub state_of : State → Content → outcomes.State
state_of st streams = record { cells = st.store; streams = streams; turns = st.turns }

-- a primitive, as the definitions have it
abbrev pub primitive_of : Primitive → primitives.Primitive
primitive_of (primitive_forms.Select side) = primitives.Select side
primitive_of primitive_forms.ReadByte = primitives.ReadByte
primitive_of primitive_forms.WriteByte = primitives.WriteByte
primitive_of (primitive_forms.Find side) = primitives.Find side
primitive_of (primitive_forms.EndStream side) = primitives.EndStream side

abbrev pub at : List ℕ → Work → List machine.Rest → machine.At
at vs w rs = record { work = work_of vs w; rests = rs }

-- Whatever the streams hold: the code reports the outcome of a step that calls nothing, with the continuations, the given arguments and
-- the state after it. If the step is wild, it is wild because of the cell that the cause names, and the continuations that the code leaves have
-- its trail.
abbrev pub Came : List Standing → machine.Step → (old : State) → Progress → List machine.Rest → List ℕ → (new : State) → Type 0
Came trail r old (progress.On w) rs vs new = (streams : Content) → r (state_of old streams) ≡ outcomes.Done (at vs w rs) (state_of new streams)
Came trail r old (progress.Serve q call) rs vs new = ⊥
Came trail r old progress.Answered rs vs new = ⊥
Came trail r old (progress.Ended e) rs vs new = (streams : Content) → r (state_of old streams) ≡ outcomes.Ended (ending e) streams
Came trail r old progress.Going rs vs new = (streams : Content) → r (state_of old streams) ≡ outcomes.Going streams
Came trail r old (progress.Wild c) rs vs new =
    ((streams : Content) → r (state_of old streams) ≡ outcomes.Wild) × IsWildBy r old.store (cause_of c) × (trail_in rs ≡ trail)

-- the same of a step that isn't wild, so that it needs no trail
abbrev pub Went : machine.Step → (old : State) → Progress → List machine.Rest → List ℕ → (new : State) → Type 0
Went r old (progress.Wild c) rs vs new = ⊥
Went r old p rs vs new = Came [] r old p rs vs new

-- the same; a step that is reported as malformed is wild whatever the cells hold
abbrev pub CameOrMalformed : List Standing → machine.Step → (old : State) → Progress → List machine.Rest → List ℕ → (new : State) → Type 0
CameOrMalformed trail r old (progress.Wild causes.Malformed) rs vs new = ((st : outcomes.State) → r st ≡ outcomes.Wild) × (trail_in rs ≡ trail)
CameOrMalformed trail r old p rs vs new = Came trail r old p rs vs new

-- the same with the continuations as the interpreter keeps them; t says what trail a wild step has
abbrev pub GoesAt :
    (List machine.Rest → List Standing) → (List machine.Rest → machine.Step) → (before : List Rest) → (old : State) → Progress → (after : List Rest)
    → (new : State) → Type 0
GoesAt t f before old p after new = Came (t (stack before)) (f (stack before)) old p (stack after) (given after) new

abbrev pub GoesAtOrMalformed :
    (List machine.Rest → List Standing) → (List machine.Rest → machine.Step) → (before : List Rest) → (old : State) → Progress → (after : List Rest)
    → (new : State) → Type 0
GoesAtOrMalformed t f before old p after new = CameOrMalformed (t (stack before)) (f (stack before)) old p (stack after) (given after) new

-- the same where the trail is that of these continuations
abbrev pub Goes : (List machine.Rest → machine.Step) → (before : List Rest) → (old : State) → Progress → (after : List Rest) → (new : State) → Type 0
Goes f before old p after new = Came (trail_in (stack before)) (f (stack before)) old p (stack after) (given after) new

abbrev pub GoesOrMalformed : (List machine.Rest → machine.Step) → (before : List Rest) → (old : State) → Progress → (after : List Rest) → (new : State) → Type 0
GoesOrMalformed f before old p after new = CameOrMalformed (trail_in (stack before)) (f (stack before)) old p (stack after) (given after) new

-- what comes next is `next`, and the continuation r takes its answer
abbrev pub StandsAfter : Rest → Progress → (before : List Rest) → Progress → (after : List Rest) → Type 0
StandsAfter r next before p after =
    (stack after ≡ stacked (stack before) (given before) r) × (given after ≡ then_given (given before) r) × (p ≡ next)

-- a turn was taken, or none remains
abbrev pub Turned : Bool → State → State → Type 0
Turned true old new = (r : machine.Step) (streams : Content) → in_turn r (state_of old streams) ≡ r (state_of new streams)
Turned false old new = ((r : machine.Step) (streams : Content) → in_turn r (state_of old streams) ≡ outcomes.Going streams) × (new ≡ old)

-- a cell was written, or isn't live
abbrev pub Wrote : State → (address word : ℕ) → Option Cause → State → Type 0
Wrote old a w None new = ((streams : Content) → write a w (state_of old streams) ≡ outcomes.Done tt (state_of new streams)) × (cell_at old.store a ≢ Dead) × (new.store ≡ slice_set old.store a (Set w))
Wrote old a w (Some c) new = ((streams : Content) → write a w (state_of old streams) ≡ outcomes.Wild) × IsWildBy (write a w) old.store (cause_of c)

-- the outcome of a step that evaluates an expression with this worth
abbrev pub progress_of : Worth → Progress
progress_of (worths.Is v) = progress.On (works.Number v)
progress_of worths.Divides = progress.Ended endings.ZeroDivide
progress_of (worths.Fails c) = progress.Wild c

-- the outcome of a step that decides an expression with this truth
abbrev pub progress_of_truth : Truth → Progress
progress_of_truth (truths.Is t) = progress.On (works.Verdict t)
progress_of_truth truths.Divides = progress.Ended endings.ZeroDivide
progress_of_truth (truths.Fails c) = progress.Wild c

-- what a pure expression depends on there
abbrev pub sight : State → machine.Spot → quiet.Sight
sight st E = record { cells = st.store; address = E.address; frame = E.frame }

-- what follows a loop's body that control leaves with this exit
abbrev pub IsAfter : Option Exit → exits.Exit → Type 0
IsAfter None x = (again : machine.Step) (rs : List machine.Rest) → following again x rs ≡ again
IsAfter (Some y) x = (again : machine.Step) (rs : List machine.Rest) → following again x rs ≡ give (machine.Left (exit_of y)) rs

-- how control leaves a SWITCHON, given how it leaves its list
abbrev pub IsAfterCases : (out within : exits.Exit) → Type 0
IsAfterCases out within = (st : outcomes.State) → lists.after_cases within st ≡ outcomes.Done out st

-- whether a call can go on in a frame at f
abbrev pub Framed : Fit → (f size : ℕ) → State → State → Type 0
Framed fits.Fits f size old new =
    ((r : machine.Step) (streams : Content) → frame_taken f size r (state_of old streams) ≡ r (state_of new streams)) × (new.store ≡ old.store) × (f + size ≤ 65536)
Framed fits.TooLarge f size old new =
    (65536 < f + size) × ((r : machine.Step) (streams : Content) → frame_taken f size r (state_of old streams) ≡ outcomes.Wild)
Framed fits.NoTurn f size old new = (r : machine.Step) (streams : Content) → frame_taken f size r (state_of old streams) ≡ outcomes.Going streams

abbrev pub primitive_if : Option Primitive → Option primitives.Primitive
primitive_if None = None
primitive_if (Some q) = Some (primitive_of q)

-- the primitive that is found for this address, if there is one
abbrev pub IsPrimitive : Option Primitive → ℕ → Type 0
IsPrimitive found a = primitive_if found ≡ primitives.primitive_among primitives.primitives a
