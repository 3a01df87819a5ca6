-- For proofs: the results of primitives.
use Rattle.std.specs.Prelude.{ℕ, ◌≡◌, ◌+◌, ◌-◌, ◌≤◌, List, ◌++◌, Option, Some, None, Result, Ok, Err}
use Rattle.bc_machine_defs.specs.Streams.{Content}
use Rattle.bc_machine.specs.Rose.{Rose}
use Rattle.bc_core.specs.Outcome as outcomes
use Rattle.bc_core.specs.Outcome.{Run, followed, left}
use Rattle.bc_core.specs.Primitive.{Primitive, bytes_of_string, primitive_work}
use Rattle.bc_interpret_defs.specs.Meeting.{KeepsWords, IsWildBy}
use Rattle.bc_interpret_pure.specs.declared.context.Cause.{Cause}
use Rattle.bc_interpret_pure.specs.Causes.{cause_of}
use Rattle.bc_interpret_steps.specs.declared.state.State.{State}
use Rattle.bc_interpret_steps.specs.Came.{state_of}
use Rattle.bc_interpret.specs.declared.serve.Served.{Served}
use Rattle.bc_interpret.specs.declared.serve.Served.TheVariants as forms

-- The outcome of a run that changes nothing, in each state that has the words of this store. If it is wild, it is wild because of the cell
-- that is named.
abbrev pub Gets : {A : Type 0} → Run A → State → Result A Cause → Type 0
Gets r st (Ok x) = (seen : outcomes.State) → KeepsWords st.store seen → r seen ≡ outcomes.Done x seen
Gets r st (Err c) = IsWildBy r st.store (cause_of c)

-- the same for the bytes of a name
abbrev pub GetsName : Run (List ℕ) → State → Option Cause → List ℕ → Type 0
GetsName r st None bytes = (seen : outcomes.State) → KeepsWords st.store seen → r seen ≡ outcomes.Done bytes seen
GetsName r st (Some c) bytes = IsWildBy r st.store (cause_of c)

-- the first k bytes of the string at this address have been read, and the others remain
abbrev pub Naming : State → (address length k : ℕ) → List ℕ → Type 0
Naming st address length k name =
    (seen : outcomes.State) → KeepsWords st.store seen
    → bytes_of_string length 1 address seen ≡ followed (bytes_of_string (length - k) (k + 1) address seen) (λ rest. outcomes.Done (name ++ rest))

-- the outcome of a run over these streams
abbrev pub Serves : Run ℕ → (old : State) → (before : Content) → Served → (new : State) → (after : Content) → Type 0
Serves r old before (forms.Number v) new after = r (state_of old before) ≡ outcomes.Done v (state_of new after)
Serves r old before (forms.Wild c) new after = r (state_of old before) ≡ outcomes.Wild
Serves r old before forms.Device new after = Unit {0}

-- if it gives a number, it gives some number whatever the streams hold; so the step counts even if nothing is known of the streams
abbrev pub Numbers : Run ℕ → (old : State) → Served → (new : State) → Type 0
Numbers r old (forms.Number v) new = (streams : Content) → (w : ℕ) × (after : Content) × (r (state_of old streams) ≡ outcomes.Done w (state_of new after))
Numbers r old (forms.Wild c) new = Unit {0}
Numbers r old forms.Device new = Unit {0}

-- if it reports a wild access, the work is wild because of the cell that is named
abbrev pub Blames : Run ℕ → (old : State) → Served → Type 0
Blames work old (forms.Number v) = Unit {0}
Blames work old (forms.Wild c) = IsWildBy work old.store (cause_of c)
Blames work old forms.Device = Unit {0}

-- the outcome of a primitive's work, or of a run r that begins with it, over streams whose content may be known
pub record Works (work r : Run ℕ) (old new : State)
    (known tells : Type 0) (before after : Content) (failures risen : ℕ) (served : Served) : Type 0 where
  pub exact : known → Serves r old before served new after
  pub numbers : Numbers r old served new
  pub blamed : Blames work old served
  pub kept : known → tells
  pub failed : served ≡ forms.Device → Rose failures risen
  pub counted : failures ≤ risen

-- the same for streams, given what is known of them, what they hold and how often they failed
abbrev pub WorksOn :
    {T : Type 0} → (T → Type 0) → (T → Content) → (T → ℕ) → (work r : Run ℕ) → (old new : State) → T → T → Served → Type 0
WorksOn {T} known content failures work r old new streams streams_new served =
    Works work r old new (known streams) (known streams_new) (content streams) (content streams_new) (failures streams) (failures streams_new) served

-- a primitive in the frame at f, which changes no cell
abbrev pub ServesOn :
    {T : Type 0} → (T → Type 0) → (T → Content) → (T → ℕ) → Primitive → (f : ℕ) → State → T → T → Served → Type 0
ServesOn known content failures q f st streams streams_new served =
    WorksOn known content failures (primitive_work q f) (primitive_work q f) st st streams streams_new served

-- a primitive whose argument is at this address
abbrev pub ServesAt :
    {T : Type 0} → (T → Type 0) → (T → Content) → (T → ℕ) → (argument : ℕ) → Primitive → State → T → T → Served → Type 0
ServesAt known content failures argument q st streams streams_new served =
    (f : ℕ) → argument ≡ f + 2 → ServesOn known content failures q f st streams streams_new served

-- the work of a primitive in the frame at f, after which the cell of its argument is freed
abbrev pub serving : Primitive → ℕ → Run ℕ
serving q f = λ st. left 1 (f + 2) (primitive_work q f st)

-- a primitive in the frame at f, after which the cell of its argument is freed
abbrev pub ServesIn :
    {T : Type 0} → (T → Type 0) → (T → Content) → (T → ℕ) → Primitive → (f : ℕ) → (old new : State) → T → T → Served → Type 0
ServesIn known content failures q f old new streams streams_new served =
    WorksOn known content failures (primitive_work q f) (serving q f) old new streams streams_new served
