-- For proofs: what a step, a stretch of steps, and a whole run preserve.
use Rattle.std.specs.Prelude.{ℕ, ◌≡◌, ◌<◌, ◌≤◌, List, ◌∷◌}
use Rattle.bc_machine_defs.specs.Streams.{Content}
use Rattle.bc_machine.specs.Rose.{Rose}
use Rattle.bc_core.specs.Map.{Placed, standing}
use Rattle.bc_core.specs.Start.{start_cells}
use Rattle.bc_core.specs.Outcome as outcomes
use Rattle.bc_core.specs.Meaning.{Result, calls, result_of, meaning_over, entered_at}
use Rattle.bc_interpret_defs.specs.Machine as machine
use Rattle.bc_interpret_defs.specs.Resume.{meant}
use Rattle.bc_interpret_defs.specs.Weight.{weight}
use Rattle.bc_interpret_defs.specs.Causes.{Cause}
use Rattle.bc_interpret_defs.specs.Meeting.{ComesTo}
use Rattle.bc_interpret_defs.specs.Trails.{Standing, trail_in, begun}
use Rattle.bc_interpret_defs.specs.Running.{start_at, start_state}
use Rattle.bc_interpret_steps.specs.declared.forms.Work.{Work}
use Rattle.bc_interpret_steps.specs.declared.forms.Work.TheVariants as works
use Rattle.bc_interpret_steps.specs.declared.forms.Progress.{Progress}
use Rattle.bc_interpret_steps.specs.declared.forms.Progress.TheVariants as progress
use Rattle.bc_interpret_steps.specs.declared.continuations.Rest.{Rest}
use Rattle.bc_interpret_steps.specs.declared.sections.Callable.{Callable}
use Rattle.bc_interpret_steps.specs.declared.state.State.{State}
use Rattle.bc_interpret_steps.specs.declared.state.Stacks.{Stacks}
use Rattle.bc_interpret_steps.specs.declared.forms.OpenCall.{OpenCall}
use Rattle.bc_interpret_steps.specs.Code.{stack, given, open_call}
use Rattle.bc_interpret_steps.specs.Came.{state_of, at}
use Rattle.bc_interpret_steps.specs.Sections.{IsTable}
use Rattle.bc_interpret_steps.specs.Stepped.{Stepped}
use Rattle.bc_interpret_steps.specs.Passing.{Ran, work_next}
use Rattle.bc_interpret.specs.declared.run.Run.{Run}
use Rattle.bc_interpret.specs.declared.run.Moved.{Moved}
use Rattle.bc_interpret.specs.declared.run.Moved.TheVariants.{On, Over}
use Rattle.bc_interpret.specs.declared.run.Interpreted.{Interpreted}
use Rattle.bc_interpret.specs.declared.run.Outcome.{Outcome}
use Rattle.bc_interpret.specs.declared.run.Outcome.TheVariants as outs
use Rattle.bc_interpret.specs.declared.serve.Served.{Served}
use Rattle.bc_interpret.specs.declared.serve.Served.TheVariants as forms
use Rattle.bc_interpret.specs.Results.{IsResult, Names, NamesBy}

-- some program has this table
abbrev pub HasProgram : List Callable → Type 0
HasProgram table = (program : List Placed) × IsTable program table

-- the machine's state: this work, with these continuations
abbrev pub at_of : Work → List Rest → machine.At
at_of w rests = at (given rests) w (stack rests)

abbrev pub weight_of : Work → List Rest → ℕ
weight_of w rests = let a = at_of w rests in weight a.work a.rests

-- the outcome of a step from here
abbrev pub StepIs : List Placed → machine.At → State → Progress → List Rest → State → Type 0
StepIs program a old p rests1 new = Stepped program a.work a.rests old p (stack rests1) (given rests1) new

-- the outcome of steps that change nothing and a last one after them
abbrev pub RanIs : List Placed → Work → List Rest → State → Progress → List Rest → State → Type 0
RanIs program w rests old p rests1 new = Ran program (at_of w rests) old p (stack rests1) (given rests1) new

-- the result of the remaining run from here, where calls of this program may nest n deep
abbrev pub left_from : List Placed → ℕ → machine.At → State → Content → Result
left_from program n a st streams = result_of (meant (calls program n) a (state_of st streams))

abbrev pub left_of : List Placed → ℕ → Work → List Rest → State → Content → Result
left_of program n w rests st streams = left_from program n (at_of w rests) st streams

-- the next work of a run
abbrev pub next_of : Run → Work
next_of run = work_next run.stacks.next

-- the outcome of a step of a run
abbrev pub StepsTo : List Callable → Run → Run → Type 0
StepsTo table old new =
    (program : List Placed) → IsTable program table
    → RanIs program (next_of old) old.stacks.rests.items old.state new.stacks.next new.stacks.rests.items new.state

-- how the result of a primitive, which this call called, continues or ends a run; if it ends, that call is open
abbrev pub MovesBy : Served → OpenCall → Moved → (after : Stacks) → (before : Stacks) → Type 0
MovesBy (forms.Number v) call moved after before = (moved ≡ On) × (after ≡ record before { next = progress.On (works.Number v) })
MovesBy (forms.Wild c) call moved after before =
    (moved ≡ Over (outs.Wild c)) × (trail_in (stack after.rests.items) ≡ begun call.routine call.frame ∷ trail_in (stack before.rests.items))
MovesBy forms.Device call moved after before = moved ≡ Over outs.Device

-- this is the result of the remaining run, or the one with which the run is over
abbrev pub Comes : List Placed → ℕ → Result → Moved → Run → Content → Type 0
Comes program n r On run streams = r ≡ left_of program n (next_of run) run.stacks.rests.items run.state streams
Comes program n r (Over o) run streams = IsResult r o streams

abbrev pub Keeps : List Callable → Work → Run → Content → Moved → Run → Content → Type 0
Keeps table w old before moved new after =
    (program : List Placed) → IsTable program table → (n : ℕ) → old.state.turns < n
    → Comes program n (left_of program n w old.stacks.rests.items old.state before) moved new after

-- a wild step that the machine reaches from the next work, it also reaches from here; if the run is over, it reaches the reported one, and
-- its trail is that of the continuations that are left
abbrev pub Leads : List Placed → machine.At → outcomes.State → Moved → Run → Content → Type 0
Leads program from start On run streams =
    (cause : Cause) (trail : List Standing)
    → ComesTo program (at_of (next_of run) run.stacks.rests.items) (state_of run.state streams) cause trail → ComesTo program from start cause trail
Leads program from start (Over o) run streams = Names program from start o (trail_in (stack run.stacks.rests.items))

abbrev pub Tracks : List Callable → Work → Run → Content → Moved → Run → Content → Type 0
Tracks table w old before moved new after =
    (program : List Placed) → IsTable program table → Leads program (at_of w old.stacks.rests.items) (state_of old.state before) moved new after

abbrev pub Lessened : Work → Run → Moved → Run → Type 0
Lessened w old On new =
    (new.state.turns ≤ old.state.turns)
    × (old.state.turns ≤ new.state.turns → weight_of (next_of new) new.stacks.rests.items < weight_of w old.stacks.rests.items)
Lessened w old (Over o) new = Unit {0}

abbrev pub TookTurn : Moved → Run → Run → Type 0
TookTurn On old new = new.state.turns < old.state.turns
TookTurn (Over o) old new = Unit {0}

-- the outcome of one step, over streams whose content may be known
pub record Advanced (table : List Callable) (w : Work) (old new : Run)
    (known tells : Type 0) (before after : Content) (failures risen : ℕ) (moved : Moved) : Type 0 where
  pub keeps : known → Keeps table w old before moved new after
  pub tracks : known → Tracks table w old before moved new after
  pub lessened : Lessened w old moved new
  pub kept : known → tells
  pub failed : moved ≡ Over outs.Device → Rose failures risen
  pub counted : failures ≤ risen

-- the outcome of steps up to the first one that takes a turn
pub record Stretched (table : List Callable) (w : Work) (old new : Run)
    (known tells : Type 0) (before after : Content) (failures risen : ℕ) (moved : Moved) : Type 0 where
  pub keeps : known → Keeps table w old before moved new after
  pub tracks : known → Tracks table w old before moved new after
  pub turn : TookTurn moved old new
  pub kept : known → tells
  pub failed : moved ≡ Over outs.Device → Rose failures risen
  pub counted : failures ≤ risen

-- the outcome of a run to its end
pub record Completed (table : List Callable) (w : Work) (old new : Run)
    (known tells : Type 0) (before after : Content) (failures risen : ℕ) (outcome : Outcome) : Type 0 where
  pub means : known → (program : List Placed) → IsTable program table → (n : ℕ) → old.state.turns < n
      → IsResult (left_of program n w old.stacks.rests.items old.state before) outcome after
  pub names : known → (program : List Placed) → IsTable program table → Names program (at_of w old.stacks.rests.items) (state_of old.state before) outcome
      (trail_in (stack new.stacks.rests.items))
  pub kept : known → tells
  pub failed : outcome ≡ outs.Device → Rose failures risen
  pub counted : failures ≤ risen

-- one step, given what is known of the streams, what they hold and how often they failed
abbrev pub AdvancedOn :
    {T : Type 0} → (T → Type 0) → (T → Content) → (T → ℕ) → List Callable → Work → (old new : Run) → T → T → Moved → Type 0
AdvancedOn {T} known content failures table w old new streams streams_new moved =
    Advanced table w old new (known streams) (known streams_new) (content streams) (content streams_new) (failures streams) (failures streams_new) moved

-- the same of the steps up to the first one that takes a turn
abbrev pub StretchedOn :
    {T : Type 0} → (T → Type 0) → (T → Content) → (T → ℕ) → List Callable → Work → (old new : Run) → T → T → Moved → Type 0
StretchedOn {T} known content failures table w old new streams streams_new moved =
    Stretched table w old new (known streams) (known streams_new) (content streams) (content streams_new) (failures streams) (failures streams_new) moved

-- the same of a run to its end
abbrev pub CompletedOn :
    {T : Type 0} → (T → Type 0) → (T → Content) → (T → ℕ) → List Callable → Work → (old new : Run) → T → T → Outcome → Type 0
CompletedOn {T} known content failures table w old new streams streams_new outcome =
    Completed table w old new (known streams) (known streams_new) (content streams) (content streams_new) (failures streams) (failures streams_new) outcome

-- the outcome of a program's run from its start
pub record RunOf (program : List Placed) (stack_base turns : ℕ)
    (known tells : Type 0) (before after : Content) (failures risen : ℕ) (i : Interpreted) : Type 0 where
  pub means : known → IsResult (meaning_over (start_cells (standing program)) (entered_at program) stack_base before turns) i.outcome after
  pub names : known → NamesBy program (start_at stack_base) (start_state program before turns) i
  pub kept : known → tells
  pub failed : i.outcome ≡ outs.Device → Rose failures risen
  pub counted : failures ≤ risen

-- the same of a program's run, given what is known of the streams, what they hold and how often they failed
abbrev pub RunOn :
    {T : Type 0} → (T → Type 0) → (T → Content) → (T → ℕ) → List Placed → ℕ → ℕ → T → T → Interpreted → Type 0
RunOn {T} known content failures program stack_base turns streams streams_new i =
    RunOf program stack_base turns (known streams) (known streams_new) (content streams) (content streams_new) (failures streams) (failures streams_new) i
