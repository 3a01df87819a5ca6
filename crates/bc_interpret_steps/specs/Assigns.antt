-- For proofs: pure assignments, and what comes next in a list.
use Rattle.std.specs.Prelude.{ℕ, ◌≡◌, ◌≢◌, ◌||◌, ◌∷◌, true, false, List, Option, Some, None, slice_set}
use Rattle.bc_machine_defs.specs.Streams.{Content}
use Rattle.bc_core.specs.Tree.{Exp}
use Rattle.bc_core.specs.Commands.{Command, Items}
use Rattle.bc_core.specs.Lists.{Beginning}
use Rattle.bc_interpret_defs.specs.Meeting.{KeepsWords, IsWildBy}
use Rattle.bc_core.specs.Store.{Dead, Set, cell_at}
use Rattle.bc_core.specs.Outcome as outcomes
use Rattle.bc_interpret_pure.specs.Causes.{cause_of}
use Rattle.bc_core.specs.Outcome.{Run, Outcome, Done, Ended, Wild, ZeroDivide, followed, second_side, write}
use Rattle.bc_core.specs.Value.{has_call, assign}
use Rattle.bc_core.specs.View.{command as command_view, items, items_before}
use Rattle.bc_core.specs.declared.command.ListItem.{ListItem}
use Rattle.bc_interpret_defs.specs.Quiet as quiet_forms
use Rattle.bc_interpret_defs.specs.Quiet.{settled}
use Rattle.bc_interpret_defs.specs.Machine as machine
use Rattle.bc_interpret_defs.specs.Machine.{quiet, first_command, next_command}
use Rattle.bc_interpret_steps.specs.declared.state.State.{State}
use Rattle.bc_interpret_steps.specs.declared.forms.Entry.{Entry}
use Rattle.bc_interpret_steps.specs.declared.assign.Assigned.{Assigned}
use Rattle.bc_interpret_steps.specs.declared.assign.Assigned.TheVariants as forms
use Rattle.bc_interpret_steps.specs.declared.lists.Found.{Found}
use Rattle.bc_interpret_steps.specs.declared.lists.Next.{Next}
use Rattle.bc_interpret_steps.specs.declared.lists.Next.TheVariants as nexts
use Rattle.bc_interpret_steps.specs.Code.{entry_of}
use Rattle.bc_interpret_steps.specs.Came.{state_of}

-- the outcome of an assignment
abbrev pub outcome_of : Assigned → State → Content → Outcome (Unit {0})
outcome_of forms.Done new streams = Done tt (state_of new streams)
outcome_of forms.Divides new streams = Ended ZeroDivide streams
outcome_of (forms.Fails c) new streams = Wild

-- an assignment that was performed wrote one word, wherever the words stand; one that fails is wild because of the cell that is named
abbrev pub Tells : Run (Unit {0}) → Assigned → (old new : State) → Type 0
Tells run forms.Done old new =
    (address : ℕ) × (word : ℕ) × (cell_at old.store address ≢ Dead) × (new.store ≡ slice_set old.store address (Set word))
    × ((st : outcomes.State) → KeepsWords old.store st → run st ≡ write address word st)
Tells run forms.Divides old new = Unit {0}
Tells run (forms.Fails c) old new = IsWildBy run old.store (cause_of c)

-- the step in which it failed is wild because of that cell
abbrev pub TellsFirst : machine.Step → Assigned → (old : State) → Type 0
TellsFirst first (forms.Fails c) old = IsWildBy first old.store (cause_of c)
TellsFirst first _ old = Unit {0}

-- of the worths of the value and of the address, which one fails, or what is written
abbrev pub Blames : quiet_forms.Worth ℕ → quiet_forms.Worth ℕ → Assigned → (old new : State) → Type 0
Blames (quiet_forms.Fails d) x (forms.Fails c) old new = d ≡ cause_of c
Blames w (quiet_forms.Fails d) (forms.Fails c) old new = d ≡ cause_of c
Blames (quiet_forms.Is word) (quiet_forms.Is address) (forms.Fails c) old new = IsWildBy (write address word) old.store (cause_of c)
Blames (quiet_forms.Is word) (quiet_forms.Is address) forms.Done old new =
    (cell_at old.store address ≢ Dead) × (new.store ≡ slice_set old.store address (Set word))
Blames w x forms.Divides old new = Unit {0}
Blames w x came old new = ⊥

-- an assignment whose sides have these worths
abbrev pub BothWorth : quiet_forms.Worth ℕ → quiet_forms.Worth ℕ → (old : State) → Assigned → (new : State) → Type 0
BothWorth w x old done new =
    ((streams : Content) → second_side false (settled w (state_of old streams)) (settled x) (λ word address. write address word) (state_of old streams) ≡
    outcome_of done new streams)
    × Blames w x done old new

-- it was performed, or it contains a call
abbrev pub IsAssigned : machine.Spot → (value address : Exp) → (old : State) → Option Assigned → (new : State) → Type 0
IsAssigned E v a old None new = ((has_call v || has_call a) ≡ true) × (new ≡ old)
IsAssigned E v a old (Some done) new =
    ((has_call v || has_call a) ≡ false) × ((s : ℕ) (streams : Content) → assign (quiet E) v a E.frame s (state_of old streams) ≡ outcome_of done new streams)
    × ((s : ℕ) → Tells (assign (quiet E) v a E.frame s) done old new)

-- the first command of a list was performed as a pure assignment, or is performed next
abbrev pub IsDone : machine.Spot → Command → (old : State) → Option Assigned → (new : State) → Type 0
IsDone E c old None new =
    ((is : Items) (s : ℕ) (rs : List machine.Rest) → first_command E c is s rs ≡ machine.go (machine.Perform E c s) (machine.Follows E is s ∷ rs))
    × (new ≡ old)
IsDone E c old (Some done) new =
    ((is : Items) (s : ℕ) (rs : List machine.Rest) (streams : Content)
    → first_command E c is s rs (state_of old streams) ≡ followed (outcome_of done new streams) (λ u. machine.go_on E is s rs))
    × ((is : Items) (s : ℕ) (rs : List machine.Rest) → TellsFirst (first_command E c is s rs) done old)

-- what comes next in a list that begins with this item and is entered at `at`
abbrev pub IsNext : Next → ListItem → Entry → Type 0
IsNext (nexts.Passes next) i at = (is : Items) → next_command (items_before i is) (entry_of at) ≡ next_command is (entry_of next)
IsNext (nexts.Does c) i at = (is : Items) → next_command (items_before i is) (entry_of at) ≡ Some (command_view c.now, is)

-- the command with which a list goes on, and the items after it
abbrev pub found_of : Option Found → Option (Command × Items)
found_of None = None
found_of (Some f) = Some (command_view f.command.now, items f.following.now)
