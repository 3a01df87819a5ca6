-- For proofs: several steps at once. All but the last one change no cell and take no turn.
use Rattle.std.specs.Prelude.{ℕ, ◌≡◌, ◌⊎◌, ◌-◌, ◌<◌, slice_get, Bool, true, false, List, [], ◌∷◌, ◌++◌, length, Option, Some, None, Vec, Result, OnOk}
use Rattle.std.specs.declared.alloc.Global.{Global}
use Rattle.bc_core.specs.Commands.{Items}
use Rattle.bc_core.specs.Exit as exits
use Rattle.bc_core.specs.Map.{Placed}
use Rattle.bc_core.specs.Outcome as outcomes
use Rattle.bc_core.specs.Tree.{Exp, Bin, Call}
use Rattle.bc_core.specs.View.{exp, args}
use Rattle.bc_core.specs.Value.{has_call}
use Rattle.bc_interpret_defs.specs.Quiet.{worth}
use Rattle.bc_interpret_pure.specs.declared.value.Worth.{Worth}
use Rattle.bc_interpret_pure.specs.Views.{seen}
use Rattle.bc_interpret_defs.specs.Machine as machine
use Rattle.bc_machine_defs.specs.Streams.{Content}
use Rattle.bc_interpret_defs.specs.Machine.{step}
use Rattle.bc_interpret_defs.specs.Running.{Moves}
use Rattle.bc_interpret_steps.specs.declared.state.State.{State}
use Rattle.bc_interpret_steps.specs.declared.forms.Exit.{Exit}
use Rattle.bc_interpret_steps.specs.declared.forms.Work.{Work}
use Rattle.bc_interpret_steps.specs.declared.forms.Work.TheVariants as works
use Rattle.bc_interpret_steps.specs.declared.forms.Progress.{Progress}
use Rattle.bc_interpret_steps.specs.declared.forms.Progress.TheVariants as progress
use Rattle.bc_interpret_steps.specs.declared.descend.FirstCall.{FirstCall}
use Rattle.bc_interpret_steps.specs.declared.operands.Operator.{Operator}
use Rattle.bc_interpret_steps.specs.declared.continuations.NumberRest.TheVariants as number_rests
use Rattle.bc_interpret_steps.specs.declared.continuations.ExitRest.{ExitRest}
use Rattle.bc_interpret_steps.specs.declared.continuations.Rest.{Rest}
use Rattle.bc_interpret_steps.specs.declared.continuations.Rest.TheVariants as rests
use Rattle.bc_interpret_steps.specs.declared.sections.Callable.{Callable}
use Rattle.bc_interpret_steps.specs.Came.{state_of, sight, progress_of}
use Rattle.bc_interpret_steps.specs.Code.{exit_of, exit_rest, stack, given}
use Rattle.bc_interpret_steps.specs.Sections.{IsTable}
use Rattle.bc_interpret_steps.specs.Stepped.{Stepped}

-- the work that comes next: where there is none, the answer Nothing is given
abbrev pub work_next : Progress → Work
work_next (progress.On w) = w
work_next p = works.Nothing

-- such steps lead from one state of the machine to another by way of these, and leave the cells and turns as they are
abbrev pub Passes : List Placed → State → (from : machine.At) → (along : List machine.At) → (to : machine.At) → Type 0
Passes program old from [] to = from ≡ to
Passes program old from (middle ∷ along) to =
    Passes program old from along middle × Moves middle.work middle.rests
    × ((streams : Content) → step program middle.work middle.rests (state_of old streams) ≡ outcomes.Done to (state_of old streams))

-- such steps, and then one with this outcome
pub record Ran (program : List Placed) (from : machine.At) (old : State) (p : Progress) (rs : List machine.Rest) (vs : List ℕ) (new : State) : Type 0 where
  pub middle : machine.At
  pub along : List machine.At
  pub passes : Passes program old from along middle
  pub comes : Stepped program middle.work middle.rests old p rs vs new

-- the promise of `step`: for any program that has this table, such steps with this outcome, unless memory ran out
abbrev pub RunsOver :
    {A E : Type 0}
    → List Callable → machine.Work → (before : Vec Rest Global) → (old : State) → Result A E → Progress → (after : Vec Rest Global) → (new : State) → Type 0
RunsOver table w before old result p after new =
    (program : List Placed) → IsTable program table
    → OnOk result (Ran program (record { work = w; rests = stack before.items }) old p (stack after.items) (given after.items) new)

-- the machine is about to evaluate this expression
abbrev pub evaluating : machine.Spot → Exp → ℕ → List machine.Rest → machine.At
evaluating E e s rs = record { work = machine.Evaluate E e s; rests = rs }

-- such steps, beginning with an expression
abbrev pub RunsInto :
    {A F : Type 0}
    → List Callable → machine.Spot → Exp → ℕ → (before : Vec Rest Global) → (old : State) → Result A F → Progress → (after : Vec Rest Global) → (new : State)
    → Type 0
RunsInto table E e s before old result p after new = RunsOver table (machine.Evaluate E e s) before old result p after new

-- the worth of the expression; or such steps, if it contains a call
abbrev pub Entered : List Placed → machine.Spot → Exp → ℕ → (before : List Rest) → (old : State) → Progress → (after : List Rest) → (new : State) → Type 0
Entered program E e s before old p after new =
    ((w : Worth) × (has_call e ≡ false) × (seen w ≡ (worth (sight old E) e).value) × (p ≡ progress_of w) × (stack after ≡ stack before) × (new ≡ old))
    ⊎ ((has_call e ≡ true) × Ran program (evaluating E e s (stack before)) old p (stack after) (given after) new)

-- the same as a result, for any program that has this table
abbrev pub Enters :
    {A F : Type 0}
    → List Callable → machine.Spot → Exp → ℕ → (before : Vec Rest Global) → (old : State) → Result A F → Progress → (after : Vec Rest Global) → (new : State)
    → Type 0
Enters table E e s before old result p after new =
    (program : List Placed) → IsTable program table → OnOk result (Entered program E e s before.items old p after.items new)

-- an operator whose first operand is a call
abbrev pub first_called : FirstCall → Exp
first_called o = Bin o.op (Call (args o.arguments.now) (exp o.routine.now)) (exp o.second.now)

-- the expression is that operator, if one is reported
abbrev pub IsFirstCall : Exp → Option FirstCall → Type 0
IsFirstCall e None = Unit {0}
IsFirstCall e (Some o) = first_called o ≡ e

-- the innermost continuation is this operator, which waits for its first operand
abbrev pub IsOperator : Option Operator → List Rest → Type 0
IsOperator None all = Unit {0}
IsOperator (Some o) all = slice_get all (length all - 1) ≡ Some (rests.Number (number_rests.Operates o.site o.op o.second))

-- the machine is about to give this exit to the innermost continuation
abbrev pub leaving : exits.Exit → List machine.Rest → machine.At
leaving x rs = record { work = machine.Give (machine.Left x); rests = rs }

-- in every state, giving the exit x to the continuations rs leads to giving y to the continuations rs1
abbrev pub PassesOn : exits.Exit → List machine.Rest → exits.Exit → List machine.Rest → Type 0
PassesOn x rs y rs1 = (program : List Placed) (old : State) → (along : List machine.At) × Passes program old (leaving x rs) along (leaving y rs1)

-- the items after a command that control leaves with this exit do nothing
abbrev pub IsLeft : Items → exits.Exit → Bool → Type 0
IsLeft is x false = Unit {0}
IsLeft is x true = (E : machine.Spot) (s : ℕ) (rs : List machine.Rest) → PassesOn x (machine.Follows E is s ∷ rs) x rs

-- the continuation passes on this exit, whatever continuations come after it
abbrev pub IsHandedOn : exits.Exit → ExitRest → Option Exit → Type 0
IsHandedOn x r None = Unit {0}
IsHandedOn x r (Some y) = (rs : List machine.Rest) → PassesOn x (exit_rest r ∷ rs) (exit_of y) rs

-- the continuation passes on this exit, and it is the one that is reported
abbrev pub IsPassedBy : exits.Exit → Rest → Exit → Type 0
IsPassedBy x (rests.Exit r) y = IsHandedOn x r (Some y)
IsPassedBy x r y = ⊥

-- if an exit is reported, the innermost continuation passes it on
abbrev pub IsPassed : exits.Exit → List Rest → Option Exit → Type 0
IsPassed x all None = Unit {0}
IsPassed x all (Some y) = (0 < length all) × ((below : List Rest) (top : Rest) → all ≡ below ++ top ∷ [] → IsPassedBy x top y)
