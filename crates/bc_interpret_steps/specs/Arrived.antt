-- For proofs: the outcome of a call, and of evaluating its arguments.
use Rattle.std.specs.Prelude.{ℕ, ◌≡◌, ◌+◌, ◌≤◌, Bool, false, List, [], ◌∷◌, ◌++◌, reverse, Option, Some, None, Result, OnOk}
use Rattle.bc_core.specs.Map.{Placed}
use Rattle.bc_core.specs.Meaning.{Callee, OfLibrary, callee, passed}
use Rattle.bc_core.specs.Outcome as outcomes
use Rattle.bc_core.specs.Outcome.{followed, left}
use Rattle.bc_core.specs.Primitive as primitives
use Rattle.bc_core.specs.Primitive.{primitive_frame, primitive_work}
use Rattle.bc_machine_defs.specs.Streams.{Content}
use Rattle.bc_core.specs.Tree.{Exp, Args, no_argument, argument}
use Rattle.bc_core.specs.Value.{has_call}
use Rattle.bc_core.specs.View.{exp, args}
use Rattle.bc_core.specs.declared.expression.CoreExp.{CoreExp}
use Rattle.bc_interpret_steps.specs.declared.arguments.Given.{Given}
use Rattle.bc_interpret_steps.specs.declared.arguments.Given.TheVariants as forms
use Rattle.bc_interpret_defs.specs.Machine as machine
use Rattle.bc_interpret_defs.specs.Quiet as quiet
use Rattle.bc_interpret_defs.specs.Quiet.{worth}
use Rattle.bc_interpret_defs.specs.Machine.{give, arrive}
use Rattle.bc_interpret_defs.specs.Meeting.{Refused, KeepsWords}
use Rattle.bc_interpret_defs.specs.Trails.{Standing, trail_in, begun}
use Rattle.bc_interpret_pure.specs.Causes.{cause_of}
use Rattle.bc_interpret_steps.specs.declared.forms.Arguments.{Arguments}
use Rattle.bc_interpret_steps.specs.declared.continuations.Rest.{Rest}
use Rattle.bc_interpret_steps.specs.declared.state.State.{State}
use Rattle.bc_interpret_steps.specs.declared.state.Stacks.{Stacks}
use Rattle.bc_interpret_steps.specs.declared.forms.Progress.{Progress}
use Rattle.bc_interpret_steps.specs.declared.forms.Progress.TheVariants as progress
use Rattle.bc_interpret_steps.specs.declared.sections.Callable.{Callable}
use Rattle.bc_interpret_steps.specs.Code.{spot_of, given_for, stack, given}
use Rattle.bc_interpret_steps.specs.Came.{state_of, primitive_of, Came, Goes}
use Rattle.bc_interpret_steps.specs.Sections.{IsTable}

-- the machine's step into the remaining arguments, after those that are given
abbrev pub Argued : Arguments → (before : List Rest) → List machine.Rest → machine.Step
Argued a before rs = machine.argue (spot_of a.site) (given_for a.fresh (given before)) (args a.left.now) a.level (exp a.routine.now) a.count a.site.level rs

-- the machine's step into the routine's value, once all arguments are given
abbrev pub ArguedLast : Arguments → (before : List Rest) → List machine.Rest → machine.Step
ArguedLast a before rs = machine.argue (spot_of a.site) (given_for a.fresh (given before)) no_argument a.level (exp a.routine.now) a.count a.site.level rs

-- the first argument is given and these remain; or the step is over with this outcome
abbrev pub IsGivenOne : Arguments → CoreExp → List CoreExp → (before : List Rest) → State → Given → Progress → (after : List Rest) → Type 0
IsGivenOne a first following before st (forms.One next) p after =
    (next.left.now ≡ following) × (stack after ≡ stack before)
    × ((seen : outcomes.State) → KeepsWords st.store seen
    → machine.argue (spot_of a.site) (given_for a.fresh (given before)) (argument (exp first) (args following)) a.level (exp a.routine.now) a.count
    a.site.level (stack before) seen
    ≡ Argued next after (stack after) seen)
IsGivenOne a first following before st forms.Over p after =
    Goes (machine.argue (spot_of a.site) (given_for a.fresh (given before)) (argument (exp first) (args following)) a.level (exp a.routine.now) a.count
    a.site.level) before st p after st

-- A primitive is called: its turn has been taken and its argument passed. The machine goes on with its work, then frees the cell of its
-- argument, then goes on with the continuations.
pub record IsServed (r : machine.Step) (called : Option Callee) (arguments : List ℕ) (f : ℕ) (q : primitives.Primitive) (g : ℕ)
    (old : State) (rs : List machine.Rest) (new : State) : Type 0 where
  pub comes : (streams : Content)
      → r (state_of old streams) ≡ followed (left 1 (g + 2) (primitive_work q g (state_of new streams))) (λ v. give (machine.Number v) rs)
  pub frame : g ≡ f
  pub is_primitive : called ≡ Some (OfLibrary q)
  pub has_argument : new.store ≡ passed 1 (f + 2) arguments old.store
  pub fits : f + primitive_frame ≤ 65536

-- the outcome of a step that calls the value, which is the address of this callee, with these arguments in the frame at f
abbrev pub Lands :
    List Standing → machine.Step → Option Callee → (value : ℕ) → (arguments : List ℕ) → (f : ℕ)
    → (old : State) → Progress → List machine.Rest → List ℕ → (new : State) → Type 0
Lands trail r called value arguments f old (progress.Serve q call) rs vs new =
    IsServed r called arguments f (primitive_of q) call.frame old rs new × (call.routine ≡ value) × (trail_in rs ≡ trail)
Lands trail r called value arguments f old (progress.Wild c) rs vs new =
    ((streams : Content) → r (state_of old streams) ≡ outcomes.Wild) × Refused called value f (cause_of c)
    × (trail_in rs ≡ begun value f ∷ trail)
Lands trail r called value arguments f old p rs vs new = Came trail r old p rs vs new

-- the outcome of calling this callee with the gathered arguments
abbrev pub Enters :
    {A E : Type 0} → Option Callee → (value frame : ℕ) → (before : Stacks) → (old : State) → Result A E → (after : Stacks) → (new : State) → Type 0
Enters called value f before old result after new =
    let vs = reverse before.arguments.items in
    OnOk result (Lands (trail_in (stack before.rests.items)) (arrive called value vs f (stack before.rests.items)) called value vs f old after.next
    (stack after.rests.items) (given after.rests.items) new)

-- the outcome of calling a value with the given arguments, or with none if the call is fresh
abbrev pub Arrives :
    {A E : Type 0}
    → List Callable → (value : ℕ) → (fresh : Bool) → (frame : ℕ)
    → (before : Stacks) → (old : State) → Result A E → (after : Stacks) → (new : State) → Type 0
Arrives table value fresh f before old result after new =
    (program : List Placed) → IsTable program table
    → let vs = given_for fresh (given before.rests.items) in
    OnOk result (Lands (trail_in (stack before.rests.items)) (arrive (callee program value) value vs f (stack before.rests.items)) (callee program value)
    value vs f old after.next (stack after.rests.items) (given after.rests.items) new)

-- the same with the arguments that were gathered
abbrev pub LandsAt :
    {A E : Type 0} → List Callable → (value frame : ℕ) → (before : Stacks) → (old : State) → Result A E → (after : Stacks) → (new : State) → Type 0
LandsAt table value f before old result after new =
    (program : List Placed) → IsTable program table → Enters (callee program value) value f before old result after new

-- these arguments contain no call, and these are their values
abbrev pub AreWorth : quiet.Sight → Args → List ℕ → Type 0
AreWorth S no_argument [] = Unit {0}
AreWorth S no_argument (v ∷ vs) = ⊥
AreWorth S (argument e es) [] = ⊥
AreWorth S (argument e es) (v ∷ vs) = (has_call e ≡ false) × (quiet.Is v ≡ (worth S e).value) × AreWorth S es vs

-- the values of the routine and of the arguments, if they were found
abbrev pub IsWorkedOut : quiet.Sight → Args → Exp → Option ℕ → List ℕ → Type 0
IsWorkedOut S es f None vs = Unit {0}
IsWorkedOut S es f (Some v) vs = AreWorth S es vs × (has_call f ≡ false) × (quiet.Is v ≡ (worth S f).value)

-- the values of the last arguments have been found, and the others remain
pub record WorkedOut (S : quiet.Sight) (all left : List CoreExp) (vs : List ℕ) : Type 0 where
  pub done : List CoreExp
  pub split : all ≡ left ++ done
  pub worths : AreWorth S (args done) (reverse vs)
