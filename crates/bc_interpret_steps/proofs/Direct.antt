-- A call whose routine is entered within the same step.
use Rattle.std.proofs.Common.{◌≡◌, ◌+◌, ℕ, Vec, List, [], ◌∷◌, ◌++◌, reverse, Option, Some, refl, sym, ap, subst, ◌∙◌, append_assoc}
use Rattle.std.proofs.lemmas.List.{append-nil, reverse-append}
use Rattle.std.specs.declared.alloc.Global.{Global}
use Rattle.bc_core.specs.Map.{Placed}
use Rattle.bc_core.specs.Meaning.{callee}
use Rattle.bc_core.specs.Tree.{Exp, Call, Args, no_argument, argument, count}
use Rattle.bc_core.specs.Level.{argument_level}
use Rattle.bc_core.specs.View.{exp, args}
use Rattle.bc_core.specs.declared.expression.CoreExp.{CoreExp}
use Rattle.bc_interpret_defs.specs.Machine as machine
use Rattle.bc_core.specs.Outcome as outcomes
use Rattle.bc_interpret_defs.specs.Meeting.{KeepsWords}
use Rattle.bc_interpret_defs.specs.Trails.{trail_in}
use Rattle.bc_interpret_defs.specs.Machine.{argue, evaluate_parts}
use Rattle.bc_interpret_defs.specs.Quiet as quiet_forms
use Rattle.bc_interpret_pure.specs.declared.value.Worth.{Worth}
use Rattle.bc_interpret_pure.specs.declared.value.Worth.TheVariants as worths
use Rattle.bc_interpret_pure.specs.Views.{IsWorth}
use Rattle.bc_interpret_steps.specs.declared.state.State.{State}
use Rattle.bc_interpret_steps.specs.declared.forms.Progress.{Progress}
use Rattle.bc_interpret_steps.specs.declared.forms.Progress.TheVariants as progress
use Rattle.bc_interpret_steps.specs.declared.forms.Work.TheVariants as works
use Rattle.bc_interpret_steps.specs.declared.continuations.Rest.{Rest}
use Rattle.bc_interpret_steps.specs.Code.{stack}
use Rattle.bc_interpret_steps.specs.Came.{state_of, Came, sight}
use Rattle.bc_interpret_steps.specs.Arrived.{Lands, AreWorth, IsWorkedOut, WorkedOut}
use Rattle.bc_interpret_steps.specs.Passing.{Passes, Ran, evaluating}
use Rattle.bc_interpret_steps.proofs.Argues.{given_one, last_valued}
use Rattle.bc_interpret_steps.proofs.Deciding.{came_exactly}
use Rattle.bc_interpret_steps.proofs.Handing.{landed}
use Rattle.bc_interpret_steps.proofs.Passing.{giving}
use Rattle.bc_interpret_steps.proofs.Quiet.{told_worth}

-- the values, from the last one on

pub none_done : (S : quiet_forms.Sight) (all : List CoreExp) → WorkedOut S all all []
none_done S all = record { done = []; split = sym (append-nil all); worths = tt }

pub one_done : (S : quiet_forms.Sight) (all left before : List CoreExp) (last : CoreExp) (vs : List ℕ) (found : Option Worth) (v : ℕ) (ws : List ℕ) → WorkedOut S all left vs → left ≡ before ++ last ∷ [] → IsWorth S (exp last) found → found ≡ Some (worths.Is v) → ws ≡ vs ++ v ∷ [] → WorkedOut S all before ws
one_done S all left before last vs found v ws h split is some pushed =
    let told = told_worth S (exp last) found (worths.Is v) is some in
    let P : List ℕ → Type 0 = λ us. AreWorth S (args (last ∷ h.done)) us in
    record {
      done = last ∷ h.done;
      split = h.split ∙ (ap (λ q. q ++ h.done) split ∙ append_assoc before (last ∷ []) h.done);
      worths = subst P (sym (ap reverse pushed ∙ reverse-append vs (v ∷ []))) (told.0, told.1, h.worths);
    }

pub all_done : (S : quiet_forms.Sight) (all left : List CoreExp) (vs : List ℕ) → WorkedOut S all left vs → left ≡ [] → AreWorth S (args all) (reverse vs)
all_done S all left vs h none =
    let P : List CoreExp → Type 0 = λ es. AreWorth S (args es) (reverse vs) in
    subst P (sym (h.split ∙ ap (λ q. q ++ h.done) none)) h.worths

-- the arguments are given one by one
all_given : (st : State) (E : machine.Spot) (ws vs : List ℕ) (es : Args) (level : ℕ) (f : Exp) (n s : ℕ) (rs : List machine.Rest) → AreWorth (sight st E) es vs → (st1 : outcomes.State) → KeepsWords st.store st1 → argue E ws es level f n s rs st1 ≡ argue E (ws ++ vs) no_argument level f n s rs st1
all_given st E ws [] no_argument level f n s rs h st1 keeps = ap (λ xs. argue E xs no_argument level f n s rs st1) (sym (append-nil ws))
all_given st E ws (v ∷ vs) no_argument level f n s rs h st1 keeps = absurd h
all_given st E ws [] (argument e es) level f n s rs h st1 keeps = absurd h
all_given st E ws (v ∷ vs) (argument e es) level f n s rs h st1 keeps =
    given_one st E ws (ws ++ v ∷ []) e es level (level + 1) f n s rs rs v h.0 h.1 refl refl refl st1 keeps
    ∙ (all_given st E (ws ++ v ∷ []) vs es (level + 1) f n s rs h.2 st1 keeps
    ∙ ap (λ xs. argue E xs no_argument level f n s rs st1) (append_assoc ws (v ∷ []) vs))

-- the routine's value is called after them
pub called_ran : (program : List Placed) (old : State) (E : machine.Spot) (es : Args) (f : Exp) (s frame v : ℕ) (vs : List ℕ) (rs : List machine.Rest) (p : Progress) (rs1 : List machine.Rest) (vs1 : List ℕ) (new : State)
    → IsWorkedOut (sight old E) es f (Some v) vs → frame ≡ E.frame + s → Lands (trail_in rs) (machine.arrive (callee program v) v vs frame rs) (callee program v) v vs frame old p rs1 vs1 new
    → Ran program (evaluating E (Call es f) s rs) old p rs1 vs1 new
called_ran program old E es f s frame v vs rs p rs1 vs1 new is at h =
    let from = evaluating E (Call es f) s rs in
    let following = machine.Calls vs (E.frame + s) ∷ rs in
    let n = count es in
    let last : Came (trail_in rs) (argue E vs no_argument (argument_level s) f n s rs) old (progress.On (works.Number v)) following [] old =
    last_valued old E vs (argument_level s) f n s rs following [] (Some (worths.Is v)) (worths.Is v) (progress.On (works.Number v)) (is.1, is.2) refl refl refl in
    let first : Passes program old from (from ∷ []) (giving v following) =
    (refl, tt, λ streams. all_given old E [] vs es (argument_level s) f n s rs is.0 (state_of old streams) (λ b w i. i) ∙ last streams) in
    record {
      middle = giving v following;
      along = from ∷ [];
      passes = first;
      comes = landed program v vs (E.frame + s) following rs old p rs1 vs1 new refl (subst (λ a. Lands (trail_in rs) (machine.arrive (callee program v) v vs a rs) (callee program v) v vs a old p rs1 vs1 new) at h);
    }

-- the same with the values in the interpreter's vector
pub landed_at : (program : List Placed) (old : State) (E : machine.Spot) (es : Args) (f : Exp) (s frame v : ℕ) (us : List ℕ) (before middle : Vec Rest Global) (found : Option ℕ) (p : Progress) (rs1 : List machine.Rest) (vs1 : List ℕ) (new : State)
    → IsWorkedOut (sight old E) es f found (reverse us) → found ≡ Some v → middle ≡ before → frame ≡ E.frame + s → Lands (trail_in (stack middle.items)) (machine.arrive (callee program v) v (reverse us) frame (stack middle.items)) (callee program v) v (reverse us) frame old p rs1 vs1 new
    → Ran program (evaluating E (Call es f) s (stack before.items)) old p rs1 vs1 new
landed_at program old E es f s frame v us before middle found p rs1 vs1 new is some same at h =
    let P : Option ℕ → Type 0 = λ o. IsWorkedOut (sight old E) es f o (reverse us) in
    called_ran program old E es f s frame v (reverse us) (stack before.items) p rs1 vs1 new (subst P some is) at
    (subst (λ m. Lands (trail_in (stack m.items)) (machine.arrive (callee program v) v (reverse us) frame (stack m.items)) (callee program v) v (reverse us) frame old p rs1 vs1 new) same h)

pub called_plainly : (program : List Placed) (old : State) (E : machine.Spot) (es : Args) (f : Exp) (s : ℕ) (before middle : Vec Rest Global) (p : Progress) (rs1 : List machine.Rest) (vs1 : List ℕ) → middle ≡ before
    → Came (trail_in (stack middle.items)) (evaluate_parts E (Call es f) s (stack middle.items)) old p rs1 vs1 old → Ran program (evaluating E (Call es f) s (stack before.items)) old p rs1 vs1 old
called_plainly program old E es f s before middle p rs1 vs1 same h =
    came_exactly program old E (Call es f) s (stack before.items) p rs1 vs1
    (subst (λ m. Came (trail_in (stack m.items)) (evaluate_parts E (Call es f) s (stack m.items)) old p rs1 vs1 old) same h)
