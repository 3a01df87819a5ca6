-- Pure arguments, which are evaluated within one step.
use Rattle.std.proofs.Common.{◌≡◌, ◌+◌, ℕ, true, false, List, [], ◌∷◌, ◌++◌, length, Option, Some, refl, sym, ap, subst, ◌∙◌, arith}
use Rattle.bc_core.specs.Tree.{Exp, Call, Args, no_argument, argument}
use Rattle.bc_core.specs.View.{exp, args}
use Rattle.bc_core.specs.declared.expression.CoreExp.{CoreExp}
use Rattle.bc_core.specs.Level.{routine_level}
use Rattle.bc_core.specs.Outcome as outcomes
use Rattle.bc_core.specs.Outcome.{followed, then_do}
use Rattle.bc_interpret_defs.specs.Meeting.{KeepsWords}
use Rattle.bc_interpret_defs.specs.Trails.{Standing, trail_in}
use Rattle.bc_interpret_defs.proofs.Wordwise.{value_kept}
use Rattle.bc_core.specs.Value.{has_call, value}
use Rattle.bc_interpret_defs.specs.Machine as machine
use Rattle.bc_interpret_defs.specs.Machine.{quiet, give, argue, evaluate_parts}
use Rattle.bc_interpret_defs.specs.Quiet as quiet_forms
use Rattle.bc_interpret_defs.specs.Quiet.{worth}
use Rattle.bc_interpret_pure.specs.declared.value.Worth.{Worth}
use Rattle.bc_interpret_pure.specs.declared.value.Worth.TheVariants as worths
use Rattle.bc_interpret_pure.specs.declared.context.Cause.{Cause}
use Rattle.bc_interpret_pure.specs.Views.{seen, IsWorth}
use Rattle.bc_interpret_steps.specs.declared.state.State.{State}
use Rattle.bc_interpret_steps.specs.declared.forms.Progress.{Progress}
use Rattle.bc_interpret_steps.specs.declared.forms.Progress.TheVariants as progress
use Rattle.bc_interpret_steps.specs.declared.forms.Ending.TheVariants as endings
use Rattle.bc_interpret_steps.specs.declared.forms.Arguments.{Arguments}
use Rattle.bc_interpret_steps.specs.declared.arguments.Given.{Given}
use Rattle.bc_interpret_steps.specs.declared.arguments.Given.TheVariants as forms
use Rattle.bc_interpret_steps.specs.declared.continuations.Rest.{Rest}
use Rattle.bc_interpret_steps.specs.Code.{spot_of, given_for, stack, given}
use Rattle.bc_interpret_steps.specs.Came.{state_of, Came, Goes, progress_of, sight}
use Rattle.bc_interpret_steps.specs.Arrived.{Argued, ArguedLast, IsGivenOne}
use Rattle.bc_interpret_steps.proofs.Counts.{count_args}
use Rattle.bc_interpret_steps.proofs.Quiet.{same_came, told_worth, by_test, came_true, came_false, quiet_value, value_divides, value_fails}

abbrev waits : machine.Spot → List ℕ → Exp → Args → (level : ℕ) → Exp → (n s : ℕ) → List machine.Rest → machine.Step
waits E vs e es level f n s rs = machine.go (machine.Evaluate E e level) (machine.Argues E vs es level f n s ∷ rs)

abbrev onward : machine.Spot → List ℕ → Args → (level : ℕ) → Exp → (n s : ℕ) → List machine.Rest → ℕ → machine.Step
onward E vs es level f n s rs v = argue E (vs ++ (v ∷ [])) es (level + 1) f n s rs

pub given_one : (st : State) (E : machine.Spot) (vs gs : List ℕ) (e : Exp) (es : Args) (level level1 : ℕ) (f : Exp) (n s : ℕ) (rs rs1 : List machine.Rest) (v : ℕ) → has_call e ≡ false → quiet_forms.Is v ≡ (worth (sight st E) e).value → level1 ≡ level + 1 → gs ≡ vs ++ v ∷ [] → rs1 ≡ rs
    → (st1 : outcomes.State) → KeepsWords st.store st1 → argue E vs (argument e es) level f n s rs st1 ≡ argue E gs es level1 f n s rs1 st1
given_one st E vs gs e es level level1 f n s rs rs1 v plain is is_level is_given is_rests st1 keeps =
    ap (λ t. by_test t (waits E vs e es level f n s rs) (then_do (value (quiet E) e E.frame level) (onward E vs es level f n s rs)) st1) plain
    ∙ (ap (λ o. followed o (onward E vs es level f n s rs)) (value_kept E.address (λ r vs f. outcomes.wild) (λ n p s. outcomes.wild) e plain E.frame level st.store st1 (quiet_forms.Is v) is (λ n. n) keeps)
    ∙ (λ i. argue E (sym is_given i) es (sym is_level i) f n s (sym is_rests i) st1))

pub argue_divides : (st : State) (E : machine.Spot) (vs : List ℕ) (e : Exp) (es : Args) (level : ℕ) (f : Exp) (n s : ℕ) (rs rs1 : List machine.Rest) (ws : List ℕ) → has_call e ≡ false → quiet_forms.Divides ≡ (worth (sight st E) e).value → Came [] (argue E vs (argument e es) level f n s rs) st (progress.Ended endings.ZeroDivide) rs1 ws st
argue_divides st E vs e es level f n s rs rs1 ws plain is =
    came_false [] (has_call e) (waits E vs e es level f n s rs) (then_do (value (quiet E) e E.frame level) (onward E vs es level f n s rs)) st (progress.Ended endings.ZeroDivide) rs1 ws st plain (value_divides st E e level (onward E vs es level f n s rs) rs1 ws st plain is)

pub argue_fails : {calls : List Standing} → (st : State) (E : machine.Spot) (vs : List ℕ) (e : Exp) (es : Args) (level : ℕ) (f : Exp) (n s : ℕ) (found : Option Worth) (c : Cause) (rs rs1 : List machine.Rest) (ws : List ℕ) → IsWorth (sight st E) e found → found ≡ Some (worths.Fails c) → trail_in rs1 ≡ calls → Came calls (argue E vs (argument e es) level f n s rs) st (progress.Wild c) rs1 ws st
argue_fails st E vs e es level f n s found c rs rs1 ws h is k =
    let told = told_worth (sight st E) e found (worths.Fails c) h is in
    came_false _ (has_call e) (waits E vs e es level f n s rs) (then_do (value (quiet E) e E.frame level) (onward E vs es level f n s rs)) st (progress.Wild c) rs1 ws st told.0 (value_fails st E e level c (onward E vs es level f n s rs) rs1 ws st told.0 told.1 k)

pub argue_calls : (st : State) (E : machine.Spot) (vs : List ℕ) (e : Exp) (es : Args) (level : ℕ) (f : Exp) (n s : ℕ) (p : Progress) (rs rs1 : List machine.Rest) (ws : List ℕ) → has_call e ≡ true → Came (trail_in rs) (waits E vs e es level f n s rs) st p rs1 ws st → Came (trail_in rs) (argue E vs (argument e es) level f n s rs) st p rs1 ws st
argue_calls st E vs e es level f n s p rs rs1 ws calls h =
    came_true _ (has_call e) (waits E vs e es level f n s rs) (then_do (value (quiet E) e E.frame level) (onward E vs es level f n s rs)) st p rs1 ws st calls h

-- the routine's value
abbrev last_waits : machine.Spot → List ℕ → Exp → (n s : ℕ) → List machine.Rest → machine.Step
last_waits E vs f n s rs = machine.go (machine.Evaluate E f (routine_level s n)) (machine.Calls vs (E.frame + s) ∷ rs)

abbrev called : machine.Spot → List ℕ → (s : ℕ) → List machine.Rest → ℕ → machine.Step
called E vs s rs v = give (machine.Number v) (machine.Calls vs (E.frame + s) ∷ rs)

pub last_valued : (st : State) (E : machine.Spot) (vs : List ℕ) (level : ℕ) (f : Exp) (n s : ℕ) (rs rs1 : List machine.Rest) (ws : List ℕ) (found : Option Worth) (w : Worth) (p : Progress) → IsWorth (sight st E) f found → found ≡ Some w → rs1 ≡ machine.Calls vs (E.frame + s) ∷ rs → p ≡ progress_of w → Came (trail_in rs) (argue E vs no_argument level f n s rs) st p rs1 ws st
last_valued st E vs level f n s rs rs1 ws found w p h is a q =
    let told = told_worth (sight st E) f found w h is in
    let P : Progress → Type 0 = λ x. Came (trail_in rs) (argue E vs no_argument level f n s rs) st x rs1 ws st in
    subst P (sym q) (came_false _ (has_call f) (last_waits E vs f n s rs) (then_do (value (quiet E) f E.frame (routine_level s n)) (called E vs s rs)) st (progress_of w) rs1 ws st told.0 (by_worth told.0 w told.1)) where
      by_worth : has_call f ≡ false → (w : Worth) → seen w ≡ (worth (sight st E) f).value → Came (trail_in rs) (then_do (value (quiet E) f E.frame (routine_level s n)) (called E vs s rs)) st (progress_of w) rs1 ws st
      by_worth plain (worths.Is v) is1 = λ streams. ap (λ o. followed o (called E vs s rs)) (quiet_value st E f (routine_level s n) streams plain (worths.Is v) is1) ∙ ap (λ q. give (machine.Number v) q (state_of st streams)) (sym a)
      by_worth plain worths.Divides is1 = λ streams. ap (λ o. followed o (called E vs s rs)) (quiet_value st E f (routine_level s n) streams plain worths.Divides is1)
      by_worth plain (worths.Fails c) is1 = value_fails st E f (routine_level s n) c (called E vs s rs) rs1 ws st plain is1 (ap trail_in a)

pub last_calls : (st : State) (E : machine.Spot) (vs : List ℕ) (level : ℕ) (f : Exp) (n s : ℕ) (p : Progress) (rs rs1 : List machine.Rest) (ws : List ℕ) → has_call f ≡ true → Came (trail_in rs) (last_waits E vs f n s rs) st p rs1 ws st → Came (trail_in rs) (argue E vs no_argument level f n s rs) st p rs1 ws st
last_calls st E vs level f n s p rs rs1 ws calls h =
    came_true _ (has_call f) (last_waits E vs f n s rs) (then_do (value (quiet E) f E.frame (routine_level s n)) (called E vs s rs)) st p rs1 ws st calls h

-- the outcome of an argument, or of the routine after the last one, is the outcome of all arguments
pub argued_over : (a now : Arguments) (first : CoreExp) (following : List CoreExp) (before cur after : List Rest) (st : State) (g : Given) (p : Progress) → IsGivenOne now first following cur st g p after → g ≡ forms.Over → now.left.now ≡ first ∷ following
    → ((st1 : outcomes.State) → KeepsWords st.store st1 → Argued a before (stack before) st1 ≡ Argued now cur (stack cur) st1) → stack cur ≡ stack before → Goes (Argued a before) before st p after st
argued_over a now first following before cur after st g p h is split kept same =
    let P : Given → Type 0 = λ x. IsGivenOne now first following cur st x p after in
    let E = spot_of now.site in
    let vs = given_for now.fresh (given cur) in
    let rest : Args → machine.Step = λ es. argue E vs es now.level (exp now.routine.now) now.count now.site.level (stack cur) in
    same_came _ (Argued a before (stack before)) (rest (argument (exp first) (args following))) st p (stack after) (given after) st (λ st1 keeps. kept st1 keeps ∙ ap (λ xs. rest (args xs) st1) split) (subst (λ rs. Came (trail_in rs) (rest (argument (exp first) (args following))) st p (stack after) (given after) st) same (subst P is h))

no_more : (es : List CoreExp) → length es ≡ 0 → es ≡ []
no_more [] e = refl
no_more (x ∷ es) e = absurd (omega arith)

pub argued_last : (a now : Arguments) (before cur after : List Rest) (st : State) (p : Progress) → Goes (ArguedLast now cur) cur st p after st → length now.left.now ≡ 0
    → ((st1 : outcomes.State) → KeepsWords st.store st1 → Argued a before (stack before) st1 ≡ Argued now cur (stack cur) st1) → stack cur ≡ stack before → Goes (Argued a before) before st p after st
argued_last a now before cur after st p h none kept same =
    let E = spot_of now.site in
    let vs = given_for now.fresh (given cur) in
    let rest : Args → machine.Step = λ es. argue E vs es now.level (exp now.routine.now) now.count now.site.level (stack cur) in
    same_came _ (Argued a before (stack before)) (rest no_argument) st p (stack after) (given after) st (λ st1 keeps. kept st1 keeps ∙ ap (λ xs. rest (args xs) st1) (no_more now.left.now none)) (subst (λ rs. Came (trail_in rs) (rest no_argument) st p (stack after) (given after) st) same h)

-- beginning the arguments of a call
pub call_begun : (E : machine.Spot) (es : List CoreExp) (f : Exp) (s level n : ℕ) (rs : List machine.Rest) (st : State) (p : Progress) (rs1 : List machine.Rest) (vs : List ℕ) → level ≡ s + 2 → n ≡ length es
    → Came (trail_in rs) (argue E [] (args es) level f n s rs) st p rs1 vs st → Came (trail_in rs) (evaluate_parts E (Call (args es) f) s rs) st p rs1 vs st
call_begun E es f s level n rs st p rs1 vs is_level is_count h =
    same_came _ (evaluate_parts E (Call (args es) f) s rs) (argue E [] (args es) level f n s rs) st p rs1 vs st
    (λ st1 keeps. sym (λ i. argue E [] (args es) (is_level i) f ((is_count ∙ sym (count_args es)) i) s rs st1)) h

pub ruleset of_an_argument = (given_one, argue_divides, argue_calls)
