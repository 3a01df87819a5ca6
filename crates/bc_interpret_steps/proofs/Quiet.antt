-- Pure expressions, which are evaluated within one step.
use Rattle.std.proofs.Common.{◌≡◌, ℕ, Bool, true, false, List, [], Option, Some, refl, sym, ap, subst, ◌∷◌, ◌∙◌}
use Rattle.bc_machine_defs.specs.Streams.{Content}
use Rattle.bc_core.specs.Tree.{Exp, Cond}
use Rattle.bc_core.specs.Outcome as outcomes
use Rattle.bc_core.specs.Outcome.{followed, then_do, choose}
use Rattle.bc_core.specs.Value.{has_call, value, truth}
use Rattle.bc_interpret_defs.specs.Machine as machine
use Rattle.bc_interpret_defs.specs.Machine.{quiet, give, tested, evaluate_parts, evaluate, decide_parts, decide}
use Rattle.bc_interpret_defs.specs.Quiet as quiet_forms
use Rattle.bc_interpret_defs.specs.Quiet.{settled, worth}
use Rattle.bc_interpret_defs.specs.Meeting.{KeepsWords, IsWildBy}
use Rattle.bc_interpret_defs.specs.Trails.{Standing, trail_in}
use Rattle.bc_interpret_defs.proofs.Wordwise.{failures_name, truth_kept}
use Rattle.bc_interpret_defs.proofs.Naming.{wild_then, wild_same}
use Rattle.bc_interpret_defs.specs.Laws.{FailsBy}
use Rattle.bc_interpret_defs.proofs.Worths.{worth_is_value}
use Rattle.bc_interpret_pure.specs.declared.value.Worth.{Worth}
use Rattle.bc_interpret_pure.specs.declared.value.Worth.TheVariants as worths
use Rattle.bc_interpret_pure.specs.declared.value.Truth.{Truth}
use Rattle.bc_interpret_pure.specs.declared.value.Truth.TheVariants as truths
use Rattle.bc_interpret_pure.specs.declared.context.Cause.{Cause}
use Rattle.bc_interpret_pure.specs.declared.context.Cause.TheVariants as causes
use Rattle.bc_interpret_pure.specs.Causes.{cause_of}
use Rattle.bc_interpret_pure.specs.Views.{seen, seen_truth, IsWorth, IsTruth}
use Rattle.bc_interpret_steps.specs.declared.state.State.{State}
use Rattle.bc_interpret_steps.specs.declared.continuations.Rest.{Rest}
use Rattle.bc_interpret_steps.specs.declared.forms.Progress.{Progress}
use Rattle.bc_interpret_steps.specs.declared.forms.Progress.TheVariants as progress
use Rattle.bc_interpret_steps.specs.Code.{stack, given}
use Rattle.bc_interpret_steps.specs.declared.forms.Ending.TheVariants as endings
use Rattle.bc_interpret_steps.specs.Came.{state_of, Came, Went, CameOrMalformed, Goes, GoesOrMalformed, GoesAt, GoesAtOrMalformed, progress_of, progress_of_truth, sight}

-- equal steps have the same outcome
pub same_came : (trail : List Standing) → (r q : machine.Step) (old : State) (p : Progress) (rs : List machine.Rest) (vs : List ℕ) (new : State) → ((st : outcomes.State) → KeepsWords old.store st → r st ≡ q st) → Came trail q old p rs vs new → Came trail r old p rs vs new
same_came trail r q old (progress.On x) rs vs new e h = λ streams. e (state_of old streams) (λ b w i. i) ∙ h streams
same_came trail r q old (progress.Serve x f) rs vs new e h = h
same_came trail r q old progress.Answered rs vs new e h = h
same_came trail r q old (progress.Ended x) rs vs new e h = λ streams. e (state_of old streams) (λ b w i. i) ∙ h streams
same_came trail r q old progress.Going rs vs new e h = λ streams. e (state_of old streams) (λ b w i. i) ∙ h streams
same_came trail r q old (progress.Wild c) rs vs new e h = (λ streams. e (state_of old streams) (λ b w i. i) ∙ h.0 streams, wild_same r q old.store (cause_of c) e h.1, h.2)

-- a step that isn't wild has any trail
pub went : (trail : List Standing) → (r : machine.Step) (old : State) (p : Progress) (rs : List machine.Rest) (vs : List ℕ) (new : State) → Went r old p rs vs new → Came trail r old p rs vs new
went trail r old (progress.On x) rs vs new h = h
went trail r old (progress.Serve x f) rs vs new h = h
went trail r old progress.Answered rs vs new h = h
went trail r old (progress.Ended x) rs vs new h = h
went trail r old progress.Going rs vs new h = h
went trail r old (progress.Wild c) rs vs new h = absurd h

pub went_goes : (f : List machine.Rest → machine.Step) (before : List Rest) (old : State) (p : Progress) (after : List Rest) (new : State) → Went (f (stack before)) old p (stack after) (given after) new → Goes f before old p after new
went_goes f before old p after new h = went (trail_in (stack before)) (f (stack before)) old p (stack after) (given after) new h

pub same_went : (r q : machine.Step) (old : State) (p : Progress) (rs : List machine.Rest) (vs : List ℕ) (new : State) → ((st : outcomes.State) → KeepsWords old.store st → r st ≡ q st) → Went q old p rs vs new → Went r old p rs vs new
same_went r q old (progress.On x) rs vs new e h = λ streams. e (state_of old streams) (λ b w i. i) ∙ h streams
same_went r q old (progress.Serve x f) rs vs new e h = h
same_went r q old progress.Answered rs vs new e h = h
same_went r q old (progress.Ended x) rs vs new e h = λ streams. e (state_of old streams) (λ b w i. i) ∙ h streams
same_went r q old progress.Going rs vs new e h = λ streams. e (state_of old streams) (λ b w i. i) ∙ h streams
same_went r q old (progress.Wild c) rs vs new e h = h

pub went_this : (t : Bool) (this that : machine.Step) (old : State) (p : Progress) (rs : List machine.Rest) (vs : List ℕ) (new : State) → t ≡ true → Went this old p rs vs new → Went (choose t this that) old p rs vs new
went_this t this that old p rs vs new e h = same_went (choose t this that) this old p rs vs new (λ st keeps. ap (λ z. choose z this that st) e) h

pub went_that : (t : Bool) (this that : machine.Step) (old : State) (p : Progress) (rs : List machine.Rest) (vs : List ℕ) (new : State) → t ≡ false → Went that old p rs vs new → Went (choose t this that) old p rs vs new
went_that t this that old p rs vs new e h = same_went (choose t this that) that old p rs vs new (λ st keeps. ap (λ z. choose z this that st) e) h

-- a step that is wild with these cells, or whatever the cells hold
pub loosen : (trail : List Standing) → (r : machine.Step) (old : State) (p : Progress) (rs : List machine.Rest) (vs : List ℕ) (new : State) → Came trail r old p rs vs new → CameOrMalformed trail r old p rs vs new
loosen trail r old (progress.On x) rs vs new h = h
loosen trail r old (progress.Serve x f) rs vs new h = h
loosen trail r old progress.Answered rs vs new h = h
loosen trail r old (progress.Ended x) rs vs new h = h
loosen trail r old progress.Going rs vs new h = h
loosen trail r old (progress.Wild (causes.Unset a)) rs vs new h = h
loosen trail r old (progress.Wild (causes.Dead a)) rs vs new h = h
loosen trail r old (progress.Wild (causes.NoCell a)) rs vs new h = h
loosen trail r old (progress.Wild (causes.NotRoutine v)) rs vs new h = h
loosen trail r old (progress.Wild (causes.FrameTooLarge f)) rs vs new h = h
loosen trail r old (progress.Wild causes.Malformed) rs vs new h = absurd h.1

pub loosened : (f : List machine.Rest → machine.Step) (before : List Rest) (old : State) (p : Progress) (after : List Rest) (new : State) → Goes f before old p after new → GoesOrMalformed f before old p after new
loosened f before old p after new h = loosen _ (f (stack before)) old p (stack after) (given after) new h

pub loosened_at : (t : List machine.Rest → List Standing) (f : List machine.Rest → machine.Step) (before : List Rest) (old : State) (p : Progress) (after : List Rest) (new : State) → GoesAt t f before old p after new → GoesAtOrMalformed t f before old p after new
loosened_at t f before old p after new h = loosen (t (stack before)) (f (stack before)) old p (stack after) (given after) new h

-- what was found
pub told_worth : (S : quiet_forms.Sight) (e : Exp) (found : Option Worth) (w : Worth) → IsWorth S e found → found ≡ Some w → (has_call e ≡ false) × (seen w ≡ (worth S e).value)
told_worth S e found w h is = let P : Option Worth → Type 0 = λ o. IsWorth S e o in subst P is h

pub told_truth : (S : quiet_forms.Sight) (e : Exp) (found : Option Truth) (t : Truth) → IsTruth S e found → found ≡ Some t → (has_call e ≡ false) × (seen_truth t ≡ (worth S e).truth)
told_truth S e found t h is = let P : Option Truth → Type 0 = λ o. IsTruth S e o in subst P is h

-- the two cases of a test, as the definitions have them
abbrev pub by_test : Bool → machine.Step → machine.Step → machine.Step
by_test t this that = elim t [ true ↦ this | false ↦ that ]

pub came_true : (trail : List Standing) → (t : Bool) (this that : machine.Step) (old : State) (p : Progress) (rs : List machine.Rest) (vs : List ℕ) (new : State) → t ≡ true → Came trail this old p rs vs new → Came trail (by_test t this that) old p rs vs new
came_true trail t this that old p rs vs new e h = let P : Bool → Type 0 = λ z. Came trail (by_test z this that) old p rs vs new in subst P (sym e) h

pub came_false : (trail : List Standing) → (t : Bool) (this that : machine.Step) (old : State) (p : Progress) (rs : List machine.Rest) (vs : List ℕ) (new : State) → t ≡ false → Came trail that old p rs vs new → Came trail (by_test t this that) old p rs vs new
came_false trail t this that old p rs vs new e h = let P : Bool → Type 0 = λ z. Came trail (by_test z this that) old p rs vs new in subst P (sym e) h

pub quiet_value : (st : State) (E : machine.Spot) (e : Exp) (s : ℕ) (streams : Content) → has_call e ≡ false → (w : Worth) → seen w ≡ (worth (sight st E) e).value → value (quiet E) e E.frame s (state_of st streams) ≡ settled (seen w) (state_of st streams)
quiet_value st E e s streams plain w is =
    (worth_is_value E.address (λ r vs f. outcomes.wild) (λ n p s. outcomes.wild) e plain E.frame s (state_of st streams)).0
    ∙ ap (λ x. settled x (state_of st streams)) (sym is)

pub quiet_truth : (st : State) (E : machine.Spot) (e : Exp) (s : ℕ) (streams : Content) → has_call e ≡ false → (w : Truth) → seen_truth w ≡ (worth (sight st E) e).truth → truth (quiet E) e E.frame s (state_of st streams) ≡ settled (seen_truth w) (state_of st streams)
quiet_truth st E e s streams plain w is =
    (worth_is_value E.address (λ r vs f. outcomes.wild) (λ n p s. outcomes.wild) e plain E.frame s (state_of st streams)).1
    ∙ ap (λ x. settled x (state_of st streams)) (sym is)

-- a failure is wild because of the cell that is named
pub value_stands : (st : State) (E : machine.Spot) (e : Exp) (s : ℕ) (w : Worth) → has_call e ≡ false → seen w ≡ (worth (sight st E) e).value → FailsBy (IsWildBy (value (quiet E) e E.frame s) st.store) (seen w)
value_stands st E e s w plain is = subst (λ x. FailsBy (IsWildBy (value (quiet E) e E.frame s) st.store) x) (sym is) (failures_name E.address (λ r vs f. outcomes.wild) (λ n p s. outcomes.wild) e plain E.frame s st.store).0

pub truth_stands : (st : State) (E : machine.Spot) (e : Exp) (s : ℕ) (w : Truth) → has_call e ≡ false → seen_truth w ≡ (worth (sight st E) e).truth → FailsBy (IsWildBy (truth (quiet E) e E.frame s) st.store) (seen_truth w)
truth_stands st E e s w plain is = subst (λ x. FailsBy (IsWildBy (truth (quiet E) e E.frame s) st.store) x) (sym is) (failures_name E.address (λ r vs f. outcomes.wild) (λ n p s. outcomes.wild) e plain E.frame s st.store).1

-- what comes after a value
pub value_divides : (st : State) (E : machine.Spot) (e : Exp) (s : ℕ) (f : ℕ → machine.Step) (rs : List machine.Rest) (vs : List ℕ) (new : State) → has_call e ≡ false → quiet_forms.Divides ≡ (worth (sight st E) e).value → Came [] (then_do (value (quiet E) e E.frame s) f) st (progress.Ended endings.ZeroDivide) rs vs new
value_divides st E e s f rs vs new plain is = λ streams. ap (λ o. followed o f) (quiet_value st E e s streams plain worths.Divides is)

pub value_fails : {trail : List Standing} → (st : State) (E : machine.Spot) (e : Exp) (s : ℕ) (c : Cause) (f : ℕ → machine.Step) (rs : List machine.Rest) (vs : List ℕ) (new : State) → has_call e ≡ false → quiet_forms.Fails (cause_of c) ≡ (worth (sight st E) e).value → trail_in rs ≡ trail → Came trail (then_do (value (quiet E) e E.frame s) f) st (progress.Wild c) rs vs new
value_fails st E e s c f rs vs new plain is k = (λ streams. ap (λ o. followed o f) (quiet_value st E e s streams plain (worths.Fails c) is), wild_then (value (quiet E) e E.frame s) f st.store (cause_of c) (value_stands st E e s (worths.Fails c) plain is), k)

-- what comes after a truth
pub truth_on : (trail : List Standing) → (st : State) (E : machine.Spot) (e : Exp) (s : ℕ) (t : Bool) (f : Bool → machine.Step) (p : Progress) (rs : List machine.Rest) (vs : List ℕ) (new : State) → has_call e ≡ false → quiet_forms.Is t ≡ (worth (sight st E) e).truth → Came trail (f t) st p rs vs new → Came trail (then_do (truth (quiet E) e E.frame s) f) st p rs vs new
truth_on trail st E e s t f p rs vs new plain is h =
    same_came _ (then_do (truth (quiet E) e E.frame s) f) (f t) st p rs vs new (λ st1 keeps. ap (λ o. followed o f) (truth_kept E.address (λ r vs f. outcomes.wild) (λ n p s. outcomes.wild) e plain E.frame s st.store st1 (quiet_forms.Is t) is (λ n. n) keeps)) h

pub truth_divides : (st : State) (E : machine.Spot) (e : Exp) (s : ℕ) (f : Bool → machine.Step) (rs : List machine.Rest) (vs : List ℕ) (new : State) → has_call e ≡ false → quiet_forms.Divides ≡ (worth (sight st E) e).truth → Came [] (then_do (truth (quiet E) e E.frame s) f) st (progress.Ended endings.ZeroDivide) rs vs new
truth_divides st E e s f rs vs new plain is = λ streams. ap (λ o. followed o f) (quiet_truth st E e s streams plain truths.Divides is)

pub truth_fails : {trail : List Standing} → (st : State) (E : machine.Spot) (e : Exp) (s : ℕ) (c : Cause) (f : Bool → machine.Step) (rs : List machine.Rest) (vs : List ℕ) (new : State) → has_call e ≡ false → quiet_forms.Fails (cause_of c) ≡ (worth (sight st E) e).truth → trail_in rs ≡ trail → Came trail (then_do (truth (quiet E) e E.frame s) f) st (progress.Wild c) rs vs new
truth_fails st E e s c f rs vs new plain is k = (λ streams. ap (λ o. followed o f) (quiet_truth st E e s streams plain (truths.Fails c) is), wild_then (truth (quiet E) e E.frame s) f st.store (cause_of c) (truth_stands st E e s (truths.Fails c) plain is), k)

-- a pure expression
pub valued : (st : State) (E : machine.Spot) (e : Exp) (s : ℕ) (rs : List machine.Rest) (vs : List ℕ) (w : Worth) → has_call e ≡ false → seen w ≡ (worth (sight st E) e).value → CameOrMalformed (trail_in rs) (evaluate E e s rs) st (progress_of w) rs vs st
valued st E e s rs vs w plain is =
    loosen _ (evaluate E e s rs) st (progress_of w) rs vs st
    (came_false _ (has_call e) (evaluate_parts E e s rs) (then_do (value (quiet E) e E.frame s) (λ v. give (machine.Number v) rs)) st (progress_of w) rs vs st plain (by_worth w is)) where
      by_worth : (w : Worth) → seen w ≡ (worth (sight st E) e).value → Came (trail_in rs) (then_do (value (quiet E) e E.frame s) (λ v. give (machine.Number v) rs)) st (progress_of w) rs vs st
      by_worth (worths.Is v) is1 = λ streams. ap (λ o. followed o (λ v. give (machine.Number v) rs)) (quiet_value st E e s streams plain (worths.Is v) is1)
      by_worth worths.Divides is1 = λ streams. ap (λ o. followed o (λ v. give (machine.Number v) rs)) (quiet_value st E e s streams plain worths.Divides is1)
      by_worth (worths.Fails c) is1 = value_fails st E e s c (λ v. give (machine.Number v) rs) rs vs st plain is1 refl

pub value_parts : (E : machine.Spot) (e : Exp) (s : ℕ) (rs : List machine.Rest) (old : State) (p : Progress) (rs1 : List machine.Rest) (vs : List ℕ) (new : State) → has_call e ≡ true → CameOrMalformed (trail_in rs) (evaluate_parts E e s rs) old p rs1 vs new → CameOrMalformed (trail_in rs) (evaluate E e s rs) old p rs1 vs new
value_parts E e s rs old p rs1 vs new e1 h =
    let P : Bool → Type 0 = λ z. CameOrMalformed (trail_in rs) (by_test z (evaluate_parts E e s rs) (then_do (value (quiet E) e E.frame s) (λ v. give (machine.Number v) rs))) old p rs1 vs new in subst P (sym e1) h

pub judged : (st : State) (E : machine.Spot) (e : Exp) (s : ℕ) (rs : List machine.Rest) (vs : List ℕ) (w : Truth) → has_call e ≡ false → seen_truth w ≡ (worth (sight st E) e).truth → Came (trail_in rs) (decide E e s rs) st (progress_of_truth w) rs vs st
judged st E e s rs vs w plain is =
    came_false _ (has_call e) (decide_parts E e s rs) (then_do (truth (quiet E) e E.frame s) (λ t. give (machine.Verdict t) rs)) st (progress_of_truth w) rs vs st plain (by_truth w is) where
      by_truth : (w : Truth) → seen_truth w ≡ (worth (sight st E) e).truth → Came (trail_in rs) (then_do (truth (quiet E) e E.frame s) (λ t. give (machine.Verdict t) rs)) st (progress_of_truth w) rs vs st
      by_truth (truths.Is t) is1 = λ streams. ap (λ o. followed o (λ t1. give (machine.Verdict t1) rs)) (quiet_truth st E e s streams plain (truths.Is t) is1)
      by_truth truths.Divides is1 = λ streams. ap (λ o. followed o (λ t. give (machine.Verdict t) rs)) (quiet_truth st E e s streams plain truths.Divides is1)
      by_truth (truths.Fails c) is1 = truth_fails st E e s c (λ t. give (machine.Verdict t) rs) rs vs st plain is1 refl

pub truth_parts : (E : machine.Spot) (e : Exp) (s : ℕ) (rs : List machine.Rest) (old : State) (p : Progress) (rs1 : List machine.Rest) (vs : List ℕ) (new : State) → has_call e ≡ true → Came (trail_in rs) (decide_parts E e s rs) old p rs1 vs new → Came (trail_in rs) (decide E e s rs) old p rs1 vs new
truth_parts E e s rs old p rs1 vs new e1 h = came_true _ (has_call e) (decide_parts E e s rs) (then_do (truth (quiet E) e E.frame s) (λ t. give (machine.Verdict t) rs)) old p rs1 vs new e1 h

-- a choice
pub came_this : (trail : List Standing) → (t : Bool) (this that : machine.Step) (old : State) (p : Progress) (rs : List machine.Rest) (vs : List ℕ) (new : State) → t ≡ true → Came trail this old p rs vs new → Came trail (choose t this that) old p rs vs new
came_this trail t this that old p rs vs new e h = same_came _ (choose t this that) this old p rs vs new (λ st keeps. ap (λ z. choose z this that st) e) h

pub came_that : (trail : List Standing) → (t : Bool) (this that : machine.Step) (old : State) (p : Progress) (rs : List machine.Rest) (vs : List ℕ) (new : State) → t ≡ false → Came trail that old p rs vs new → Came trail (choose t this that) old p rs vs new
came_that trail t this that old p rs vs new e h = same_came _ (choose t this that) that old p rs vs new (λ st keeps. ap (λ z. choose z this that st) e) h

-- after a test
pub tested_on : (trail : List Standing) → (E : machine.Spot) (e : Exp) (s : ℕ) (f : Bool → machine.Step) (r : machine.Rest) (rs : List machine.Rest) (old : State) (t : Bool) (p : Progress) (rs1 : List machine.Rest) (vs : List ℕ) (new : State) → has_call e ≡ false → quiet_forms.Is t ≡ (worth (sight old E) e).truth → Came trail (f t) old p rs1 vs new → Came trail (tested E e s f r rs) old p rs1 vs new
tested_on trail E e s f r rs old t p rs1 vs new plain is h =
    came_false _ (has_call e) (machine.go (machine.Decide E e s) (r ∷ rs)) (then_do (truth (quiet E) e E.frame s) f) old p rs1 vs new plain (truth_on _ old E e s t f p rs1 vs new plain is h)

pub tested_divides : (E : machine.Spot) (e : Exp) (s : ℕ) (f : Bool → machine.Step) (r : machine.Rest) (rs : List machine.Rest) (old : State) (rs1 : List machine.Rest) (vs : List ℕ) (new : State) → has_call e ≡ false → quiet_forms.Divides ≡ (worth (sight old E) e).truth → Came [] (tested E e s f r rs) old (progress.Ended endings.ZeroDivide) rs1 vs new
tested_divides E e s f r rs old rs1 vs new plain is =
    came_false [] (has_call e) (machine.go (machine.Decide E e s) (r ∷ rs)) (then_do (truth (quiet E) e E.frame s) f) old (progress.Ended endings.ZeroDivide) rs1 vs new plain (truth_divides old E e s f rs1 vs new plain is)

pub tested_fails : {trail : List Standing} → (E : machine.Spot) (e : Exp) (s : ℕ) (c : Cause) (f : Bool → machine.Step) (r : machine.Rest) (rs : List machine.Rest) (old : State) (rs1 : List machine.Rest) (vs : List ℕ) (new : State) → has_call e ≡ false → quiet_forms.Fails (cause_of c) ≡ (worth (sight old E) e).truth → trail_in rs1 ≡ trail → Came trail (tested E e s f r rs) old (progress.Wild c) rs1 vs new
tested_fails E e s c f r rs old rs1 vs new plain is k =
    came_false _ (has_call e) (machine.go (machine.Decide E e s) (r ∷ rs)) (then_do (truth (quiet E) e E.frame s) f) old (progress.Wild c) rs1 vs new plain (truth_fails old E e s c f rs1 vs new plain is k)

pub tested_calls : (trail : List Standing) → (E : machine.Spot) (e : Exp) (s : ℕ) (f : Bool → machine.Step) (r : machine.Rest) (rs : List machine.Rest) (old : State) (p : Progress) (rs1 : List machine.Rest) (vs : List ℕ) (new : State) → has_call e ≡ true → Came trail (machine.go (machine.Decide E e s) (r ∷ rs)) old p rs1 vs new → Came trail (tested E e s f r rs) old p rs1 vs new
tested_calls trail E e s f r rs old p rs1 vs new e1 h = came_true _ (has_call e) (machine.go (machine.Decide E e s) (r ∷ rs)) (then_do (truth (quiet E) e E.frame s) f) old p rs1 vs new e1 h

-- a conditional expression that contains a call
abbrev chosen : machine.Spot → (x y : Exp) → ℕ → List machine.Rest → Bool → machine.Step
chosen E x y s rs t = choose t (machine.go (machine.Evaluate E x s) rs) (machine.go (machine.Evaluate E y s) rs)

pub choice_on : (E : machine.Spot) (c x y : Exp) (s : ℕ) (rs : List machine.Rest) (old : State) (t : Bool) (p : Progress) (vs : List ℕ) → has_call c ≡ false → quiet_forms.Is t ≡ (worth (sight old E) c).truth → Came (trail_in rs) (chosen E x y s rs t) old p rs vs old → Came (trail_in rs) (evaluate_parts E (Cond c x y) s rs) old p rs vs old
choice_on E c x y s rs old t p vs plain is h =
    came_false _ (has_call c) (machine.go (machine.Decide E c s) (machine.Selects E x y s ∷ rs)) (then_do (truth (quiet E) c E.frame s) (chosen E x y s rs)) old p rs vs old plain (truth_on _ old E c s t (chosen E x y s rs) p rs vs old plain is h)

pub choice_this : (E : machine.Spot) (c x y : Exp) (s : ℕ) (rs : List machine.Rest) (old : State) (t : Bool) (p : Progress) (vs : List ℕ) → has_call c ≡ false → quiet_forms.Is t ≡ (worth (sight old E) c).truth → t ≡ true → Came (trail_in rs) (machine.go (machine.Evaluate E x s) rs) old p rs vs old → Came (trail_in rs) (evaluate_parts E (Cond c x y) s rs) old p rs vs old
choice_this E c x y s rs old t p vs plain is a h = choice_on E c x y s rs old t p vs plain is (came_this _ t (machine.go (machine.Evaluate E x s) rs) (machine.go (machine.Evaluate E y s) rs) old p rs vs old a h)

pub choice_that : (E : machine.Spot) (c x y : Exp) (s : ℕ) (rs : List machine.Rest) (old : State) (t : Bool) (p : Progress) (vs : List ℕ) → has_call c ≡ false → quiet_forms.Is t ≡ (worth (sight old E) c).truth → t ≡ false → Came (trail_in rs) (machine.go (machine.Evaluate E y s) rs) old p rs vs old → Came (trail_in rs) (evaluate_parts E (Cond c x y) s rs) old p rs vs old
choice_that E c x y s rs old t p vs plain is a h = choice_on E c x y s rs old t p vs plain is (came_that _ t (machine.go (machine.Evaluate E x s) rs) (machine.go (machine.Evaluate E y s) rs) old p rs vs old a h)

pub choice_divides : (E : machine.Spot) (c x y : Exp) (s : ℕ) (rs : List machine.Rest) (old : State) (vs : List ℕ) → has_call c ≡ false → quiet_forms.Divides ≡ (worth (sight old E) c).truth → Came [] (evaluate_parts E (Cond c x y) s rs) old (progress.Ended endings.ZeroDivide) rs vs old
choice_divides E c x y s rs old vs plain is =
    came_false [] (has_call c) (machine.go (machine.Decide E c s) (machine.Selects E x y s ∷ rs)) (then_do (truth (quiet E) c E.frame s) (chosen E x y s rs)) old (progress.Ended endings.ZeroDivide) rs vs old plain (truth_divides old E c s (chosen E x y s rs) rs vs old plain is)

pub choice_fails : (E : machine.Spot) (c x y : Exp) (s : ℕ) (cause : Cause) (rs : List machine.Rest) (old : State) (vs : List ℕ) → has_call c ≡ false → quiet_forms.Fails (cause_of cause) ≡ (worth (sight old E) c).truth → Came (trail_in rs) (evaluate_parts E (Cond c x y) s rs) old (progress.Wild cause) rs vs old
choice_fails E c x y s cause rs old vs plain is =
    came_false _ (has_call c) (machine.go (machine.Decide E c s) (machine.Selects E x y s ∷ rs)) (then_do (truth (quiet E) c E.frame s) (chosen E x y s rs)) old (progress.Wild cause) rs vs old plain (truth_fails old E c s cause (chosen E x y s rs) rs vs old plain is refl)

pub choice_calls : (E : machine.Spot) (c x y : Exp) (s : ℕ) (rs : List machine.Rest) (old : State) (p : Progress) (rs1 : List machine.Rest) (vs : List ℕ) → has_call c ≡ true → Came (trail_in rs) (machine.go (machine.Decide E c s) (machine.Selects E x y s ∷ rs)) old p rs1 vs old → Came (trail_in rs) (evaluate_parts E (Cond c x y) s rs) old p rs1 vs old
choice_calls E c x y s rs old p rs1 vs e h =
    came_true _ (has_call c) (machine.go (machine.Decide E c s) (machine.Selects E x y s ∷ rs)) (then_do (truth (quiet E) c E.frame s) (chosen E x y s rs)) old p rs1 vs old e h

pub ruleset of_a_choice = (choice_this, choice_that, choice_divides, choice_fails, choice_calls)
