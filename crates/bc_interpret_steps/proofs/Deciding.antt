-- Evaluating an expression further than one step leads.
use Rattle.std.proofs.Common.{◌≡◌, inl, inr, ℕ, ◌+◌, Bool, true, false, ◌||◌, cond, List, [], ◌∷◌, ◌++◌, refl, Option, Some, sym, ap, subst, ◌∙◌}
use Rattle.bc_machine_defs.specs.Streams.{Content}
use Rattle.bc_core.specs.Map.{Placed}
use Rattle.bc_core.specs.Outcome as outcomes
use Rattle.bc_core.specs.Outcome.{followed, then_do, choose}
use Rattle.bc_core.specs.Tree.{Exp, Args, Bin, Call, Cond}
use Rattle.bc_core.specs.Value.{has_call, value, truth}
use Rattle.bc_word.specs.declared.operator.Op.{Op}
use Rattle.bc_interpret_defs.specs.Machine as machine
use Rattle.bc_interpret_defs.specs.Machine.{step, give, quiet, evaluate, evaluate_parts}
use Rattle.bc_interpret_defs.specs.Quiet as quiet_forms
use Rattle.bc_interpret_defs.specs.Quiet.{worth, chained}
use Rattle.bc_interpret_defs.specs.Trails.{trail_in}
use Rattle.bc_interpret_pure.specs.declared.context.Cause.{Cause}
use Rattle.bc_interpret_pure.specs.declared.value.Truth.TheVariants as truths
use Rattle.bc_interpret_pure.specs.Causes.{cause_of}
use Rattle.bc_interpret_pure.specs.Views.{seen}
use Rattle.bc_interpret_steps.specs.declared.descend.FirstCall.{FirstCall}
use Rattle.bc_interpret_steps.specs.declared.state.State.{State}
use Rattle.bc_interpret_steps.specs.declared.continuations.Rest.{Rest}
use Rattle.bc_interpret_steps.specs.declared.forms.Progress.{Progress}
use Rattle.bc_interpret_steps.specs.declared.forms.Progress.TheVariants as progress
use Rattle.bc_interpret_steps.specs.declared.forms.Ending.TheVariants as endings
use Rattle.bc_interpret_steps.specs.Code.{stack, given}
use Rattle.bc_interpret_steps.specs.Came.{state_of, Came, CameOrMalformed, progress_of, sight}
use Rattle.bc_interpret_steps.specs.Passing.{Passes, Ran, evaluating, Entered, IsFirstCall, first_called}
use Rattle.bc_interpret_steps.proofs.Handing.{stepped, stepped_loosely}
use Rattle.bc_interpret_steps.proofs.Passing.{append, ran}
use Rattle.bc_interpret_steps.proofs.Quiet.{by_test, came_true, came_false, quiet_truth, valued, value_divides, value_fails, choice_divides, choice_fails, choice_calls}

by_calls : {A : Type 0} → (b : Bool) → (b ≡ true → A) → (b ≡ false → A) → A
by_calls true f g = f refl
by_calls false f g = g refl

-- one step into an expression
pub came_into : (program : List Placed) (old : State) (E : machine.Spot) (e : Exp) (s : ℕ) (rs : List machine.Rest) (p : Progress) (rs1 : List machine.Rest) (vs : List ℕ) → CameOrMalformed (trail_in rs) (evaluate E e s rs) old p rs1 vs old → Ran program (evaluating E e s rs) old p rs1 vs old
came_into program old E e s rs p rs1 vs h =
    ran program (machine.Evaluate E e s) rs old p rs1 vs old (stepped_loosely program (machine.Evaluate E e s) rs old p rs1 vs old (λ v vs f k. let w = k.work in cc) tt h)

pub came_exactly : (program : List Placed) (old : State) (E : machine.Spot) (e : Exp) (s : ℕ) (rs : List machine.Rest) (p : Progress) (rs1 : List machine.Rest) (vs : List ℕ) → Came (trail_in rs) (evaluate E e s rs) old p rs1 vs old → Ran program (evaluating E e s rs) old p rs1 vs old
came_exactly program old E e s rs p rs1 vs h =
    ran program (machine.Evaluate E e s) rs old p rs1 vs old (stepped program (machine.Evaluate E e s) rs old p rs1 vs old (λ v vs f k. let w = k.work in cc) tt h)

-- a pure condition
abbrev chosen : machine.Spot → (x y : Exp) → ℕ → List machine.Rest → Bool → machine.Step
chosen E x y s rs t = choose t (machine.go (machine.Evaluate E x s) rs) (machine.go (machine.Evaluate E y s) rs)

chosen_goes : (E : machine.Spot) (x y b : Exp) (s : ℕ) (rs : List machine.Rest) (t : Bool) (st : outcomes.State) → b ≡ cond t x y → chosen E x y s rs t st ≡ outcomes.Done (evaluating E b s rs) st
chosen_goes E x y b s rs true st e = ap (λ z. outcomes.Done (evaluating E z s rs) st) (sym e)
chosen_goes E x y b s rs false st e = ap (λ z. outcomes.Done (evaluating E z s rs) st) (sym e)

cond_goes : (program : List Placed) (old : State) (E : machine.Spot) (c x y b : Exp) (s : ℕ) (rs : List machine.Rest) (t : Bool) (streams : Content) → has_call (Cond c x y) ≡ true → has_call c ≡ false → quiet_forms.Is t ≡ (worth (sight old E) c).truth → b ≡ cond t x y
    → step program (machine.Evaluate E (Cond c x y) s) rs (state_of old streams) ≡ outcomes.Done (evaluating E b s rs) (state_of old streams)
cond_goes program old E c x y b s rs t streams calls plain is e =
    ap (λ z. by_test z (evaluate_parts E (Cond c x y) s rs) (then_do (value (quiet E) (Cond c x y) E.frame s) (λ v. give (machine.Number v) rs)) (state_of old streams)) calls
    ∙ (ap (λ z. by_test z (machine.go (machine.Decide E c s) (machine.Selects E x y s ∷ rs)) (then_do (truth (quiet E) c E.frame s) (chosen E x y s rs)) (state_of old streams)) plain
    ∙ (ap (λ o. followed o (chosen E x y s rs)) (quiet_truth old E c s streams plain (truths.Is t) is)
    ∙ chosen_goes E x y b s rs t (state_of old streams) e))

past_condition : (program : List Placed) (old : State) (E : machine.Spot) (c x y b : Exp) (s : ℕ) (rs : List machine.Rest) (t : Bool) (p : Progress) (rs1 : List machine.Rest) (vs : List ℕ) (new : State) → has_call (Cond c x y) ≡ true → has_call c ≡ false → quiet_forms.Is t ≡ (worth (sight old E) c).truth → b ≡ cond t x y
    → Ran program (evaluating E b s rs) old p rs1 vs new → Ran program (evaluating E (Cond c x y) s rs) old p rs1 vs new
past_condition program old E c x y b s rs t p rs1 vs new calls plain is e h =
    let from = evaluating E (Cond c x y) s rs in
    let first : Passes program old from (from ∷ []) (evaluating E b s rs) = (refl, tt, λ streams. cond_goes program old E c x y b s rs t streams calls plain is e) in
    record {
      middle = h.middle;
      along = h.along ++ (from ∷ []);
      passes = append program old from (evaluating E b s rs) h.middle (from ∷ []) h.along first h.passes;
      comes = h.comes;
    }

branch_worth : (S : quiet_forms.Sight) (x y b : Exp) (t : Bool) → b ≡ cond t x y → (worth S b).value ≡ cond t (worth S x).value (worth S y).value
branch_worth S x y b true e = ap (λ z. (worth S z).value) e
branch_worth S x y b false e = ap (λ z. (worth S z).value) e

branch_calls : (x y b : Exp) (t : Bool) → b ≡ cond t x y → has_call b ≡ true → cond t (has_call x) (has_call y) ≡ true
branch_calls x y b true e h = sym (ap has_call e) ∙ h
branch_calls x y b false e h = sym (ap has_call e) ∙ h

one_calls : (c x y t : Bool) → cond t x y ≡ true → c || x || y ≡ true
one_calls true x y t h = refl
one_calls false true y t h = refl
one_calls false false true t h = refl
one_calls false false false true h = absurd cc
one_calls false false false false h = absurd cc

pub taken_into : (program : List Placed) (old : State) (E : machine.Spot) (c x y b : Exp) (s : ℕ) (t : Bool) (p : Progress) (before after : List Rest) (new : State) → has_call c ≡ false → quiet_forms.Is t ≡ (worth (sight old E) c).truth → b ≡ cond t x y
    → Entered program E b s before old p after new → Ran program (evaluating E (Cond c x y) s (stack before)) old p (stack after) (given after) new
taken_into program old E c x y b s t p before after new plain is e (inl (w, quiet_b, worth_b, is_p, same, kept)) =
    let S = sight old E in
    let from = evaluating E (Cond c x y) s (stack before) in
    let whole : seen w ≡ (worth S (Cond c x y)).value = worth_b ∙ (branch_worth S x y b t e ∙ ap (λ o. chained o (λ z. cond z (worth S x).value (worth S y).value)) is) in
    subst (λ st. Ran program from old p (stack after) (given after) st) (sym kept)
    (subst (λ q. Ran program from old q (stack after) (given after) old) (sym is_p)
    (subst (λ rs. Ran program from old (progress_of w) rs (given after) old) (sym same)
    (by_calls (has_call (Cond c x y))
    (λ calls. past_condition program old E c x y b s (stack before) t (progress_of w) (stack before) (given after) old calls plain is e
    (came_into program old E b s (stack before) (progress_of w) (stack before) (given after) (valued old E b s (stack before) (given after) w quiet_b worth_b)))
    (λ none. came_into program old E (Cond c x y) s (stack before) (progress_of w) (stack before) (given after) (valued old E (Cond c x y) s (stack before) (given after) w none whole)))))
taken_into program old E c x y b s t p before after new plain is e (inr (calls, h)) =
    past_condition program old E c x y b s (stack before) t p (stack after) (given after) new
    (one_calls (has_call c) (has_call x) (has_call y) t (branch_calls x y b t e calls)) plain is e h

pub divides_into : (program : List Placed) (old : State) (E : machine.Spot) (c x y : Exp) (s : ℕ) (rs : List machine.Rest) (vs : List ℕ) → has_call c ≡ false → quiet_forms.Divides ≡ (worth (sight old E) c).truth → Ran program (evaluating E (Cond c x y) s rs) old (progress.Ended endings.ZeroDivide) rs vs old
divides_into program old E c x y s rs vs plain is =
    let S = sight old E in
    let whole = then_do (value (quiet E) (Cond c x y) E.frame s) (λ v. give (machine.Number v) rs) in
    came_exactly program old E (Cond c x y) s rs (progress.Ended endings.ZeroDivide) rs vs
    (by_calls (has_call (Cond c x y))
    (λ calls. came_true [] (has_call (Cond c x y)) (evaluate_parts E (Cond c x y) s rs) whole old (progress.Ended endings.ZeroDivide) rs vs old calls (choice_divides E c x y s rs old vs plain is))
    (λ none. came_false [] (has_call (Cond c x y)) (evaluate_parts E (Cond c x y) s rs) whole old (progress.Ended endings.ZeroDivide) rs vs old none
    (value_divides old E (Cond c x y) s (λ v. give (machine.Number v) rs) rs vs old none (ap (λ o. chained o (λ z. cond z (worth S x).value (worth S y).value)) is))))

pub fails_into : (program : List Placed) (old : State) (E : machine.Spot) (c x y : Exp) (s : ℕ) (cause : Cause) (rs : List machine.Rest) (vs : List ℕ) → has_call c ≡ false → quiet_forms.Fails (cause_of cause) ≡ (worth (sight old E) c).truth → Ran program (evaluating E (Cond c x y) s rs) old (progress.Wild cause) rs vs old
fails_into program old E c x y s cause rs vs plain is =
    let S = sight old E in
    let whole = then_do (value (quiet E) (Cond c x y) E.frame s) (λ v. give (machine.Number v) rs) in
    came_exactly program old E (Cond c x y) s rs (progress.Wild cause) rs vs
    (by_calls (has_call (Cond c x y))
    (λ calls. came_true _ (has_call (Cond c x y)) (evaluate_parts E (Cond c x y) s rs) whole old (progress.Wild cause) rs vs old calls (choice_fails E c x y s cause rs old vs plain is))
    (λ none. came_false _ (has_call (Cond c x y)) (evaluate_parts E (Cond c x y) s rs) whole old (progress.Wild cause) rs vs old none
    (value_fails old E (Cond c x y) s cause (λ v. give (machine.Number v) rs) rs vs old none (ap (λ o. chained o (λ z. cond z (worth S x).value (worth S y).value)) is) refl)))

pub selects_into : (program : List Placed) (old : State) (E : machine.Spot) (c x y : Exp) (s : ℕ) (rs : List machine.Rest) (p : Progress) (rs1 : List machine.Rest) (vs : List ℕ) → has_call c ≡ true → Came (trail_in rs) (machine.go (machine.Decide E c s) (machine.Selects E x y s ∷ rs)) old p rs1 vs old → Ran program (evaluating E (Cond c x y) s rs) old p rs1 vs old
selects_into program old E c x y s rs p rs1 vs calls h =
    came_exactly program old E (Cond c x y) s rs p rs1 vs
    (came_true _ (has_call (Cond c x y)) (evaluate_parts E (Cond c x y) s rs) (then_do (value (quiet E) (Cond c x y) E.frame s) (λ v. give (machine.Number v) rs)) old p rs1 vs old
    (ap (λ z. z || has_call x || has_call y) calls) (choice_calls E c x y s rs old p rs1 vs calls h))

-- an operator whose first operand is a call
pub operand_into : (program : List Placed) (old : State) (E : machine.Spot) (op : Op) (es : Args) (f b : Exp) (s level : ℕ) (rs middle : List machine.Rest) (p : Progress) (rs1 : List machine.Rest) (vs : List ℕ) (new : State) → middle ≡ machine.Operates E op b s ∷ rs → level ≡ s + 1
    → Ran program (evaluating E (Call es f) level middle) old p rs1 vs new → Ran program (evaluating E (Bin op (Call es f) b) s rs) old p rs1 vs new
operand_into program old E op es f b s level rs middle p rs1 vs new k l h =
    let from = evaluating E (Bin op (Call es f) b) s rs in
    let first : Passes program old from (from ∷ []) (evaluating E (Call es f) (s + 1) (machine.Operates E op b s ∷ rs)) = (refl, tt, λ streams. refl) in
    let there = subst (λ z. Passes program old from (from ∷ []) (evaluating E (Call es f) level z)) (sym k) (subst (λ n. Passes program old from (from ∷ []) (evaluating E (Call es f) n (machine.Operates E op b s ∷ rs))) (sym l) first) in
    record {
      middle = h.middle;
      along = h.along ++ (from ∷ []);
      passes = append program old from (evaluating E (Call es f) level middle) h.middle (from ∷ []) h.along there h.passes;
      comes = h.comes;
    }

pub is_first_call : (e : Exp) (found : Option FirstCall) (o : FirstCall) → IsFirstCall e found → found ≡ Some o → first_called o ≡ e
is_first_call e found o h is = let P : Option FirstCall → Type 0 = λ z. IsFirstCall e z in subst P is h

pub call_there : (e : Exp) (o : FirstCall) → first_called o ≡ e → has_call e ≡ true
call_there e o is = sym (ap has_call is)
