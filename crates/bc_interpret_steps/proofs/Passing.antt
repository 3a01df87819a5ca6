-- Chains of steps that change no cell and take no turn.
use Rattle.std.proofs.Common.{◌≡◌, ◌⊎◌, inl, inr, ℕ, ◌+◌, ◌-◌, ◌<◌, true, List, [], ◌∷◌, ◌++◌, length, slice_get, Option, Some, None, MatchOption, option_to_list, refl, sym, ap, subst, arith, ◌∙◌, Vec, Result, OnOk}
use Rattle.std.specs.declared.alloc.Global.{Global}
use Rattle.std.proofs.lemmas.Grind.{common_steps}
use Rattle.std.proofs.lemmas.Result.{on_ok_weaker}
use Rattle.bc_core.specs.Commands.{Items, no_item, Block}
use Rattle.bc_core.specs.Exit as exits
use Rattle.bc_core.specs.Lists.{Beginning}
use Rattle.bc_core.specs.Map.{Placed}
use Rattle.bc_core.specs.Outcome.{followed}
use Rattle.bc_core.specs.Tree.{Exp}
use Rattle.bc_core.specs.View.{exp, items}
use Rattle.bc_word.specs.declared.operator.Op.{Op}
use Rattle.bc_core.specs.declared.command.ListItem.{ListItem}
use Rattle.bc_interpret_defs.specs.Machine as machine
use Rattle.bc_interpret_defs.specs.Machine.{step, give}
use Rattle.bc_interpret_defs.specs.Running.{Moves}
use Rattle.bc_interpret_defs.specs.Trails.{trail_of}
use Rattle.bc_interpret_steps.specs.declared.state.State.{State}
use Rattle.bc_interpret_steps.specs.declared.forms.Exit.{Exit}
use Rattle.bc_interpret_steps.specs.declared.forms.Exit.TheVariants as exit_forms
use Rattle.bc_interpret_steps.specs.declared.forms.Ending.{Ending}
use Rattle.bc_interpret_steps.specs.declared.forms.OpenCall.{OpenCall}
use Rattle.bc_interpret_steps.specs.declared.forms.Primitive.{Primitive}
use Rattle.bc_interpret_pure.specs.declared.context.Cause.{Cause}
use Rattle.bc_interpret_steps.specs.declared.forms.Work.TheVariants as works
use Rattle.bc_interpret_steps.specs.declared.operands.Operator.{Operator}
use Rattle.bc_interpret_steps.specs.declared.continuations.NumberRest.TheVariants as number_rests
use Rattle.bc_interpret_steps.specs.declared.continuations.ExitRest.{ExitRest}
use Rattle.bc_interpret_steps.specs.declared.forms.Work.{Work}
use Rattle.bc_interpret_steps.specs.declared.forms.Progress.{Progress}
use Rattle.bc_interpret_steps.specs.declared.forms.Progress.TheVariants as progress
use Rattle.bc_interpret_steps.specs.declared.continuations.Rest.{Rest}
use Rattle.bc_interpret_steps.specs.declared.continuations.Rest.TheVariants as rests
use Rattle.bc_interpret_steps.specs.declared.sections.Callable.{Callable}
use Rattle.bc_interpret_steps.specs.Code.{work_of, spot_of, exit_of, stacked, stack, given}
use Rattle.bc_interpret_steps.specs.Came.{state_of, Came, CameOrMalformed, IsAfterCases, Went}
use Rattle.bc_interpret_steps.specs.Stepped.{Stepped, StepsOver}
use Rattle.bc_interpret_steps.specs.Passing.{work_next, Passes, Ran, RunsOver, evaluating, leaving, PassesOn, IsLeft, IsHandedOn, IsOperator, IsPassed, IsPassedBy}
use Rattle.bc_interpret_steps.proofs.Quiet.{went}
use Rattle.bc_interpret_steps.proofs.Handing.{NoCall, stepped, stepped_loosely}
use Rattle.bc_interpret_steps.proofs.Piles.{stack_more}

-- the last one of a list
some_there : (all : List Rest) (r : Rest) → slice_get all (length all - 1) ≡ Some r → 0 < length all
some_there [] r e = absurd cc
some_there (x ∷ xs) r e = omega arith

last_there : (below : List Rest) (top : Rest) → slice_get (below ++ top ∷ []) (length below) ≡ Some top
last_there [] top = refl
last_there (x ∷ xs) top = last_there xs top

last_is : (all below : List Rest) (top r : Rest) → all ≡ below ++ top ∷ [] → slice_get all (length all - 1) ≡ Some r → top ≡ r
last_is all below top r split e =
    let size : length all - 1 ≡ length below = grind (arith, common_steps) in
    let there = last_there below top in
    let here : slice_get all (length all - 1) ≡ Some top = ap (λ n. slice_get all n) size ∙ (ap (λ xs. slice_get xs (length below)) split ∙ there) in
    cc

-- the continuations that pass an exit on

pub none_follows : (E : machine.Spot) (s : ℕ) (x : exits.Exit) (rs : List machine.Rest) → PassesOn x (machine.Follows E no_item s ∷ rs) x rs
none_follows E s exits.Past rs program old =
    (record { work = machine.Listing E no_item s Beginning; rests = rs } ∷ leaving exits.Past (machine.Follows E no_item s ∷ rs) ∷ [], ((refl, tt, λ streams. refl), tt, λ streams. refl))
none_follows E s exits.Broke rs program old = (leaving exits.Broke (machine.Follows E no_item s ∷ rs) ∷ [], (refl, tt, λ streams. refl))
none_follows E s exits.Looped rs program old = (leaving exits.Looped (machine.Follows E no_item s ∷ rs) ∷ [], (refl, tt, λ streams. refl))
none_follows E s exits.LeftCases rs program old = (leaving exits.LeftCases (machine.Follows E no_item s ∷ rs) ∷ [], (refl, tt, λ streams. refl))
none_follows E s exits.Returned rs program old = (leaving exits.Returned (machine.Follows E no_item s ∷ rs) ∷ [], (refl, tt, λ streams. refl))
none_follows E s (exits.Resulted v) rs program old = (leaving (exits.Resulted v) (machine.Follows E no_item s ∷ rs) ∷ [], (refl, tt, λ streams. refl))
none_follows E s (exits.Jumped l) rs program old = (leaving (exits.Jumped l) (machine.Follows E no_item s ∷ rs) ∷ [], (refl, tt, λ streams. refl))

pub follows_out : (E : machine.Spot) (is : Items) (s : ℕ) (x : exits.Exit) (rs : List machine.Rest) → (x ≡ exits.Past → ⊥) → PassesOn x (machine.Follows E is s ∷ rs) x rs
follows_out E is s exits.Past rs n program old = absurd (n refl)
follows_out E is s exits.Broke rs n program old = (leaving exits.Broke (machine.Follows E is s ∷ rs) ∷ [], (refl, tt, λ streams. refl))
follows_out E is s exits.Looped rs n program old = (leaving exits.Looped (machine.Follows E is s ∷ rs) ∷ [], (refl, tt, λ streams. refl))
follows_out E is s exits.LeftCases rs n program old = (leaving exits.LeftCases (machine.Follows E is s ∷ rs) ∷ [], (refl, tt, λ streams. refl))
follows_out E is s exits.Returned rs n program old = (leaving exits.Returned (machine.Follows E is s ∷ rs) ∷ [], (refl, tt, λ streams. refl))
follows_out E is s (exits.Resulted v) rs n program old = (leaving (exits.Resulted v) (machine.Follows E is s ∷ rs) ∷ [], (refl, tt, λ streams. refl))
follows_out E is s (exits.Jumped l) rs n program old = (leaving (exits.Jumped l) (machine.Follows E is s ∷ rs) ∷ [], (refl, tt, λ streams. refl))

pub listed_out : (E : machine.Spot) (is : Items) (s : ℕ) (x : exits.Exit) (rs : List machine.Rest) → ((l : ℕ) → x ≡ exits.Jumped l → ⊥) → PassesOn x (machine.Listed E is s ∷ rs) x rs
listed_out E is s exits.Past rs n program old = (leaving exits.Past (machine.Listed E is s ∷ rs) ∷ [], (refl, tt, λ streams. refl))
listed_out E is s exits.Broke rs n program old = (leaving exits.Broke (machine.Listed E is s ∷ rs) ∷ [], (refl, tt, λ streams. refl))
listed_out E is s exits.Looped rs n program old = (leaving exits.Looped (machine.Listed E is s ∷ rs) ∷ [], (refl, tt, λ streams. refl))
listed_out E is s exits.LeftCases rs n program old = (leaving exits.LeftCases (machine.Listed E is s ∷ rs) ∷ [], (refl, tt, λ streams. refl))
listed_out E is s exits.Returned rs n program old = (leaving exits.Returned (machine.Listed E is s ∷ rs) ∷ [], (refl, tt, λ streams. refl))
listed_out E is s (exits.Resulted v) rs n program old = (leaving (exits.Resulted v) (machine.Listed E is s ∷ rs) ∷ [], (refl, tt, λ streams. refl))
listed_out E is s (exits.Jumped l) rs n program old = absurd (n l refl)

pub cases_out : (x y : exits.Exit) (rs : List machine.Rest) → IsAfterCases y x → PassesOn x (machine.Cases ∷ rs) y rs
cases_out x y rs h program old = (leaving x (machine.Cases ∷ rs) ∷ [], (refl, tt, λ streams. ap (λ o. followed o (λ z. give (machine.Left z) rs)) (h (state_of old streams))))

pub none_left : (is : List ListItem) (x : Exit) → length is < 1 → IsLeft (items is) (exit_of x) true
none_left [] x l = λ E s rs. none_follows E s (exit_of x) rs
none_left (i ∷ is) x l = absurd (omega (arith, l))

pub left_for_good : (is : Items) (x : Exit)
    → (x ≡ exit_forms.Broke) ⊎ ((x ≡ exit_forms.Looped) ⊎ ((x ≡ exit_forms.LeftCases) ⊎ ((x ≡ exit_forms.Returned) ⊎ (((v : ℕ) × (x ≡ exit_forms.Resulted v)) ⊎ ((l : ℕ) × (x ≡ exit_forms.Jumped l))))))
    → IsLeft is (exit_of x) true
left_for_good is x (inl e) = subst (λ y. IsLeft is (exit_of y) true) (sym e) (λ E s rs. follows_out E is s exits.Broke rs (λ n. cc))
left_for_good is x (inr (inl e)) = subst (λ y. IsLeft is (exit_of y) true) (sym e) (λ E s rs. follows_out E is s exits.Looped rs (λ n. cc))
left_for_good is x (inr (inr (inl e))) = subst (λ y. IsLeft is (exit_of y) true) (sym e) (λ E s rs. follows_out E is s exits.LeftCases rs (λ n. cc))
left_for_good is x (inr (inr (inr (inl e)))) = subst (λ y. IsLeft is (exit_of y) true) (sym e) (λ E s rs. follows_out E is s exits.Returned rs (λ n. cc))
left_for_good is x (inr (inr (inr (inr (inl e))))) = subst (λ y. IsLeft is (exit_of y) true) (sym e.1) (λ E s rs. follows_out E is s (exits.Resulted e.0) rs (λ n. cc))
left_for_good is x (inr (inr (inr (inr (inr e))))) = subst (λ y. IsLeft is (exit_of y) true) (sym e.1) (λ E s rs. follows_out E is s (exits.Jumped e.0) rs (λ n. cc))

-- the second branch of a TEST is skipped
pub skipped : (x : exits.Exit) (that : Block) (rs : List machine.Rest) → PassesOn x (machine.Skips that ∷ rs) x rs
skipped x that rs program old = (leaving x (machine.Skips that ∷ rs) ∷ [], (refl, tt, λ streams. refl))

pub left_list : (E : machine.Spot) (is : Items) (s : ℕ) (rs : List machine.Rest) (x : Exit)
    → (x ≡ exit_forms.Past) ⊎ ((x ≡ exit_forms.Broke) ⊎ ((x ≡ exit_forms.Looped) ⊎ ((x ≡ exit_forms.LeftCases) ⊎ ((x ≡ exit_forms.Returned) ⊎ ((v : ℕ) × (x ≡ exit_forms.Resulted v))))))
    → PassesOn (exit_of x) (machine.Listed E is s ∷ rs) (exit_of x) rs
left_list E is s rs x (inl e) = subst (λ y. PassesOn (exit_of y) (machine.Listed E is s ∷ rs) (exit_of y) rs) (sym e) (listed_out E is s exits.Past rs (λ l n. cc))
left_list E is s rs x (inr (inl e)) = subst (λ y. PassesOn (exit_of y) (machine.Listed E is s ∷ rs) (exit_of y) rs) (sym e) (listed_out E is s exits.Broke rs (λ l n. cc))
left_list E is s rs x (inr (inr (inl e))) = subst (λ y. PassesOn (exit_of y) (machine.Listed E is s ∷ rs) (exit_of y) rs) (sym e) (listed_out E is s exits.Looped rs (λ l n. cc))
left_list E is s rs x (inr (inr (inr (inl e)))) = subst (λ y. PassesOn (exit_of y) (machine.Listed E is s ∷ rs) (exit_of y) rs) (sym e) (listed_out E is s exits.LeftCases rs (λ l n. cc))
left_list E is s rs x (inr (inr (inr (inr (inl e))))) = subst (λ y. PassesOn (exit_of y) (machine.Listed E is s ∷ rs) (exit_of y) rs) (sym e) (listed_out E is s exits.Returned rs (λ l n. cc))
left_list E is s rs x (inr (inr (inr (inr (inr e))))) = subst (λ y. PassesOn (exit_of y) (machine.Listed E is s ∷ rs) (exit_of y) rs) (sym e.1) (listed_out E is s (exits.Resulted e.0) rs (λ l n. cc))

-- one after another

pub append : (program : List Placed) (old : State) (a b c : machine.At) (along more : List machine.At) → Passes program old a along b → Passes program old b more c → Passes program old a (more ++ along) c
append program old a b c along [] h k = subst (λ z. Passes program old a along z) k h
append program old a b c along (m ∷ more) h k = (append program old a b m along more h k.0, k.1, k.2)

pub passes_more : (x y z : exits.Exit) (rs rs1 rs2 : List machine.Rest) → PassesOn x rs y rs1 → PassesOn y rs1 z rs2 → PassesOn x rs z rs2
passes_more x y z rs rs1 rs2 h k program old =
    let h0 = h program old in
    let k0 = k program old in
    (k0.0 ++ h0.0, append program old (leaving x rs) (leaving y rs1) (leaving z rs2) h0.0 k0.0 h0.1 k0.1)

-- the innermost continuation is popped
pub passed_top : (x : exits.Exit) (all : List Rest) (r : ExitRest) (found : Option Exit) → slice_get all (length all - 1) ≡ Some (rests.Exit r) → IsHandedOn x r found → IsPassed x all found
passed_top x all r None e h = tt
passed_top x all r (Some y) e h = (
  some_there all (rests.Exit r) e,
  λ below top split.
      let is : top ≡ rests.Exit r = last_is all below top (rests.Exit r) split e in
      subst (λ q. IsPassedBy x q y) (sym is) h,
)

passed_by : (x : exits.Exit) (all below : List Rest) (top : Rest) (y : Exit) → all ≡ below ++ top ∷ [] → IsPassedBy x top y → PassesOn x (stack all) (exit_of y) (stack below)
passed_by x all below (rests.Exit r) y e k = subst (λ q. PassesOn x q (exit_of y) (stack below)) (sym (ap stack e ∙ stack_more below (rests.Exit r))) (k (stack below))
passed_by x all below (rests.Number r) y e k = absurd k
passed_by x all below (rests.Value r) y e k = absurd k
passed_by x all below (rests.Calls fresh f) y e k = absurd k
passed_by x all below (rests.Truth r) y e k = absurd k
passed_by x all below (rests.Nothing r) y e k = absurd k
passed_by x all below (rests.Closes call n a) y e k = absurd k
passed_by x all below (rests.Given v first) y e k = absurd k

pub popped_by : (x : exits.Exit) (all below : List Rest) (gone : Option Rest) (y : Exit) (n m : ℕ) → all ≡ below ++ option_to_list gone → MatchOption gone ((n ≡ 0) × (m ≡ 0)) (λ r. m + 1 ≡ n) → length all ≡ n → IsPassed x all (Some y) → PassesOn x (stack all) (exit_of y) (stack below)
popped_by x all below None y n m e k l h = let some = h.0 in let none = k.0 in absurd (omega (arith, some, none, l))
popped_by x all below (Some r) y n m e k l h = passed_by x all below r y e (h.1 below r e)

pub popped_less : (x : exits.Exit) (all : List Rest) (gone : Option Rest) (y : Exit) (n m : ℕ) → MatchOption gone ((n ≡ 0) × (m ≡ 0)) (λ r. m + 1 ≡ n) → length all ≡ n → IsPassed x all (Some y) → m < n
popped_less x all None y n m k l h = let some = h.0 in let none = k.0 in absurd (omega (arith, some, none, l))
popped_less x all (Some r) y n m k l h = omega (arith, k)

-- an operator receives its first operand, and the second one is begun
abbrev pub giving : ℕ → List machine.Rest → machine.At
giving v rs = record { work = machine.Give (machine.Number v); rests = rs }

second_next : (program : List Placed) (st : State) (E : machine.Spot) (op : Op) (b : Exp) (s v level : ℕ) (old new rs : List machine.Rest) → old ≡ machine.Operates E op b s ∷ rs → new ≡ machine.Operated op v ∷ rs → level ≡ s + 1
    → Passes program st (giving v old) (giving v old ∷ []) (evaluating E b level new)
second_next program st E op b s v level old new rs e k l =
    subst (λ x. Passes program st (giving v x) (giving v x ∷ []) (evaluating E b level new)) (sym e)
    (subst (λ y. Passes program st (giving v (machine.Operates E op b s ∷ rs)) (giving v (machine.Operates E op b s ∷ rs) ∷ []) (evaluating E b level y)) (sym k)
    (subst (λ n. Passes program st (giving v (machine.Operates E op b s ∷ rs)) (giving v (machine.Operates E op b s ∷ rs) ∷ []) (evaluating E b n (machine.Operated op v ∷ rs))) (sym l) (refl, tt, λ streams. refl)))

pub second_ran : (program : List Placed) (o : Operator) (v level : ℕ) (all below middle : List Rest) (gone : Option Rest) (n m : ℕ) (old : State) (p : Progress) (rs1 : List machine.Rest) (vs1 : List ℕ) (new : State)
    → IsOperator (Some o) all → all ≡ below ++ option_to_list gone → MatchOption gone ((n ≡ 0) × (m ≡ 0)) (λ r. m + 1 ≡ n) → length all ≡ n
    → stack middle ≡ stacked (stack below) (given below) (rests.Number (number_rests.Operated o.op v)) → level ≡ o.site.level + 1
    → Ran program (evaluating (spot_of o.site) (exp o.second.now) level (stack middle)) old p rs1 vs1 new
    → Ran program (giving v (stack all)) old p rs1 vs1 new
second_ran program o v level all below middle None n m old p rs1 vs1 new is e k l put lv h = let some = some_there all (rests.Number (number_rests.Operates o.site o.op o.second)) is in let none = k.0 in absurd (omega (arith, some, none, l))
second_ran program o v level all below middle (Some r) n m old p rs1 vs1 new is e k l put lv h =
    let first = rests.Number (number_rests.Operates o.site o.op o.second) in
    let top : r ≡ first = last_is all below r first e is in
    let front : stack all ≡ stacked (stack below) (given below) first = ap stack e ∙ (stack_more below r ∙ ap (λ q. stacked (stack below) (given below) q) top) in
    record {
      middle = h.middle;
      along = h.along ++ (giving v (stack all) ∷ []);
      passes = append program old (giving v (stack all)) (evaluating (spot_of o.site) (exp o.second.now) level (stack middle)) h.middle (giving v (stack all) ∷ []) h.along
          (second_next program old (spot_of o.site) o.op (exp o.second.now) o.site.level v level (stack all) (stack middle) (stack below) front put lv) h.passes;
      comes = h.comes;
    }

-- one step
pub ran : (program : List Placed) (w : machine.Work) (rs : List machine.Rest) (old : State) (p : Progress) (rs1 : List machine.Rest) (vs1 : List ℕ) (new : State) → Stepped program w rs old p rs1 vs1 new → Ran program (record { work = w; rests = rs }) old p rs1 vs1 new
ran program w rs old p rs1 vs1 new h = record { middle = record { work = w; rests = rs }; along = []; passes = refl; comes = h }

pub ran_once : {A E : Type 0} (table : List Callable) (w : machine.Work) (before : Vec Rest Global) (old : State) (result : Result A E) (p : Progress) (after : Vec Rest Global) (new : State) → StepsOver table w before old result p after new → RunsOver table w before old result p after new
ran_once table w before old result p after new h program t =
    on_ok_weaker result (λ k. ran program w (stack before.items) old p (stack after.items) (given after.items) new k) (h program t)

-- there is work, and it is done
pub ran_next : {A E : Type 0} (table : List Callable) (q : Progress) (w : Work) (before : Vec Rest Global) (old : State) (result : Result A E) (p : Progress) (after : Vec Rest Global) (new : State) → q ≡ progress.On w → RunsOver table (work_of (given before.items) w) before old result p after new → RunsOver table (work_of (given before.items) (work_next q)) before old result p after new
ran_next table q w before old result p after new is h = subst (λ x. RunsOver table (work_of (given before.items) (work_next x)) before old result p after new) (sym is) h

pub proceeds_next : {A E : Type 0} (table : List Callable) (q : Progress) (w : Work) (before : Vec Rest Global) (old : State) (result : Result A E) (p : Progress) (after : Vec Rest Global) (new : State) → q ≡ progress.On w → NoCall (work_of (given before.items) w) (stack before.items) → Moves (work_of (given before.items) w) (stack before.items)
    → ((program : List Placed) → OnOk result (Came (trail_of (work_of (given before.items) w) (stack before.items)) (step program (work_of (given before.items) w) (stack before.items)) old p (stack after.items) (given after.items) new)) → RunsOver table (work_of (given before.items) (work_next q)) before old result p after new
proceeds_next table q w before old result p after new is n m h =
    ran_next table q w before old result p after new is (ran_once table (work_of (given before.items) w) before old result p after new
    (λ program t. on_ok_weaker result (λ k. stepped program (work_of (given before.items) w) (stack before.items) old p (stack after.items) (given after.items) new n m k) (h program)))

-- the same of a step that isn't wild
pub proceeds_on : {A E : Type 0} (table : List Callable) (q : Progress) (w : Work) (before : Vec Rest Global) (old : State) (result : Result A E) (p : Progress) (after : Vec Rest Global) (new : State) → q ≡ progress.On w → NoCall (work_of (given before.items) w) (stack before.items) → Moves (work_of (given before.items) w) (stack before.items)
    → ((program : List Placed) → OnOk result (Went (step program (work_of (given before.items) w) (stack before.items)) old p (stack after.items) (given after.items) new)) → RunsOver table (work_of (given before.items) (work_next q)) before old result p after new
proceeds_on table q w before old result p after new is n m h =
    proceeds_next table q w before old result p after new is n m
    (λ program. on_ok_weaker result (λ k. went (trail_of (work_of (given before.items) w) (stack before.items)) (step program (work_of (given before.items) w) (stack before.items)) old p (stack after.items) (given after.items) new k) (h program))

pub proceeds_loosely : {A E : Type 0} (table : List Callable) (q : Progress) (w : Work) (before : Vec Rest Global) (old : State) (result : Result A E) (p : Progress) (after : Vec Rest Global) (new : State) → q ≡ progress.On w → NoCall (work_of (given before.items) w) (stack before.items) → Moves (work_of (given before.items) w) (stack before.items)
    → ((program : List Placed) → OnOk result (CameOrMalformed (trail_of (work_of (given before.items) w) (stack before.items)) (step program (work_of (given before.items) w) (stack before.items)) old p (stack after.items) (given after.items) new)) → RunsOver table (work_of (given before.items) (work_next q)) before old result p after new
proceeds_loosely table q w before old result p after new is n m h =
    ran_next table q w before old result p after new is (ran_once table (work_of (given before.items) w) before old result p after new
    (λ program t. on_ok_weaker result (λ k. stepped_loosely program (work_of (given before.items) w) (stack before.items) old p (stack after.items) (given after.items) new n m k) (h program)))

-- there is no work
pub nothing_next : (p : Progress)
    → ((q : Primitive) × (f : OpenCall) × (p ≡ progress.Serve q f)) ⊎ ((p ≡ progress.Answered) ⊎ (((e : Ending) × (p ≡ progress.Ended e)) ⊎ ((p ≡ progress.Going) ⊎ ((c : Cause) × (p ≡ progress.Wild c)))))
    → work_next p ≡ works.Nothing
nothing_next p (inl e) = ap work_next e.2
nothing_next p (inr (inl e)) = ap work_next e
nothing_next p (inr (inr (inl e))) = ap work_next e.1
nothing_next p (inr (inr (inr (inl e)))) = ap work_next e
nothing_next p (inr (inr (inr (inr e)))) = ap work_next e.1
