-- What a step and runs of steps preserve.
use Rattle.std.proofs.Common.{◌≡◌, ℕ, suc, ◌+◌, ◌<◌, ◌≤◌, List, [], ◌∷◌, refl, sym, ap, subst, arith, ◌∙◌}
use Rattle.bc_machine_defs.specs.Streams.{Content}
use Rattle.bc_machine_defs.specs.StreamCalls.{output_of}
use Rattle.bc_core.specs.Map.{Placed}
use Rattle.bc_core.specs.Outcome as outcomes
use Rattle.bc_core.specs.Outcome.{Outcome, followed, left}
use Rattle.bc_core.specs.Meaning.{calls, result_of}
use Rattle.bc_core.specs.Meaning as meanings
use Rattle.bc_core.specs.Primitive.{primitive_work}
use Rattle.bc_interpret_defs.specs.Machine as machine
use Rattle.bc_interpret_defs.specs.Machine.{step, give}
use Rattle.bc_interpret_defs.specs.Resume.{meant}
use Rattle.bc_interpret_defs.specs.Weight.{weight, Lessens}
use Rattle.bc_interpret_defs.specs.Running.{Moves}
use Rattle.bc_interpret_defs.proofs.Running.{steps_keep, steps_lessen}
use Rattle.bc_interpret_defs.specs.Causes as met
use Rattle.bc_interpret_defs.specs.Meeting.{IsWildBy, Meets, ByArgument, after_steps, ComesTo}
use Rattle.bc_interpret_defs.specs.Trails.{Standing, trail_in, begun, IsTrail, Calling}
use Rattle.bc_interpret_pure.specs.declared.context.Cause.{Cause}
use Rattle.bc_interpret_pure.specs.Causes.{cause_of}
use Rattle.bc_interpret_steps.specs.declared.forms.Work.{Work}
use Rattle.bc_interpret_steps.specs.declared.forms.Work.TheVariants as works
use Rattle.bc_interpret_steps.specs.declared.forms.Progress.{Progress}
use Rattle.bc_interpret_steps.specs.declared.forms.Progress.TheVariants as progress
use Rattle.bc_interpret_steps.specs.declared.forms.OpenCall.{OpenCall}
use Rattle.bc_interpret_steps.specs.declared.forms.Primitive.{Primitive}
use Rattle.bc_interpret_steps.specs.declared.forms.Ending.{Ending}
use Rattle.bc_interpret_steps.specs.declared.continuations.Rest.{Rest}
use Rattle.bc_interpret_steps.specs.declared.sections.Callable.{Callable}
use Rattle.bc_interpret_steps.specs.declared.state.State.{State}
use Rattle.bc_interpret_steps.specs.Code.{stack, open_call}
use Rattle.bc_interpret_steps.specs.Came.{state_of, primitive_of}
use Rattle.bc_interpret_steps.specs.Endings.{ending}
use Rattle.bc_interpret_steps.specs.declared.state.Stacks.{Stacks}
use Rattle.bc_interpret_steps.specs.Sections.{IsTable}
use Rattle.bc_interpret_steps.specs.Passing.{Passes}
use Rattle.bc_interpret.specs.declared.serve.Served.TheVariants as forms
use Rattle.bc_interpret.specs.declared.run.Run.{Run}
use Rattle.bc_interpret.specs.declared.run.Moved.{Moved}
use Rattle.bc_interpret.specs.declared.run.Moved.TheVariants.{On, Over}
use Rattle.bc_interpret.specs.declared.run.Outcome as outcome
use Rattle.bc_interpret.specs.declared.run.Outcome.TheVariants as outs
use Rattle.bc_interpret.specs.declared.serve.Served.{Served}
use Rattle.bc_interpret.specs.Results.{IsResult, Names}
use Rattle.bc_interpret.specs.Serving.{Serves, Numbers, Blames, Works}
use Rattle.bc_interpret.specs.Moving.{HasProgram, at_of, weight_of, StepIs, RanIs, left_from, left_of, next_of, MovesBy, Comes, Keeps, Leads, Tracks, TookTurn, Advanced}

no_streams : Content
no_streams = record { inputs = []; outputs = []; input = 0; output = 0 }

-- the outcome of a step is the result of the remaining run
through : (program : List Placed) (n : ℕ) (a : machine.At) (old : State) (streams : Content) (o : Outcome machine.At) → step program a.work a.rests (state_of old streams) ≡ o → old.turns < n → left_from program n a old streams ≡ result_of (followed o (meant (calls program n)))
through program n a old streams o e l =
    ap (λ (x : Outcome machine.Answer). result_of x) (steps_keep program n a.work a.rests (state_of old streams) l ∙ ap (λ x. followed x (meant (calls program n))) e)

lessened_by : (program : List Placed) (a : machine.At) (old : State) (o : Outcome machine.At) → Moves a.work a.rests → step program a.work a.rests (state_of old no_streams) ≡ o → Lessens old.turns (weight a.work a.rests) o
lessened_by program a old o m e =
    subst (λ x. Lessens old.turns (weight a.work a.rests) x) e (steps_lessen program a.work a.rests (state_of old no_streams) m)

pub on_keeps : (program : List Placed) (n : ℕ) (a : machine.At) (old : State) (next : Work) (rests1 : List Rest) (new : State) (streams : Content) → StepIs program a old (progress.On next) rests1 new → old.turns < n → left_from program n a old streams ≡ left_of program n next rests1 new streams
on_keeps program n a old next rests1 new streams h l = through program n a old streams _ (h.1 streams) l

pub on_lessens : (program : List Placed) (a : machine.At) (old : State) (next : Work) (rests1 : List Rest) (new : State) → StepIs program a old (progress.On next) rests1 new → (new.turns ≤ old.turns) × (old.turns ≤ new.turns → weight_of next rests1 < weight a.work a.rests)
on_lessens program a old next rests1 new h = lessened_by program a old _ h.0 (h.1 no_streams)

pub served_keeps : (program : List Placed) (n : ℕ) (a : machine.At) (old : State) (q : Primitive) (call : OpenCall) (v : ℕ) (rests1 : List Rest) (mid new : State) (before after : Content) → StepIs program a old (progress.Serve q call) rests1 mid → Serves (λ st. left 1 (call.frame + 2) (primitive_work (primitive_of q) call.frame st)) mid before (forms.Number v) new after → old.turns < n → left_from program n a old before ≡ left_of program n (works.Number v) rests1 new after
served_keeps program n a old q call v rests1 mid new before after h s l =
    through program n a old before _ (h.1.served.comes before ∙ ap (λ o. followed o (λ x. give (machine.Number x) (stack rests1))) s) l

pub served_lessens : (program : List Placed) (a : machine.At) (old : State) (q : Primitive) (call : OpenCall) (v : ℕ) (rests1 : List Rest) (mid new : State) → StepIs program a old (progress.Serve q call) rests1 mid → Numbers (λ st. left 1 (call.frame + 2) (primitive_work (primitive_of q) call.frame st)) mid (forms.Number v) new → (new.turns ≤ old.turns) × (old.turns ≤ new.turns → weight_of (works.Number v) rests1 < weight a.work a.rests)
served_lessens program a old q call v rests1 mid new h k =
    let k0 = k no_streams in
    lessened_by program a old (outcomes.Done (record { work = machine.Give (machine.Number k0.0); rests = stack rests1 }) (state_of new k0.1)) h.0
    (h.1.served.comes no_streams ∙ ap (λ o. followed o (λ x. give (machine.Number x) (stack rests1))) k0.2)

pub served_wild : (program : List Placed) (n : ℕ) (a : machine.At) (old : State) (q : Primitive) (call : OpenCall) (c : Cause) (rests1 : List Rest) (mid new : State) (before after : Content) → StepIs program a old (progress.Serve q call) rests1 mid → Serves (λ st. left 1 (call.frame + 2) (primitive_work (primitive_of q) call.frame st)) mid before (forms.Wild c) new after → old.turns < n → left_from program n a old before ≡ meanings.Wild
served_wild program n a old q call c rests1 mid new before after h s l =
    through program n a old before _ (h.1.served.comes before ∙ ap (λ o. followed o (λ x. give (machine.Number x) (stack rests1))) s) l

pub answered : (program : List Placed) (n : ℕ) (a : machine.At) (old : State) (rests1 : List Rest) (new : State) (streams : Content) → StepIs program a old progress.Answered rests1 new → left_from program n a old streams ≡ meanings.Ended (output_of streams) outcomes.Finished
answered program n a old rests1 new streams h =
    λ i. result_of (meant (calls program n) (record { work = h.0.1 i; rests = h.1 i }) (state_of old streams))

pub ended : (program : List Placed) (n : ℕ) (a : machine.At) (old : State) (e : Ending) (rests1 : List Rest) (new : State) (streams : Content) → StepIs program a old (progress.Ended e) rests1 new → old.turns < n → left_from program n a old streams ≡ meanings.Ended (output_of streams) (ending e)
ended program n a old e rests1 new streams h l = through program n a old streams _ (h.1 streams) l

pub going : (program : List Placed) (n : ℕ) (a : machine.At) (old : State) (rests1 : List Rest) (new : State) (streams : Content) → StepIs program a old progress.Going rests1 new → old.turns < n → left_from program n a old streams ≡ meanings.Going (output_of streams)
going program n a old rests1 new streams h l = through program n a old streams _ (h.1 streams) l

pub was_wild : (program : List Placed) (n : ℕ) (a : machine.At) (old : State) (c : Cause) (rests1 : List Rest) (new : State) (streams : Content) → StepIs program a old (progress.Wild c) rests1 new → old.turns < n → left_from program n a old streams ≡ meanings.Wild
was_wild program n a old c rests1 new streams h l = through program n a old streams _ (h.1 streams) l

-- reaching a wild access

-- one that is reached after a step
pub one_more : (program : List Placed) (from at : machine.At) (start st : outcomes.State) (c : met.Cause) (trail : List Standing) → step program from.work from.rests start ≡ outcomes.Done at st → ComesTo program at st c trail → ComesTo program from start c trail
one_more program from at start st c trail e h = record {
  steps = suc h.steps;
  at = h.at;
  state = h.state;
  comes = ap (λ o. followed o (after_steps program h.steps)) e ∙ h.comes;
  wild = h.wild;
  meets = h.meets;
  during = h.during;
}

-- one that this step meets
pub at_once : (program : List Placed) (from : machine.At) (start : outcomes.State) (c : met.Cause) (trail : List Standing) → step program from.work from.rests start ≡ outcomes.Wild → Meets program from.work from.rests start.cells c → IsTrail from.work from.rests trail → ComesTo program from start c trail
at_once program from start c trail e m a = record { steps = 0; at = from; state = start; comes = refl; wild = e; meets = m; during = a }

pub was_met : (program : List Placed) (a : machine.At) (old : State) (c : Cause) (rests1 : List Rest) (new : State) (streams : Content) → StepIs program a old (progress.Wild c) rests1 new → Names program a (state_of old streams) (outs.Wild c) (trail_in (stack rests1))
was_met program a old c rests1 new streams h = at_once program a (state_of old streams) (cause_of c) (trail_in (stack rests1)) (h.1 streams) h.2 h.3

served_leads : (program : List Placed) (a : machine.At) (old : State) (q : Primitive) (call : OpenCall) (v : ℕ) (rests1 : List Rest) (mid new : State) (before after : Content) (c : met.Cause) (trail : List Standing) → StepIs program a old (progress.Serve q call) rests1 mid → Serves (λ st. left 1 (call.frame + 2) (primitive_work (primitive_of q) call.frame st)) mid before (forms.Number v) new after
    → ComesTo program (at_of (works.Number v) rests1) (state_of new after) c trail → ComesTo program a (state_of old before) c trail
served_leads program a old q call v rests1 mid new before after c trail h s g =
    one_more program a (at_of (works.Number v) rests1) (state_of old before) (state_of new after) c trail
    (h.1.served.comes before ∙ ap (λ o. followed o (λ x. give (machine.Number x) (stack rests1))) s) g

served_met : (program : List Placed) (a : machine.At) (old : State) (q : Primitive) (call : OpenCall) (c : Cause) (rests1 : List Rest) (mid new : State) (before after : Content) → StepIs program a old (progress.Serve q call) rests1 mid → Serves (λ st. left 1 (call.frame + 2) (primitive_work (primitive_of q) call.frame st)) mid before (forms.Wild c) new after
    → Blames (primitive_work (primitive_of q) call.frame) mid (forms.Wild c) → Names program a (state_of old before) (outs.Wild c) (begun call.routine call.frame ∷ trail_in (stack rests1))
served_met program a old q call c rests1 mid new before after h s blamed =
    let made = h.1 in
    let there : IsWildBy (primitive_work (primitive_of q) made.frame) mid.store (cause_of c) = subst (λ z. IsWildBy (primitive_work (primitive_of q) z) mid.store (cause_of c)) made.served.frame blamed in
    let passed_on = subst (λ z. IsWildBy (primitive_work (primitive_of q) made.frame) z (cause_of c)) made.served.has_argument there in
    at_once program a (state_of old before) (cause_of c) (begun call.routine call.frame ∷ trail_in (stack rests1)) (made.served.comes before ∙ ap (λ o. followed o (λ x. give (machine.Number x) (stack rests1))) s)
    (ByArgument made.value made.arguments made.frame (primitive_of q) made.calls made.served.is_primitive made.served.fits passed_on)
    (Calling made.value made.arguments made.frame made.calls (λ i. begun (made.named i) (made.served.frame i) ∷ made.kept i))

-- steps that change nothing

passes_keep : (program : List Placed) (n : ℕ) (a : machine.At) (along : List machine.At) (to : machine.At) (old : State) (streams : Content) → Passes program old a along to → old.turns < n → left_from program n a old streams ≡ left_from program n to old streams
passes_keep program n a [] to old streams h l = ap (λ z. left_from program n z old streams) h
passes_keep program n a (m ∷ along) to old streams h l =
    passes_keep program n a along m old streams h.0 l ∙ through program n m old streams _ (h.2 streams) l

passes_lessen : (program : List Placed) (a : machine.At) (along : List machine.At) (to : machine.At) (old : State) → Passes program old a along to → weight to.work to.rests ≤ weight a.work a.rests
passes_lessen program a [] to old h = subst (λ z. weight z.work z.rests ≤ weight a.work a.rests) h (omega arith)
passes_lessen program a (m ∷ along) to old h =
    let k = lessened_by program m old _ h.1 (h.2 no_streams) in
    let less = k.1 (omega arith) in
    let more = passes_lessen program a along m old h.0 in
    omega (arith, less, more)

passes_lead : (program : List Placed) (a : machine.At) (along : List machine.At) (to : machine.At) (old : State) (streams : Content) (c : met.Cause) (trail : List Standing) → Passes program old a along to → ComesTo program to (state_of old streams) c trail → ComesTo program a (state_of old streams) c trail
passes_lead program a [] to old streams c trail h g = subst (λ z. ComesTo program z (state_of old streams) c trail) (sym h) g
passes_lead program a (m ∷ along) to old streams c trail h g = passes_lead program a along m old streams c trail h.0 (one_more program m to (state_of old streams) (state_of old streams) c trail (h.2 streams) g)

pub ran_answered : (program : List Placed) (n : ℕ) (w : Work) (rests : List Rest) (old : State) (rests1 : List Rest) (new : State) (streams : Content) → RanIs program w rests old progress.Answered rests1 new → old.turns < n → left_of program n w rests old streams ≡ meanings.Ended (output_of streams) outcomes.Finished
ran_answered program n w rests old rests1 new streams h l = passes_keep program n (at_of w rests) h.along h.middle old streams h.passes l ∙ answered program n h.middle old rests1 new streams h.comes

pub ran_ended : (program : List Placed) (n : ℕ) (w : Work) (rests : List Rest) (old : State) (e : Ending) (rests1 : List Rest) (new : State) (streams : Content) → RanIs program w rests old (progress.Ended e) rests1 new → old.turns < n → left_of program n w rests old streams ≡ meanings.Ended (output_of streams) (ending e)
ran_ended program n w rests old e rests1 new streams h l = passes_keep program n (at_of w rests) h.along h.middle old streams h.passes l ∙ ended program n h.middle old e rests1 new streams h.comes l

pub ran_going : (program : List Placed) (n : ℕ) (w : Work) (rests : List Rest) (old : State) (rests1 : List Rest) (new : State) (streams : Content) → RanIs program w rests old progress.Going rests1 new → old.turns < n → left_of program n w rests old streams ≡ meanings.Going (output_of streams)
ran_going program n w rests old rests1 new streams h l = passes_keep program n (at_of w rests) h.along h.middle old streams h.passes l ∙ going program n h.middle old rests1 new streams h.comes l

pub ran_wild : (program : List Placed) (n : ℕ) (w : Work) (rests : List Rest) (old : State) (c : Cause) (rests1 : List Rest) (new : State) (streams : Content) → RanIs program w rests old (progress.Wild c) rests1 new → old.turns < n → left_of program n w rests old streams ≡ meanings.Wild
ran_wild program n w rests old c rests1 new streams h l = passes_keep program n (at_of w rests) h.along h.middle old streams h.passes l ∙ was_wild program n h.middle old c rests1 new streams h.comes l

pub ran_met : (program : List Placed) (w : Work) (rests : List Rest) (old : State) (c : Cause) (rests1 : List Rest) (new : State) (streams : Content) → RanIs program w rests old (progress.Wild c) rests1 new → Names program (at_of w rests) (state_of old streams) (outs.Wild c) (trail_in (stack rests1))
ran_met program w rests old c rests1 new streams h = passes_lead program (at_of w rests) h.along h.middle old streams (cause_of c) (trail_in (stack rests1)) h.passes (was_met program h.middle old c rests1 new streams h.comes)

leads_from : (program : List Placed) (from from1 : machine.At) (start start1 : outcomes.State) (moved : Moved) (new : Run) (after : Content) → ((c : met.Cause) (trail : List Standing) → ComesTo program from1 start1 c trail → ComesTo program from start c trail) → Leads program from1 start1 moved new after → Leads program from start moved new after
leads_from program from from1 start start1 On new after f h = λ c trail g. f c trail (h c trail g)
leads_from program from from1 start start1 (Over (outs.Ended e)) new after f h = tt
leads_from program from from1 start start1 (Over outs.Going) new after f h = tt
leads_from program from from1 start start1 (Over (outs.Wild c)) new after f h = f (cause_of c) (trail_in (stack new.stacks.rests.items)) h
leads_from program from from1 start start1 (Over outs.Device) new after f h = tt

pub tracks_on : (table : List Callable) (w : Work) (start old new : Run) (before middle after : Content) (moved : Moved) → Tracks table w start before On old middle → Tracks table (next_of old) old middle moved new after → Tracks table w start before moved new after
tracks_on table w start old new before middle after moved k h program t =
    leads_from program (at_of w start.stacks.rests.items) (at_of (next_of old) old.stacks.rests.items) (state_of start.state before) (state_of old.state middle) moved new after (k program t) (h program t)

-- consecutive moves

comes_from : (program : List Placed) (n : ℕ) (r r1 : meanings.Result) (moved : Moved) (new : Run) (after : Content) → r ≡ r1 → Comes program n r1 moved new after → Comes program n r moved new after
comes_from program n r r1 On new after e h = e ∙ h
comes_from program n r r1 (Over (outs.Ended x)) new after e h = e ∙ h
comes_from program n r r1 (Over outs.Going) new after e h = e ∙ h
comes_from program n r r1 (Over (outs.Wild c)) new after e h = e ∙ h
comes_from program n r r1 (Over outs.Device) new after e h = tt

pub keeps_on : (table : List Callable) (w : Work) (start old new : Run) (before middle after : Content) (moved : Moved) → Keeps table w start before On old middle → old.state.turns ≤ start.state.turns → Keeps table (next_of old) old middle moved new after → Keeps table w start before moved new after
keeps_on table w start old new before middle after moved k le h program t n l =
    comes_from program n _ _ moved new after (k program t n l) (h program t n (omega arith))

pub turn_taken : (moved : Moved) (old new : Run) → moved ≡ On → TookTurn moved old new → new.state.turns < old.state.turns
turn_taken moved old new e h = subst (λ m. TookTurn m old new) e h

same_outcome : (o o1 : outcome.Outcome) → Over o ≡ Over o1 → o ≡ o1
same_outcome o o1 e = cc

-- the outcome of a step, by its form
pub step_is : (table : List Callable) (w : Work) (rests : List Rest) (old : State) (rests1 : List Rest) (new : State) (p q : Progress)
    → ((program : List Placed) → IsTable program table → RanIs program w rests old p rests1 new) → p ≡ q
    → (program : List Placed) → IsTable program table → RanIs program w rests old q rests1 new
step_is table w rests old rests1 new p q h is program t = subst (λ x. RanIs program w rests old x rests1 new) is (h program t)

pub on_advances : (table : List Callable) (w : Work) (old new : Run) (known : Type 0) (before : Content) (failures : ℕ) (next : Work) → HasProgram table
    → ((program : List Placed) → IsTable program table → RanIs program w old.stacks.rests.items old.state (progress.On next) new.stacks.rests.items new.state)
    → next_of new ≡ next → Advanced table w old new known known before before failures failures On
on_advances table w old new known before failures next p s is = record {
  keeps = λ k program t n l. let r = s program t in
      passes_keep program n (at_of w old.stacks.rests.items) r.along r.middle old.state before r.passes l
      ∙ (on_keeps program n r.middle old.state next new.stacks.rests.items new.state before r.comes l
      ∙ ap (λ x. left_of program n x new.stacks.rests.items new.state before) (sym is));
  tracks = λ k program t c trail g. let r = s program t in
      passes_lead program (at_of w old.stacks.rests.items) r.along r.middle old.state before c trail r.passes
      (one_more program r.middle (at_of next new.stacks.rests.items) (state_of old.state before) (state_of new.state before) c trail (r.comes.1 before)
      (subst (λ x. ComesTo program (at_of x new.stacks.rests.items) (state_of new.state before) c trail) is g));
  lessened = let r = s p.0 p.1 in
      let k = on_lessens p.0 r.middle old.state next new.stacks.rests.items new.state r.comes in
      let more = passes_lessen p.0 (at_of w old.stacks.rests.items) r.along r.middle old.state r.passes in
      (k.0, λ le. let less = subst (λ x. weight_of x new.stacks.rests.items < weight r.middle.work r.middle.rests) (sym is) (k.1 le) in omega (arith, less, more));
  kept = λ k. k;
  failed = λ e. absurd cc;
  counted = omega arith;
}

pub over_advances : (table : List Callable) (w : Work) (old new : Run) (known : Type 0) (before : Content) (failures : ℕ) (o : outcome.Outcome) → (o ≡ outs.Device → ⊥)
    → ((program : List Placed) → IsTable program table → (n : ℕ) → old.state.turns < n → IsResult (left_of program n w old.stacks.rests.items old.state before) o before)
    → ((program : List Placed) → IsTable program table → Names program (at_of w old.stacks.rests.items) (state_of old.state before) o (trail_in (stack new.stacks.rests.items)))
    → Advanced table w old new known known before before failures failures (Over o)
over_advances table w old new known before failures o other s m = record {
  keeps = λ k program t n l. s program t n l;
  tracks = λ k program t. m program t;
  lessened = tt;
  kept = λ k. k;
  failed = λ e. absurd (other (same_outcome o outs.Device e));
  counted = omega arith;
}

-- a primitive's work, with the number that it gives next
abbrev put_next : Stacks → Work → Stacks
put_next stacks w = record stacks { next = progress.On w }

served_number : (table : List Callable) (w : Work) (old new : Run) (q : Primitive) (call : OpenCall) (v : ℕ) (stacks : Stacks) (mid : State) (known tells : Type 0) (before after : Content) (failures risen : ℕ) → HasProgram table
    → ((program : List Placed) → IsTable program table → RanIs program w old.stacks.rests.items old.state (progress.Serve q call) stacks.rests.items mid)
    → Works (primitive_work (primitive_of q) call.frame) (λ st. left 1 (call.frame + 2) (primitive_work (primitive_of q) call.frame st)) mid new.state known tells before after failures risen (forms.Number v)
    → Advanced table w old (record new { stacks = put_next stacks (works.Number v) }) known tells before after failures risen On
served_number table w old new q call v stacks mid known tells before after failures risen p s x = record {
  keeps = λ k program t n l. let r = s program t in
      passes_keep program n (at_of w old.stacks.rests.items) r.along r.middle old.state before r.passes l
      ∙ served_keeps program n r.middle old.state q call v stacks.rests.items mid new.state before after r.comes (x.exact k) l;
  tracks = λ k program t c trail g. let r = s program t in
      passes_lead program (at_of w old.stacks.rests.items) r.along r.middle old.state before c trail r.passes
      (served_leads program r.middle old.state q call v stacks.rests.items mid new.state before after c trail r.comes (x.exact k) g);
  lessened = let r = s p.0 p.1 in
      let k = served_lessens p.0 r.middle old.state q call v stacks.rests.items mid new.state r.comes x.numbers in
      let more = passes_lessen p.0 (at_of w old.stacks.rests.items) r.along r.middle old.state r.passes in
      (k.0, λ le. let less = k.1 le in omega (arith, less, more));
  kept = x.kept;
  failed = λ e. absurd cc;
  counted = x.counted;
}

pub served_advances : (table : List Callable) (w : Work) (old new : Run) (q : Primitive) (call : OpenCall) (stacks : Stacks) (mid : State) (known tells : Type 0) (before after : Content) (failures risen : ℕ) (served : Served) (moved : Moved) → HasProgram table
    → ((program : List Placed) → IsTable program table → RanIs program w old.stacks.rests.items old.state (progress.Serve q call) stacks.rests.items mid)
    → Works (primitive_work (primitive_of q) call.frame) (λ st. left 1 (call.frame + 2) (primitive_work (primitive_of q) call.frame st)) mid new.state known tells before after failures risen served
    → MovesBy served call moved new.stacks stacks
    → Advanced table w old new known tells before after failures risen moved
served_advances table w old new q call stacks mid known tells before after failures risen (forms.Number v) moved p s x m =
    subst (λ y. Advanced table w old new known tells before after failures risen y) (sym m.0)
    (subst (λ st. Advanced table w old (record new { stacks = st }) known tells before after failures risen On) (sym m.1)
    (served_number table w old new q call v stacks mid known tells before after failures risen p s x))
served_advances table w old new q call stacks mid known tells before after failures risen (forms.Wild c) moved p s x m =
    subst (λ y. Advanced table w old new known tells before after failures risen y) (sym m.0) (record {
      keeps = λ k program t n l. let r = s program t in
          passes_keep program n (at_of w old.stacks.rests.items) r.along r.middle old.state before r.passes l
          ∙ served_wild program n r.middle old.state q call c stacks.rests.items mid new.state before after r.comes (x.exact k) l;
      tracks = λ k program t. let r = s program t in
          subst (λ trail. Names program (at_of w old.stacks.rests.items) (state_of old.state before) (outs.Wild c) trail) (sym m.1)
          (passes_lead program (at_of w old.stacks.rests.items) r.along r.middle old.state before (cause_of c) (begun call.routine call.frame ∷ trail_in (stack stacks.rests.items)) r.passes
          (served_met program r.middle old.state q call c stacks.rests.items mid new.state before after r.comes (x.exact k) x.blamed));
      lessened = tt;
      kept = x.kept;
      failed = λ e. absurd cc;
      counted = x.counted;
    })
served_advances table w old new q call stacks mid known tells before after failures risen forms.Device moved p s x m =
    subst (λ y. Advanced table w old new known tells before after failures risen y) (sym m) (record {
      keeps = λ k program t n l. tt;
      tracks = λ k program t. tt;
      lessened = tt;
      kept = x.kept;
      failed = λ e. x.failed refl;
      counted = x.counted;
    })
