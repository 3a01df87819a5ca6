-- For proofs: the views of this crate's types, and what its results mean.
use Rattle.std.specs.Prelude.{ℕ, Bool, true, false, ◌≡◌, ◌<◌, List, [], ◌∷◌, slice_index_or, Option, Some, None}
use Rattle.bc_core.specs.Tree.{Exp}
use Rattle.bc_core.specs.Value.{has_call}
use Rattle.bc_core.specs.View.{exp}
use Rattle.bc_interpret_pure.specs.declared.context.Sight.{Sight}
use Rattle.bc_interpret_pure.specs.Causes.{cause_of}
use Rattle.bc_interpret_pure.specs.declared.forms.Work.{Work}
use Rattle.bc_interpret_pure.specs.declared.forms.Work.TheVariants as works
use Rattle.bc_interpret_pure.specs.declared.forms.Rest.{Rest}
use Rattle.bc_interpret_pure.specs.declared.forms.Rest.TheVariants as rests
use Rattle.bc_interpret_pure.specs.declared.forms.Step.{Step}
use Rattle.bc_interpret_pure.specs.declared.forms.Step.TheVariants as steps
use Rattle.bc_interpret_pure.specs.declared.value.Worth.{Worth}
use Rattle.bc_interpret_pure.specs.declared.value.Truth.{Truth}
use Rattle.bc_interpret_pure.specs.declared.value.Truth.TheVariants as truth_forms
use Rattle.bc_interpret_pure.specs.declared.value.Worth.TheVariants as worth_forms
use Rattle.bc_interpret_defs.specs.Quiet.{worth, QuietWork, QuietRest, QuietStep, Stops, on, quiet_meant, quiet_weight}
use Rattle.bc_interpret_defs.specs.Quiet as quiet

-- the context of an evaluation, as the definitions have it
abbrev pub sight_of : Sight → quiet.Sight
sight_of S = record { cells = S.store.now; address = λ l. slice_index_or S.addresses.now l 0; frame = S.frame }

-- the current work, as the definitions have it
abbrev pub work_of : Work → QuietWork
work_of (works.Evaluate e) = quiet.Evaluate (exp e.now)
work_of (works.Decide e) = quiet.Decide (exp e.now)
work_of (works.Number v) = quiet.Give (quiet.Number v)
work_of (works.Verdict t) = quiet.Give (quiet.Verdict t)
work_of works.Divided = quiet.Divided

-- a continuation, as the definitions have it
abbrev pub rest_of : Rest → QuietRest
rest_of rests.Loads = quiet.Loads
rest_of rests.Negates = quiet.Negates
rest_of rests.Complements = quiet.Complements
rest_of rests.Tests = quiet.Tests
rest_of (rests.Operates op e) = quiet.Operates op (exp e.now)
rest_of (rests.Operated op x) = quiet.Operated op x
rest_of rests.Beside = quiet.Beside
rest_of rests.Opposes = quiet.Opposes
rest_of (rests.Conjoins e) = quiet.Conjoins (exp e.now)
rest_of (rests.Disjoins e) = quiet.Disjoins (exp e.now)
rest_of (rests.Selects x y) = quiet.Selects (exp x.now) (exp y.now)

-- the continuations as a list, put on rs: the last one pushed comes first
abbrev pub stack_on : List QuietRest → List Rest → List QuietRest
stack_on rs [] = rs
stack_on rs (x ∷ xs) = stack_on (rest_of x ∷ rs) xs

-- the continuations as a list
abbrev pub stack : List Rest → List QuietRest
stack xs = stack_on [] xs

-- the innermost continuation was popped, or there was none
abbrev pub Popped : Option Rest → List QuietRest → List QuietRest → Type 0
Popped None old new = (old ≡ []) × (new ≡ [])
Popped (Some r) old new = old ≡ rest_of r ∷ new

-- the worth that the code found
abbrev pub seen : Worth → quiet.Worth ℕ
seen (worth_forms.Is v) = quiet.Is v
seen worth_forms.Divides = quiet.Divides
seen (worth_forms.Fails c) = quiet.Fails (cause_of c)

-- the truth that the code found
abbrev pub seen_truth : Truth → quiet.Worth Bool
seen_truth (truth_forms.Is t) = quiet.Is t
seen_truth truth_forms.Divides = quiet.Divides
seen_truth (truth_forms.Fails c) = quiet.Fails (cause_of c)

-- the expression is pure and has this worth, or it contains a call
abbrev pub IsWorth : quiet.Sight → Exp → Option Worth → Type 0
IsWorth S e (Some w) = (has_call e ≡ false) × (seen w ≡ (worth S e).value)
IsWorth S e None = has_call e ≡ true

-- the expression is pure and has this truth, or it contains a call
abbrev pub IsTruth : quiet.Sight → Exp → Option Truth → Type 0
IsTruth S e (Some t) = (has_call e ≡ false) × (seen_truth t ≡ (worth S e).truth)
IsTruth S e None = has_call e ≡ true

-- the code's step is the definition's step o, with these continuations left
abbrev pub Came : Step → QuietStep → List QuietRest → Type 0
Came (steps.On w) o rs = o ≡ on (work_of w) rs
Came (steps.Number v) o rs = ⊥
Came (steps.Verdict t) o rs = ⊥
Came steps.Divides o rs = ⊥
Came (steps.Fails c) o rs = o ≡ Stops (cause_of c)

-- the code's step preserves the meaning of the remaining work and decreases its weight, or it gives that meaning
abbrev pub Kept : Step → quiet.Sight → QuietWork → (old new : List QuietRest) → Type 0
Kept (steps.On next) S w rs rs1 = (quiet_meant S (work_of next) rs1 ≡ quiet_meant S w rs) × (quiet_weight (work_of next) rs1 < quiet_weight w rs)
Kept (steps.Number v) S w rs rs1 = quiet_meant S w rs ≡ quiet.Is (quiet.Number v)
Kept (steps.Verdict t) S w rs rs1 = quiet_meant S w rs ≡ quiet.Is (quiet.Verdict t)
Kept steps.Divides S w rs rs1 = quiet_meant S w rs ≡ quiet.Divides
Kept (steps.Fails c) S w rs rs1 = quiet_meant S w rs ≡ quiet.Fails (cause_of c)
