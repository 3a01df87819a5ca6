-- Pure tests of IF and WHILE, which are decided within one step.
use Rattle.std.proofs.Common.{◌≡◌, ℕ, Bool, true, List, [], ◌∷◌, Option, Some, sym, ap}
use Rattle.bc_core.specs.Tree.{Exp}
use Rattle.bc_core.specs.Commands.{Block}
use Rattle.bc_core.specs.Commands as commands
use Rattle.bc_core.specs.Exit.{Past}
use Rattle.bc_core.specs.Loop.{agrees}
use Rattle.bc_core.specs.Outcome.{choose}
use Rattle.bc_core.specs.Value.{has_call}
use Rattle.bc_interpret_defs.specs.Machine as machine
use Rattle.bc_interpret_defs.specs.Machine.{give, enter, perform_step}
use Rattle.bc_interpret_defs.specs.Trails.{Standing, trail_in}
use Rattle.bc_interpret_pure.specs.declared.context.Cause.{Cause}
use Rattle.bc_interpret_pure.specs.declared.value.Truth.{Truth}
use Rattle.bc_interpret_pure.specs.declared.value.Truth.TheVariants as truths
use Rattle.bc_interpret_pure.specs.Views.{IsTruth}
use Rattle.bc_interpret_steps.specs.declared.state.State.{State}
use Rattle.bc_interpret_steps.specs.declared.forms.Progress.{Progress}
use Rattle.bc_interpret_steps.specs.declared.forms.Progress.TheVariants as progress
use Rattle.bc_interpret_steps.specs.declared.forms.Ending.TheVariants as endings
use Rattle.bc_interpret_steps.specs.Came.{Came, Went, sight}
use Rattle.bc_interpret_steps.proofs.Quiet.{same_came, went, told_truth, tested_on, tested_divides, tested_fails, tested_calls}

abbrev if_next : machine.Spot → Bool → Block → ℕ → List machine.Rest → Bool → machine.Step
if_next E sense b s rs t = choose (agrees sense t) (enter E b s rs) (give (machine.Left Past) rs)

abbrev while_next : machine.Spot → Bool → Exp → Block → ℕ → List machine.Rest → Bool → machine.Step
while_next E sense e b s rs t = choose (agrees sense t) (enter E b s (machine.WhileBody E sense e b s ∷ rs)) (give (machine.Left Past) rs)

-- the outcome of an IF
pub if_told : (trail : List Standing) → (E : machine.Spot) (sense : Bool) (e : Exp) (b : Block) (s : ℕ) (rs : List machine.Rest) (old : State) (found : Option Truth) (t holds : Bool) (p : Progress) (rs1 : List machine.Rest) (vs : List ℕ) (new : State) → IsTruth (sight old E) e found → found ≡ Some (truths.Is t) → holds ≡ agrees sense t
    → Went (choose holds (enter E b s rs) (give (machine.Left Past) rs)) old p rs1 vs new → Came trail (perform_step E (commands.If sense e b) s rs) old p rs1 vs new
if_told trail E sense e b s rs old found t holds p rs1 vs new h is a g =
    let told = told_truth (sight old E) e found (truths.Is t) h is in
    tested_on _ E e s (if_next E sense b s rs) (machine.Ifs E sense b s) rs old t p rs1 vs new told.0 told.1
    (same_came _ (if_next E sense b s rs t) (choose holds (enter E b s rs) (give (machine.Left Past) rs)) old p rs1 vs new (λ st keeps. ap (λ z. choose z (enter E b s rs) (give (machine.Left Past) rs) st) (sym a)) (went trail (choose holds (enter E b s rs) (give (machine.Left Past) rs)) old p rs1 vs new g))

pub if_divides : (E : machine.Spot) (sense : Bool) (e : Exp) (b : Block) (s : ℕ) (rs : List machine.Rest) (st : State) (found : Option Truth) (rs1 : List machine.Rest) (vs : List ℕ) → IsTruth (sight st E) e found → found ≡ Some truths.Divides → Came [] (perform_step E (commands.If sense e b) s rs) st (progress.Ended endings.ZeroDivide) rs1 vs st
if_divides E sense e b s rs st found rs1 vs h is =
    let told = told_truth (sight st E) e found truths.Divides h is in
    tested_divides E e s (if_next E sense b s rs) (machine.Ifs E sense b s) rs st rs1 vs st told.0 told.1

pub if_fails : {trail : List Standing} → (E : machine.Spot) (sense : Bool) (e : Exp) (b : Block) (s : ℕ) (rs : List machine.Rest) (st : State) (found : Option Truth) (c : Cause) (rs1 : List machine.Rest) (vs : List ℕ) → IsTruth (sight st E) e found → found ≡ Some (truths.Fails c) → trail_in rs1 ≡ trail → Came trail (perform_step E (commands.If sense e b) s rs) st (progress.Wild c) rs1 vs st
if_fails E sense e b s rs st found c rs1 vs h is k =
    let told = told_truth (sight st E) e found (truths.Fails c) h is in
    tested_fails E e s c (if_next E sense b s rs) (machine.Ifs E sense b s) rs st rs1 vs st told.0 told.1 k

pub if_calls : (trail : List Standing) → (E : machine.Spot) (sense : Bool) (e : Exp) (b : Block) (s : ℕ) (rs : List machine.Rest) (st : State) (p : Progress) (rs1 : List machine.Rest) (vs : List ℕ) → has_call e ≡ true → Went (machine.go (machine.Decide E e s) (machine.Ifs E sense b s ∷ rs)) st p rs1 vs st → Came trail (perform_step E (commands.If sense e b) s rs) st p rs1 vs st
if_calls trail E sense e b s rs st p rs1 vs calls h = tested_calls _ E e s (if_next E sense b s rs) (machine.Ifs E sense b s) rs st p rs1 vs st calls (went trail (machine.go (machine.Decide E e s) (machine.Ifs E sense b s ∷ rs)) st p rs1 vs st h)

-- the outcome of a WHILE
abbrev pub loops : machine.Spot → Bool → Exp → Block → ℕ → List machine.Rest → machine.Step
loops E sense e b s rs = enter E b s (machine.WhileBody E sense e b s ∷ rs)

pub while_told : (trail : List Standing) → (E : machine.Spot) (sense : Bool) (e : Exp) (b : Block) (s : ℕ) (rs : List machine.Rest) (old : State) (found : Option Truth) (t holds : Bool) (p : Progress) (rs1 : List machine.Rest) (vs : List ℕ) (new : State) → IsTruth (sight old E) e found → found ≡ Some (truths.Is t) → holds ≡ agrees sense t
    → Went (choose holds (loops E sense e b s rs) (give (machine.Left Past) rs)) old p rs1 vs new → Came trail (perform_step E (commands.While sense e b) s rs) old p rs1 vs new
while_told trail E sense e b s rs old found t holds p rs1 vs new h is a g =
    let told = told_truth (sight old E) e found (truths.Is t) h is in
    tested_on _ E e s (while_next E sense e b s rs) (machine.Whiles E sense e b s) rs old t p rs1 vs new told.0 told.1
    (same_came _ (while_next E sense e b s rs t) (choose holds (loops E sense e b s rs) (give (machine.Left Past) rs)) old p rs1 vs new (λ st keeps. ap (λ z. choose z (loops E sense e b s rs) (give (machine.Left Past) rs) st) (sym a)) (went trail (choose holds (loops E sense e b s rs) (give (machine.Left Past) rs)) old p rs1 vs new g))

pub while_divides : (E : machine.Spot) (sense : Bool) (e : Exp) (b : Block) (s : ℕ) (rs : List machine.Rest) (st : State) (found : Option Truth) (rs1 : List machine.Rest) (vs : List ℕ) → IsTruth (sight st E) e found → found ≡ Some truths.Divides → Came [] (perform_step E (commands.While sense e b) s rs) st (progress.Ended endings.ZeroDivide) rs1 vs st
while_divides E sense e b s rs st found rs1 vs h is =
    let told = told_truth (sight st E) e found truths.Divides h is in
    tested_divides E e s (while_next E sense e b s rs) (machine.Whiles E sense e b s) rs st rs1 vs st told.0 told.1

pub while_fails : {trail : List Standing} → (E : machine.Spot) (sense : Bool) (e : Exp) (b : Block) (s : ℕ) (rs : List machine.Rest) (st : State) (found : Option Truth) (c : Cause) (rs1 : List machine.Rest) (vs : List ℕ) → IsTruth (sight st E) e found → found ≡ Some (truths.Fails c) → trail_in rs1 ≡ trail → Came trail (perform_step E (commands.While sense e b) s rs) st (progress.Wild c) rs1 vs st
while_fails E sense e b s rs st found c rs1 vs h is k =
    let told = told_truth (sight st E) e found (truths.Fails c) h is in
    tested_fails E e s c (while_next E sense e b s rs) (machine.Whiles E sense e b s) rs st rs1 vs st told.0 told.1 k

pub while_calls : (trail : List Standing) → (E : machine.Spot) (sense : Bool) (e : Exp) (b : Block) (s : ℕ) (rs : List machine.Rest) (st : State) (p : Progress) (rs1 : List machine.Rest) (vs : List ℕ) → has_call e ≡ true → Went (machine.go (machine.Decide E e s) (machine.Whiles E sense e b s ∷ rs)) st p rs1 vs st → Came trail (perform_step E (commands.While sense e b) s rs) st p rs1 vs st
while_calls trail E sense e b s rs st p rs1 vs calls h = tested_calls _ E e s (while_next E sense e b s rs) (machine.Whiles E sense e b s) rs st p rs1 vs st calls (went trail (machine.go (machine.Decide E e s) (machine.Whiles E sense e b s ∷ rs)) st p rs1 vs st h)
