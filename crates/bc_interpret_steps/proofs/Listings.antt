-- A step along a list.
use Rattle.std.proofs.Common.{◌≡◌, ℕ, Option, Some, None, List, [], ◌∷◌, refl, sym, ap, subst, ◌∙◌, ◌≤◌, length, arith}
use Rattle.std.specs.Borrow.{Bor}
use Rattle.bc_core.specs.declared.command.Command.{Command}
use Rattle.bc_core.specs.declared.command.ListItem.{ListItem}
use Rattle.bc_core.specs.declared.command.ListItem.TheVariants as list_items
use Rattle.bc_core.specs.View.{command as command_view, items}
use Rattle.bc_core.specs.Commands as commands
use Rattle.bc_machine_defs.specs.Streams.{Content}
use Rattle.bc_core.specs.Exit.{Past}
use Rattle.bc_core.specs.Lists.{Entry, Beginning}
use Rattle.bc_core.specs.Outcome as outcomes
use Rattle.bc_interpret_defs.specs.Machine as machine
use Rattle.bc_interpret_defs.specs.Machine.{next_command, begin_next, first_command, list_step}
use Rattle.bc_interpret_defs.specs.Trails.{Standing, position_in, before, roots_after, trail_from, trail_in, trail_of}
use Rattle.bc_interpret_pure.specs.declared.context.Cause.{Cause}
use Rattle.bc_interpret_steps.specs.declared.state.State.{State}
use Rattle.bc_interpret_steps.specs.declared.assign.Assigned.{Assigned}
use Rattle.bc_interpret_steps.specs.declared.assign.Assigned.TheVariants as forms
use Rattle.bc_interpret_steps.specs.declared.forms.Ending.TheVariants as endings
use Rattle.bc_interpret_steps.specs.declared.forms.Site.{Site}
use Rattle.bc_interpret_steps.specs.declared.forms.Work.TheVariants as works
use Rattle.bc_interpret_steps.specs.declared.forms.Progress.{Progress}
use Rattle.bc_interpret_steps.specs.declared.forms.Progress.TheVariants as progress
use Rattle.bc_interpret_steps.specs.Code.{spot_of}
use Rattle.bc_interpret_steps.specs.Came.{state_of, Came, Went}
use Rattle.bc_interpret_steps.specs.Assigns.{IsDone}

-- the outcome of the first command
told_done : (E : machine.Spot) (c : commands.Command) (old : State) (found : Option Assigned) (came : Assigned) (new : State) → IsDone E c old found new → found ≡ Some came → IsDone E c old (Some came) new
told_done E c old found came new h is = let P : Option Assigned → Type 0 = λ o. IsDone E c old o new in subst P is h

-- what comes after a command
pub goes_on : (E : machine.Spot) (left : List ListItem) (s : ℕ) (rs : List machine.Rest) (st : outcomes.State) → 1 ≤ length left → machine.go_on E (items left) s rs st ≡ machine.go (machine.Listing E (items left) s Beginning) rs st
goes_on E [] s rs st l = absurd (omega (arith, l))
goes_on E (list_items.Command c ∷ following) s rs st l = refl
goes_on E (list_items.Case k ∷ following) s rs st l = refl
goes_on E (list_items.Default ∷ following) s rs st l = refl
goes_on E (list_items.Label k ∷ following) s rs st l = refl

pub leaves : (E : machine.Spot) (left : List ListItem) (s : ℕ) (rs : List machine.Rest) (st : outcomes.State) → left ≡ [] → machine.go_on E (items left) s rs st ≡ machine.give (machine.Left Past) rs st
leaves E left s rs st e = ap (λ xs. machine.go_on E (items xs) s rs st) e

pub begin_done : (E : machine.Spot) (c : commands.Command) (is : commands.Items) (s : ℕ) (rs : List machine.Rest) (old : State) (found : Option Assigned) (trail : List Standing) (p : Progress) (vs : List ℕ) (new : State) → IsDone E c old found new → found ≡ Some forms.Done
    → Went (machine.go_on E is s rs) new p rs vs new → Came trail (first_command E c is s rs) old p rs vs new
begin_done E c is s rs old found trail p vs new h e g = by_progress p g where
  d : (streams : Content) → first_command E c is s rs (state_of old streams) ≡ machine.go_on E is s rs (state_of new streams)
  d = (told_done E c old found forms.Done new h e).0 is s rs

  by_progress : (p : Progress) → Went (machine.go_on E is s rs) new p rs vs new → Came trail (first_command E c is s rs) old p rs vs new
  by_progress (progress.On w) g = λ streams. d streams ∙ g streams
  by_progress (progress.Serve q call) g = absurd g
  by_progress progress.Answered g = absurd g
  by_progress (progress.Ended x) g = λ streams. d streams ∙ g streams
  by_progress progress.Going g = λ streams. d streams ∙ g streams
  by_progress (progress.Wild cause) g = absurd g

pub begin_divided : (E : machine.Spot) (c : commands.Command) (is : commands.Items) (s : ℕ) (rs : List machine.Rest) (old : State) (found : Option Assigned) (trail : List Standing) (rs1 : List machine.Rest) (vs : List ℕ) (new : State) → IsDone E c old found new → found ≡ Some forms.Divides
    → Came trail (first_command E c is s rs) old (progress.Ended endings.ZeroDivide) rs1 vs new
begin_divided E c is s rs old found trail rs1 vs new h e = (told_done E c old found forms.Divides new h e).0 is s rs

pub begin_failed : (E : machine.Spot) (c : commands.Command) (is : commands.Items) (s : ℕ) (rs : List machine.Rest) (old : State) (found : Option Assigned) (cause : Cause) (vs : List ℕ) (new : State) → IsDone E c old found new → found ≡ Some (forms.Fails cause)
    → Came (trail_in (machine.Follows E is s ∷ rs)) (first_command E c is s rs) old (progress.Wild cause) (machine.Follows E is s ∷ rs) vs new
begin_failed E c is s rs old found cause vs new h e =
    let d = told_done E c old found (forms.Fails cause) new h e in
    (d.0 is s rs, d.1 is s rs, refl)

pub begin_performed : (site : Site) (c : Bor Command) (is : commands.Items) (rs : List machine.Rest) (old : State) (found : Option Assigned) (vs : List ℕ) (new : State) → IsDone (spot_of site) (command_view c.now) old found new → found ≡ None
    → Came (trail_in (machine.Follows (spot_of site) is site.level ∷ rs)) (first_command (spot_of site) (command_view c.now) is site.level rs) old (progress.On (works.Perform site c)) (machine.Follows (spot_of site) is site.level ∷ rs) vs new
begin_performed site c is rs old found vs new h e =
    let P : Option Assigned → Type 0 = λ o. IsDone (spot_of site) (command_view c.now) old o new in
    let d = subst P e h in
    let next = machine.go (machine.Perform (spot_of site) (command_view c.now) site.level) (machine.Follows (spot_of site) is site.level ∷ rs) in
    λ streams. ap (λ r. r (state_of old streams)) (d.0 is site.level rs) ∙ ap (λ (st : State). next (state_of st streams)) (sym d.1)

-- goes on with the list by the command that is found
pub found_next : (E : machine.Spot) (is : commands.Items) (at : Entry) (s : ℕ) (c : commands.Command) (left : commands.Items) (rs : List machine.Rest) (old : State) (p : Progress) (rs1 : List machine.Rest) (vs : List ℕ) (new : State) → next_command is at ≡ Some (c, left)
    → Came (trail_in (machine.Follows E left s ∷ rs)) (first_command E c left s rs) old p rs1 vs new → Came (trail_of (machine.Listing E is s at) rs) (list_step E is s at rs) old p rs1 vs new
found_next E is at s c left rs old p rs1 vs new e h =
    subst (λ x. Came (trail_from (before (roots_after x) (position_in rs)) rs) (begin_next E x s rs) old p rs1 vs new) (sym e) h

pub none_next : (E : machine.Spot) (is : commands.Items) (at : Entry) (s : ℕ) (rs : List machine.Rest) (st : outcomes.State) → next_command is at ≡ None
    → list_step E is s at rs st ≡ machine.give (machine.Left Past) rs st
none_next E is at s rs st e = ap (λ x. begin_next E x s rs st) e
