-- A command that is a call takes the same step as its call, after which its number is dropped.
use Rattle.std.proofs.Common.{◌≡◌, ℕ, List, [], ◌∷◌, refl, sym, subst}
use Rattle.bc_core.specs.Commands as commands
use Rattle.bc_core.specs.Map.{Placed}
use Rattle.bc_core.specs.Outcome as outcomes
use Rattle.bc_core.specs.Store.{Cell}
use Rattle.bc_core.specs.Tree.{Exp}
use Rattle.bc_interpret_defs.specs.Causes.{Cause}
use Rattle.bc_interpret_defs.specs.Machine as machine
use Rattle.bc_interpret_defs.specs.Machine.{step}
use Rattle.bc_interpret_defs.specs.Meeting.{Meets, ByCell, ByArgument, ByCall, ByForm}
use Rattle.bc_interpret_defs.specs.Trails.{Standing, IsTrail, Within, Calling}
use Rattle.bc_interpret_steps.specs.declared.state.State.{State}
use Rattle.bc_interpret_steps.specs.declared.forms.Progress.{Progress}
use Rattle.bc_interpret_steps.specs.declared.forms.Progress.TheVariants as progress
use Rattle.bc_interpret_steps.specs.Came.{state_of}
use Rattle.bc_interpret_steps.specs.Stepped.{Stepped}
use Rattle.bc_interpret_steps.specs.Passing.{Passes, Ran, evaluating}

abbrev pub performing : machine.Spot → Exp → ℕ → List machine.Rest → machine.At
performing E e s rs = record { work = machine.Perform E (commands.Call e) s; rests = rs }

meets_performing : (program : List Placed) (E : machine.Spot) (e : Exp) (s : ℕ) (rs : List machine.Rest) (cells : List Cell) (cause : Cause)
    → Meets program (machine.Evaluate E e s) (machine.Drops ∷ rs) cells cause → Meets program (machine.Perform E (commands.Call e) s) rs cells cause
meets_performing program E e s rs cells cause (ByCell n h) = ByCell (λ v vs f c. let w = c.work in cc) h
meets_performing program E e s rs cells cause (ByArgument v xs f q call k fits h) = let w = call.work in absurd cc
meets_performing program E e s rs cells cause (ByCall v xs f call h) = let w = call.work in absurd cc
meets_performing program E e s rs cells cause (ByForm n k h) = ByForm (λ v vs f c. let w = c.work in cc) k h

open_performing : (E : machine.Spot) (e : Exp) (s : ℕ) (rs : List machine.Rest) (calls : List Standing)
    → IsTrail (machine.Evaluate E e s) (machine.Drops ∷ rs) calls → IsTrail (machine.Perform E (commands.Call e) s) rs calls
open_performing E e s rs calls (Within n h) = Within (λ v vs f c. let w = c.work in cc) h
open_performing E e s rs calls (Calling v xs f call h) = let w = call.work in absurd cc

stepped_performing : (program : List Placed) (E : machine.Spot) (e : Exp) (s : ℕ) (rs : List machine.Rest) (old : State) (p : Progress) (rs1 : List machine.Rest) (vs : List ℕ) (new : State)
    → Stepped program (machine.Evaluate E e s) (machine.Drops ∷ rs) old p rs1 vs new → Stepped program (machine.Perform E (commands.Call e) s) rs old p rs1 vs new
stepped_performing program E e s rs old (progress.On x) rs1 vs new h = (tt, h.1)
stepped_performing program E e s rs old (progress.Serve q f) rs1 vs new h = let w = h.1.calls.work in absurd cc
stepped_performing program E e s rs old progress.Answered rs1 vs new h = let w = h.0.1 in absurd cc
stepped_performing program E e s rs old (progress.Ended x) rs1 vs new h = (tt, h.1)
stepped_performing program E e s rs old progress.Going rs1 vs new h = (tt, h.1)
stepped_performing program E e s rs old (progress.Wild c) rs1 vs new h = (tt, h.1, meets_performing program E e s rs _ _ h.2, open_performing E e s rs _ h.3)

passes_performing : (program : List Placed) (old : State) (E : machine.Spot) (e : Exp) (s : ℕ) (rs : List machine.Rest) (to m : machine.At) (along : List machine.At)
    → Passes program old (evaluating E e s (machine.Drops ∷ rs)) (m ∷ along) to → (ms : List machine.At) × Passes program old (performing E e s rs) ms to
passes_performing program old E e s rs to m [] h =
    (performing E e s rs ∷ [], (refl, tt, λ streams. subst (λ x. step program x.work x.rests (state_of old streams) ≡ outcomes.Done to (state_of old streams)) (sym h.0) (h.2 streams)))
passes_performing program old E e s rs to m (m2 ∷ along) h =
    let k = passes_performing program old E e s rs m m2 along h.0 in (m ∷ k.0, (k.1, h.1, h.2))

performed_along : (program : List Placed) (old : State) (E : machine.Spot) (e : Exp) (s : ℕ) (rs : List machine.Rest) (p : Progress) (rs1 : List machine.Rest) (vs : List ℕ) (new : State)
    (middle : machine.At) (along : List machine.At) → Passes program old (evaluating E e s (machine.Drops ∷ rs)) along middle → Stepped program middle.work middle.rests old p rs1 vs new
    → Ran program (performing E e s rs) old p rs1 vs new
performed_along program old E e s rs p rs1 vs new middle [] h k = record {
  middle = performing E e s rs;
  along = [];
  passes = refl;
  comes = stepped_performing program E e s rs old p rs1 vs new (subst (λ x. Stepped program x.work x.rests old p rs1 vs new) (sym h) k);
}
performed_along program old E e s rs p rs1 vs new middle (m ∷ along) h k =
    let there = passes_performing program old E e s rs middle m along h in record {
      middle = middle;
      along = there.0;
      passes = there.1;
      comes = k;
    }

pub performed : (program : List Placed) (old : State) (E : machine.Spot) (e : Exp) (s : ℕ) (rs middle : List machine.Rest) (p : Progress) (rs1 : List machine.Rest) (vs : List ℕ) (new : State)
    → middle ≡ machine.Drops ∷ rs → Ran program (evaluating E e s middle) old p rs1 vs new → Ran program (performing E e s rs) old p rs1 vs new
performed program old E e s rs middle p rs1 vs new k h =
    let there = subst (λ x. Ran program (evaluating E e s x) old p rs1 vs new) k h in
    performed_along program old E e s rs p rs1 vs new there.middle there.along there.passes there.comes
