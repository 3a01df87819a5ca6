-- A run that ended has the ending that the sections mean.
use Rattle.std.proofs.Common.{◌≡◌, ◌∙◌, ◌≢◌, inl, inr, ℕ, zero, suc, ◌+◌, ◌≤◌, List, Option, Some, None, refl, sym, ap, subst, arith}
use Rattle.bc_machine_defs.specs.Streams.{Content, HoldBytes}
use Rattle.bc_machine_defs.specs.StreamCalls.{output_of}
use Rattle.bc_machine_defs.specs.State.{State}
use Rattle.bc_machine_defs.specs.Step.{step}
use Rattle.bc_machine_defs.specs.Run.{runs, ended}
use Rattle.bc_machine_defs.specs.declared.state.End.{End}
use Rattle.bc_machine_defs.specs.declared.state.End.TheVariants.{BudgetSpent}
use Rattle.bc_machine_defs.specs.declared.state.End.TheVariants as ends
use Rattle.bc_machine_defs.specs.declared.image.Image.{Image}
use Rattle.bc_parse_tree.specs.Tree.{Declarations}
use Rattle.bc_core.specs.Outcome.{Ending, Finished, ZeroDivide}
use Rattle.bc_core.specs.Meaning.{Result, Ended, Going, Wild}
use Rattle.bc_core.specs.Same.{Same, end_of}
use Rattle.bc_build.specs.Runs.{meant, started, RunsAsMeant}
use Rattle.bc_build.specs.Text.{IsRunFrom}
use Rattle.bc_build.specs.Ended.{IsEnding, EndsAsMeant}

-- a run that ended is the same with more instructions allowed
abbrev after : ℕ → State → Option End → State × End
after n s o = elim o [ None ↦ runs n s | Some end ↦ ended s end ]

by_effect : (n m : ℕ) → ((y : State) → (runs n y).1 ≢ BudgetSpent → runs m y ≡ runs n y) → (y : State) (o : Option End) → (after n y o).1 ≢ BudgetSpent → after m y o ≡ after n y o
by_effect n m next y None goes = next y goes
by_effect n m next y (Some stop) goes = refl

in_more : (n m : ℕ) (s : State) → n ≤ m → (runs n s).1 ≢ BudgetSpent → runs m s ≡ runs n s
unfolding runs
in_more zero m s le goes = absurd (goes refl)
in_more (suc n) zero s le goes = absurd (omega (arith, le))
in_more (suc n) (suc m) s le goes = by_effect n m (λ y h. in_more n m y (omega (arith, le)) h) (step s).0 (step s).1 goes

never_spent : (ending : Ending) → end_of ending ≢ BudgetSpent
never_spent Finished e = cc
never_spent ZeroDivide e = cc

-- what is known of a run that ended, from the meaning in one more turn
abbrev Agrees : Result → State → End → Type 0
Agrees (Ended output ending) t end = (end ≡ end_of ending) × (output_of t.streams ≡ output)
Agrees (Going output) t end = ⊥
Agrees Wild t end = Unit {0}

agrees : (r : Result) (n : ℕ) (s t : State) (end : End) → end ≢ BudgetSpent → ended t end ≡ runs n s → Same r (suc n) s → Agrees r t end
agrees (Ended output ending) n s t end stops h same =
    let m = same.0 in
    let here : (runs n s).1 ≢ BudgetSpent = λ e. stops (ap (λ (z : State × End). z.1) h ∙ e) in
    let there : (runs m s).1 ≢ BudgetSpent = λ e. never_spent ending (sym same.1.0 ∙ e) in
    let one : ended t end ≡ runs m s = h ∙ sym (in_more n (n + m) s (omega arith) here) ∙ in_more m (n + m) s (omega arith) there in
    (ap (λ (z : State × End). z.1) one ∙ same.1.0, ap (λ (z : State × End). output_of z.0.streams) one ∙ same.1.1)
agrees (Going output) n s t end stops h same =
    let here : (runs n s).1 ≢ BudgetSpent = λ e. stops (ap (λ (z : State × End). z.1) h ∙ e) in
    here (ap (λ (z : State × End). z.1) (sym (in_more n same.0 s (omega (arith, same.1)) here)) ∙ same.2.0)
agrees Wild n s t end stops h same = tt

finished : (r : Result) (t : State) → Agrees r t ends.Finished → IsEnding r (output_of t.streams) Finished
finished (Ended output Finished) t a = inl (ap (λ o. Ended o Finished) (sym a.1))
finished (Ended output ZeroDivide) t a = absurd (let e : ends.Finished ≡ ends.ZeroDivide = a.0 in cc)
finished (Going output) t a = absurd a
finished Wild t a = inr refl

divided : (r : Result) (t : State) → Agrees r t ends.ZeroDivide → IsEnding r (output_of t.streams) ZeroDivide
divided (Ended output ZeroDivide) t a = inl (ap (λ o. Ended o ZeroDivide) (sym a.1))
divided (Ended output Finished) t a = absurd (let e : ends.ZeroDivide ≡ ends.Finished = a.0 in cc)
divided (Going output) t a = absurd a
divided Wild t a = inr refl

no_instruction : (r : Result) (t : State) (code : ℕ) → Agrees r t (ends.BadInstruction code) → r ≡ Wild
no_instruction (Ended output Finished) t code a = absurd (let e : ends.BadInstruction code ≡ ends.Finished = a.0 in cc)
no_instruction (Ended output ZeroDivide) t code a = absurd (let e : ends.BadInstruction code ≡ ends.ZeroDivide = a.0 in cc)
no_instruction (Going output) t code a = absurd a
no_instruction Wild t code a = refl

module _ (sections : List Declarations) (image : Image) (runs_so : RunsAsMeant sections image) (streams : Content) (bytes : HoldBytes streams.inputs) (n : ℕ) (t : State) where
  abbrev meaning_is : Result
  meaning_is = meant sections image streams (suc n)

  known : (end : End) → end ≢ BudgetSpent → ended t end ≡ runs n (started image streams) → Agrees meaning_is t end
  known end stops h = agrees meaning_is n (started image streams) t end stops h (runs_so.same streams bytes (suc n))

  ends_as_meant : (end : End) → (end ≢ ends.Device → ended t end ≡ runs n (started image streams)) → EndsAsMeant sections image streams n t.streams end
  ends_as_meant ends.Finished h = finished meaning_is t (known ends.Finished (λ e. cc) (h (λ e. cc)))
  ends_as_meant ends.ZeroDivide h = divided meaning_is t (known ends.ZeroDivide (λ e. cc) (h (λ e. cc)))
  ends_as_meant (ends.BadInstruction code) h = no_instruction meaning_is t code (known (ends.BadInstruction code) (λ e. cc) (h (λ e. cc)))
  ends_as_meant BudgetSpent h = tt
  ends_as_meant ends.Device h = tt

-- with streams whose content is known
pub run_ends_as_meant : (sections : List Declarations) (image : Image) (steps : ℕ) (told tells : Type 0) (old new : Content) (before failed : ℕ) (end : End)
    → RunsAsMeant sections image → told → HoldBytes old.inputs → IsRunFrom image steps told tells old new before failed end → EndsAsMeant sections image old steps new end
run_ends_as_meant sections image steps told tells old new before failed end runs_so known bytes run =
    subst (λ c. EndsAsMeant sections image old steps c end) run.1
    (ends_as_meant sections image runs_so old bytes steps run.0 end (λ stops. run.2.exact known stops))
