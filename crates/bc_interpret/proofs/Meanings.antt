-- What the start of a run means, and what its outcome therefore is.
use Rattle.std.proofs.Common.{◌≡◌, ℕ, suc, ◌+◌, List, [], ◌∷◌, sym, ap, subst, ◌∙◌}
use Rattle.bc_machine_defs.specs.Streams.{Content}
use Rattle.bc_core.specs.Commands.{Core}
use Rattle.bc_core.specs.Map.{Map, Placed, placed, standing}
use Rattle.bc_core.specs.Meaning.{Result, calls, result_of, run_of, entered_at, meaning_over, meaning}
use Rattle.bc_core.specs.Start.{start_cells}
use Rattle.bc_interpret_defs.specs.Machine as machine
use Rattle.bc_interpret_defs.specs.Trails.{Standing}
use Rattle.bc_interpret_defs.specs.Resume.{meant}
use Rattle.bc_interpret_defs.specs.Running.{start_at, start_state}
use Rattle.bc_interpret_defs.proofs.Running.{start_means}
use Rattle.bc_interpret_steps.specs.declared.forms.Work.TheVariants as works
use Rattle.bc_interpret_steps.specs.declared.continuations.Rest.{Rest}
use Rattle.bc_interpret_steps.specs.declared.state.State.{State}
use Rattle.bc_interpret_steps.specs.Code.{stack}
use Rattle.bc_interpret_steps.specs.Came.{state_of}
use Rattle.bc_interpret_trace.specs.Shown.{Shows}
use Rattle.bc_interpret.specs.declared.run.Interpreted.{Interpreted}
use Rattle.bc_interpret.specs.declared.run.Outcome.{Outcome}
use Rattle.bc_interpret.specs.declared.run.Outcome.TheVariants as outs
use Rattle.bc_interpret.specs.Results.{IsResult, Names, NamesBy}
use Rattle.bc_interpret.specs.Interpreted.{NamesFrom}
use Rattle.bc_interpret.specs.Moving.{at_of, left_of}

pub result_from : (r r1 : Result) (o : Outcome) (streams : Content) → r ≡ r1 → IsResult r1 o streams → IsResult r o streams
result_from r r1 (outs.Ended e) streams h k = h ∙ k
result_from r r1 outs.Going streams h k = h ∙ k
result_from r r1 (outs.Wild c) streams h k = h ∙ k
result_from r r1 outs.Device streams h k = tt

run_is : (program : List Placed) (base : ℕ) (rests : List Rest) (st : State) (before : Content) → stack rests ≡ machine.Loads ∷ machine.Calls [] (base + 2) ∷ [] → left_of program (suc st.turns) (works.Number 9) rests st before ≡ result_of (run_of (entered_at program) base (state_of st before))
run_is program base rests st before e =
    ap (λ r. result_of (meant (calls program (suc st.turns)) (record { work = machine.Give (machine.Number 9); rests = r }) (state_of st before))) e
    ∙ start_means program base (state_of st before)

pub run_means : (program : List Placed) (base turns : ℕ) (rests : List Rest) (st : State) (before after : Content) (o : Outcome) → st.store ≡ start_cells (standing program) → st.turns ≡ turns
    → stack rests ≡ machine.Loads ∷ machine.Calls [] (base + 2) ∷ [] → IsResult (left_of program (suc st.turns) (works.Number 9) rests st before) o after
    → IsResult (meaning_over (start_cells (standing program)) (entered_at program) base before turns) o after
run_means program base turns rests st before after o e t r h =
    result_from _ _ o after (sym (run_is program base rests st before r ∙ (λ i. result_of (run_of (entered_at program) base (record { cells = e i; streams = before; turns = t i }))))) h

pub meaning_is : (program : List Placed) (cores : List Core) (map : Map) (base turns : ℕ) (before after : Content) (o : Outcome) → program ≡ placed cores map.places → base ≡ map.stack_base
    → IsResult (meaning_over (start_cells (standing program)) (entered_at program) base before turns) o after → IsResult (meaning cores map before turns) o after
meaning_is program cores map base turns before after o e b h =
    let program1 = placed cores map.places in
    subst (λ n. IsResult (meaning_over (start_cells (standing program1)) (entered_at program1) n before turns) o after) b
    (subst (λ p. IsResult (meaning_over (start_cells (standing p)) (entered_at p) base before turns) o after) e h)

-- the reported wild access, from the start
pub run_names : (program : List Placed) (base turns : ℕ) (rests : List Rest) (st : State) (before : Content) (i : Interpreted) (trail : List Standing) → st.store ≡ start_cells (standing program) → st.turns ≡ turns
    → stack rests ≡ machine.Loads ∷ machine.Calls [] (base + 2) ∷ [] → Names program (at_of (works.Number 9) rests) (state_of st before) i.outcome trail → Shows i.trail trail → NamesBy program (start_at base) (start_state program before turns) i
run_names program base turns rests st before i trail e t r h shown =
    let started : state_of st before ≡ start_state program before turns = λ j. record { cells = e j; streams = before; turns = t j } in (
      trail,
      subst (λ rs. Names program (record { work = machine.Give (machine.Number 9); rests = rs }) (start_state program before turns) i.outcome trail) r
          (subst (λ s. Names program (at_of (works.Number 9) rests) s i.outcome trail) started h),
      shown,
    )

pub names_is : (program : List Placed) (cores : List Core) (map : Map) (base turns : ℕ) (before : Content) (i : Interpreted) → program ≡ placed cores map.places → base ≡ map.stack_base
    → NamesBy program (start_at base) (start_state program before turns) i → NamesFrom cores map before turns i
names_is program cores map base turns before i e b h =
    let program1 = placed cores map.places in
    subst (λ n. NamesBy program1 (start_at n) (start_state program1 before turns) i) b
    (subst (λ p. NamesBy p (start_at base) (start_state p before turns) i) e h)
