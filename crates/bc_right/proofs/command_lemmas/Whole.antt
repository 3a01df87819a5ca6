-- A whole run of the machine, from the boot code on.
use Rattle.bc_right.proofs.command_lemmas.Library.{primitives_land}
use Rattle.bc_right.proofs.command_lemmas.Section.{sections_stand}
use Rattle.std.proofs.Common.{◌≡◌, ℕ, suc, ◌+◌, ◌≤◌, List, [], ◌∷◌, true, false, refl, ap, ◌∙◌, arith, subst}
use Rattle.std.specs.Prelude.{slice_index}
use Rattle.bc_text_items.specs.declared.item.Base.TheVariants as bases
use Rattle.bc_text_items.specs.declared.item.Function.TheVariants as functions
use Rattle.bc_machine_defs.specs.declared.state.End.TheVariants as machine_ends
use Rattle.bc_machine_defs.specs.Streams.{Content}
use Rattle.bc_machine_defs.specs.StreamCalls.{output_of}
use Rattle.bc_machine_defs.specs.State.{State, start}
use Rattle.bc_machine_defs.specs.Effect.{running}
use Rattle.bc_core.specs.Store.{Cell, Dead, Unset, Set, cell_at}
use Rattle.bc_core.specs.Outcome as outcomes
use Rattle.bc_core.specs.Outcome.{Outcome, Done, Ended, Going, Wild, followed, content_of_cell}
use Rattle.bc_core.specs.Map.{Placed, placed}
use Rattle.bc_right.specs.steps.Leads.{AreWords}
use Rattle.bc_core.specs.Meaning.{result_of, calls, entered_at, meaning_over}
use Rattle.bc_core.specs.Same.{Same}
use Rattle.bc_right.specs.steps.Leads.{machine}
use Rattle.bc_right.specs.steps.Agreement.{Holds, Keeps}
use Rattle.bc_right.proofs.step_lemmas.Steps.{step_stops, stops_from}
use Rattle.bc_gen_defs.specs.Emit.{execute}
use Rattle.bc_right.specs.steps.Landing.{Moment, moment, Stands, Reached, Lands}
use Rattle.bc_right.specs.steps.Goals.{value_goal}
use Rattle.bc_right.specs.steps.Items.{call_item}
use Rattle.bc_right.specs.commands.Calls.{ProgramStands, LibraryLands}
use Rattle.bc_right.specs.commands.Whole.{boot_items, RunsAreSame, MeaningIsRun}
use Rattle.bc_right.proofs.step_lemmas.Steps.{later_refl, after_item, first_item, acts, went, plain, at_place}
use Rattle.bc_right.proofs.command_lemmas.Calls.{calls_work}

module _ (S : Moment) (program : List Placed) (address : ℕ → ℕ) (stack_base end : ℕ) (boot : Stands address S 0 boot_items end) (stands : ProgramStands S program) (library : LibraryLands S program)
    (low : S.top ≤ stack_base + 2) (room : stack_base + 4 ≤ 65536) (holds : Holds (stack_base + 2) S.cells S.store) (streams : Content) (n : ℕ) (all_words : AreWords (start S.store stack_base streams)) where
  x : State
  x = start S.store stack_base streams

  st : outcomes.State
  st = record { cells = S.cells; streams = streams; turns = n }

  top : ℕ
  top = stack_base + 2

  O : Moment
  O = moment top S.cells S.store

  keeps : Keeps S.top S.cells S.store S.cells S.store
  keeps = record { dead = λ a lt d. d; same = λ a lt d. refl; unset = λ a lt u. (u, refl) }

  first : Reached S (suc n) O x n top stack_base 0 0 0 0 S.store st
  unfolding x st top O
  first = record {
    few = omega arith;
    are_words = all_words;
    leads = record { by = λ k. (k, omega arith, refl) };
    holds = holds;
    since = record { low = low; keeps = keeps };
    later = later_refl O;
  }

  finished : (o : Outcome ℕ) → Lands S (suc n) O x n top stack_base n (value_goal 2) o → Same (result_of o) n x
  finished (Done v st1) l =
      let y = machine l.0 l.1 2 stack_base l.4 st1.streams in
      let here = at_place l.7.1 l.5 in
      let h = here.leads.by 1 in
      let s = stops_from x y h.0 1 machine_ends.Finished st1.streams h.2 (step_stops y y machine_ends.Finished (acts (later_refl S) functions.Execute false bases.Number 22 [] (after_item (after_item boot)) here)) in
      (h.0, (s.end_is, ap output_of s.streams_are))
  finished (Ended e streams1) l = (l.0, (l.1.end_is, ap output_of l.1.streams_are))
  finished (Going streams1) l = (l.0, l.1, (l.2.end_is, ap output_of l.2.streams_are))
  finished Wild l = tt

  called : (w : ℕ) → slice_index S.store 9 ≡ w → Same (result_of (calls program (suc n) w [] top st)) n x
  unfolding x st top O
  called w e =
      let loaded = acts (later_refl S) functions.Load true bases.G 1 (call_item 2 ∷ execute 22 ∷ []) boot first ∙ ap (λ z. running (machine z 0 1 stack_base S.store streams)) e in
      let after = plain (went first loaded) in
      let same : n ≤ n = omega arith in
      finished (calls program (suc n) w [] top st)
      ((calls_work S program stands library (suc n) w).from S (later_refl S) address O x n stack_base 2 0 1 2 n [] S.store st (first_item (after_item boot)) tt (omega (arith, room)) same after)

  by_cell : (cell : Cell) → cell_at S.cells 9 ≡ cell → Same (result_of (followed (content_of_cell cell st) (λ begin. calls program (suc n) begin [] top))) n x
  unfolding x st top O
  by_cell Dead e = tt
  by_cell Unset e = tt
  by_cell (Set w) e = called w (holds.agrees 9 w e)

  pub run_is_same : Same (meaning_over S.cells (entered_at program) stack_base streams n) n (start S.store stack_base streams)
  unfolding x st top O
  run_is_same = by_cell (cell_at S.cells 9) refl

pub runs_are_same : RunsAreSame
runs_are_same S program address stack_base end boot stands library low room holds streams n w = run_is_same S program address stack_base end boot stands library low room holds streams n w

pub meaning_is_run : MeaningIsRun
meaning_is_run S cores map address end boot all library cells low room holds streams n w =
    let program = placed cores map.places in
    subst (λ z. Same (meaning_over z (entered_at program) map.stack_base streams n) n (start S.store map.stack_base streams)) cells
    (runs_are_same S program address map.stack_base end boot (sections_stand S program all) (primitives_land S program library) low room holds streams n w)
