-- SWITCHON: the machine's table, and the list that it enters.
use Rattle.std.proofs.Common.{◌≡◌, ℕ, ◌+◌, ◌<◌, ◌==◌, ◌||◌, Bool, true, false, List, ◌∷◌, ◌++◌, refl, sym, ap, ◌∙◌, subst, arith}
use Rattle.std.specs.Prelude.{cond, slice_index}
use Rattle.bc_text_items.specs.declared.item.Item.{Item}
use Rattle.bc_text_items.specs.declared.item.Item.TheVariants.{Data, DataLabel}
use Rattle.bc_text_items.specs.declared.item.Base.TheVariants as bases
use Rattle.bc_text_items.specs.declared.item.Function.TheVariants as functions
use Rattle.bc_machine_defs.specs.State.{State}
use Rattle.bc_machine_defs.specs.Effect.{running}
use Rattle.bc_machine_defs.specs.Operand.{next}
use Rattle.bc_machine_defs.specs.Switch.{case_of}
use Rattle.bc_core.specs.Commands.{Items, no_item, command, case, default, label}
use Rattle.bc_core.specs.Outcome as outcomes
use Rattle.bc_core.specs.Outcome.{Done, Run, followed, then_do, next_round, rounds}
use Rattle.bc_core.specs.Value.{Context}
use Rattle.bc_core.specs.Exit.{Exit, Past, Broke, Looped, LeftCases, Returned, Resulted, Jumped}
use Rattle.bc_core.specs.Command.{perform_items}
use Rattle.bc_core.specs.Lists.{Entry, AtCase, AtDefault, has_case, has_label, entry_of, after_list, listed, after_cases, switched}
use Rattle.bc_right.specs.steps.Leads.{machine}
use Rattle.bc_right.specs.steps.CodeAt.{HasItems, words}
use Rattle.bc_right.proofs.step_lemmas.Items.{words_append, has_front}
use Rattle.bc_gen_defs.specs.Emit.{Exits, execute, defaulted, cases_in, table_of}
use Rattle.bc_right.specs.steps.Landing.{Moment, Later, Stands, Reached, Lands, Does}
use Rattle.bc_right.specs.steps.Goals.{value_goal}
use Rattle.bc_right.specs.commands.Exits.{exit_goal}
use Rattle.bc_right.proofs.step_lemmas.Steps.{has_now, plain, at_place, jumped, went, acts, lands_done, Onward, then_raw}
use Rattle.bc_right.proofs.command_lemmas.Forms.{has_default, Entered, cased, starts_at, in_list, list_lands}

-- the table leads to the first CASE with the value, else to the default
table_finds : (is : Items) (first : ℕ) (address : ℕ → ℕ) (m : List ℕ) (c v d : ℕ) → HasItems address m c (table_of (λ i. i) is first) → c + words (table_of (λ i. i) is first) < 65536 → case_of (cases_in is) c v d m ≡ cond (has_case is v) (address (cased is first v)) d
unfolding case_of
table_finds no_item first address m c v d h fits = refl
table_finds (command k is) first address m c v d h fits = table_finds is first address m c v d h fits
table_finds (case k is) first address m c v d h fits =
    ap (λ z. elim (z == v) [ true ↦ slice_index m (next c) | false ↦ case_of (cases_in is) (next (next c)) v d m ]) h.0.0 ∙ by_test (table_finds is (first + 1) address m (c + 1 + 1) v d h.2.2 (omega (arith, fits))) (k == v) where
      one : next c ≡ c + 1
      one = omega (arith, fits)

      two : next (next c) ≡ c + 1 + 1
      two = omega (arith, fits)

      by_test : case_of (cases_in is) (c + 1 + 1) v d m ≡ cond (has_case is v) (address (cased is (first + 1) v)) d → (t : Bool) → (elim t as (λ z. ℕ) [ true ↦ slice_index m (next c) | false ↦ case_of (cases_in is) (next (next c)) v d m ]) ≡ cond (t || has_case is v) (address (cond t first (cased is (first + 1) v))) d
      by_test ih true = ap (λ z. slice_index m z) one ∙ h.2.0.0
      by_test ih false = ap (λ z. case_of (cases_in is) z v d m) two ∙ ih
table_finds (default is) first address m c v d h fits = table_finds is (first + 1) address m c v d h fits
table_finds (label l is) first address m c v d h fits = table_finds is first address m c v d h fits

defaulted_none : (is : Items) (f without : ℕ) → has_default is ≡ false → defaulted is f without ≡ without
defaulted_none no_item f without e = refl
defaulted_none (command c is) f without e = defaulted_none is f without e
defaulted_none (case k is) f without e = defaulted_none is (f + 1) without e
defaulted_none (default is) f without e = absurd (let h : true ≡ false = e in cc)
defaulted_none (label l is) f without e = defaulted_none is f without e

-- if there is a DEFAULT, its label depends only on the list
defaulted_some : (is : Items) (f without : ℕ) → has_default is ≡ true → defaulted is f without ≡ defaulted is f 0
defaulted_some no_item f without e = absurd (let h : false ≡ true = e in cc)
defaulted_some (command c is) f without e = defaulted_some is f without e
defaulted_some (case k is) f without e = defaulted_some is (f + 1) without e
defaulted_some (default is) f without e = refl
defaulted_some (label l is) f without e = defaulted_some is f without e

pub passes_over : (C : Context) (is : Items) (p s : ℕ) (st : outcomes.State) → has_default is ≡ false → perform_items C is p s AtDefault st ≡ Done Past st
passes_over C no_item p s st e = refl
passes_over C (command c is) p s st e = passes_over C is p s st e
passes_over C (case k is) p s st e = passes_over C is p s st e
passes_over C (default is) p s st e = absurd (let h : true ≡ false = e in cc)
passes_over C (label l is) p s st e = passes_over C is p s st e

module _ (address : ℕ → ℕ) (S K : Moment) (old : Later S K) (most : ℕ) where
  abbrev in_cases : Exits → ℕ → Exits
  in_cases E f = record E { cases = f }

  -- `X23` before its table
  switches : {O : Moment} {x : State} {t top p a b c g end : ℕ} {m : List ℕ} {st : outcomes.State} (is : Items) (first d : ℕ) (rest : List Item) → Stands address S c (execute 23 ∷ Data (cases_in is) ∷ DataLabel d ∷ (table_of (λ i. i) is first ++ rest)) end → Reached K most O x t top p a b c g m st
      → Reached K most O x t top p a b (cond (has_case is a) (address (cased is first a)) (address d)) (g + 1) m st
  switches {p = p} {a = a} {b = b} {c = c} {m = m} {st = st} is first d rest s r =
      let tail = Data (cases_in is) ∷ DataLabel d ∷ (table_of (λ i. i) is first ++ rest) in
      let h = has_now old s r in
      let e = words_append (table_of (λ i. i) is first) rest in
      let fits = s.code.fits in
      let one : next (c + 1) ≡ c + 1 + 1 = omega (arith, fits) in
      let two : next (next (c + 1)) ≡ c + 1 + 1 + 1 = omega (arith, fits) in
      let table = has_front address m (c + 1 + 1 + 1) (table_of (λ i. i) is first) rest h.2.2.2 in
      went r (acts old functions.Execute false bases.Number 23 tail s r
      ∙ ap (λ z. running (machine a b z p m st.streams))
      (ap (λ z. case_of z (next (next (c + 1))) a (slice_index m (next (c + 1))) m) h.2.0.0
      ∙ ap (λ z. case_of (cases_in is) z a (slice_index m (next (c + 1))) m) two
      ∙ ap (λ z. case_of (cases_in is) (c + 1 + 1 + 1) a (slice_index m z) m) one
      ∙ ap (λ z. case_of (cases_in is) (c + 1 + 1 + 1) a z m) h.2.2.0.0
      ∙ table_finds is first address m (c + 1 + 1 + 1) a (address d) table (omega (arith, fits, e))))

  -- after the list of a SWITCHON
  after_lands : {top p limit a c : ℕ} (E : Exits) (f last end : ℕ) (r : Run Exit) → last ≡ end → address f ≡ end → Does K most top p limit a c (exit_goal address S (in_cases E f) last limit) r → Does K most top p limit a c (exit_goal address S E end limit) (then_do r after_cases)
  after_lands {top = top} {p = p} {limit = limit} E f last end r e there d = then_raw (exit_goal address S (in_cases E f) last limit) (exit_goal address S E end limit) r after_cases d (λ O x t. on O x t) where
    on : (O : Moment) (x : State) (t : ℕ) → Onward K most O x t top p limit (exit_goal address S (in_cases E f) last limit) (exit_goal address S E end limit) after_cases
    on O x t Past a b c g m st r le h = lands_done limit (exit_goal address S E end limit) Past r le (h ∙ e)
    on O x t Broke a b c g m st r le h = lands_done limit (exit_goal address S E end limit) Broke r le h
    on O x t Looped a b c g m st r le h = lands_done limit (exit_goal address S E end limit) Looped r le h
    on O x t LeftCases a b c g m st r le h = lands_done limit (exit_goal address S E end limit) Past (jumped old h r) le there
    on O x t Returned a b c g m st r le h = lands_done limit (exit_goal address S E end limit) Returned r le h
    on O x t (Resulted v) a b c g m st r le h = lands_done limit (exit_goal address S E end limit) (Resulted v) r le h
    on O x t (Jumped l) a b c g m st r le h = lands_done limit (exit_goal address S E end limit) (Jumped l) r le h

  pub switch_lands : {top p limit a c : ℕ} (E : Exits) (is : Items) (f inner first mid begin last end end1 : ℕ) (rest : List Item) (value : Run ℕ) (items : Entry → Run Exit) → Does K most top p limit a c (value_goal mid) value
      → Stands address S mid (execute 23 ∷ Data (cases_in is) ∷ DataLabel (defaulted is first f) ∷ (table_of (λ i. i) is first ++ rest)) end1 → address f ≡ last → last ≡ end
      → (has_default is ≡ false → (st : outcomes.State) → items AtDefault st ≡ Done Past st)
      → ((at : Entry) → Entered at is → (limit a : ℕ) → Does K most top p limit a (starts_at address (in_list (in_cases E f) is inner) is first begin at) (exit_goal address S (in_list (in_cases E f) is inner) last limit) (items at))
      → Does K most top p limit a c (exit_goal address S E end limit) (switched value (has_case is) (has_label is) items)
  switch_lands {top = top} {p = p} {limit = limit} E is f inner first mid begin last end end1 rest value items hv table there over without hi =
      then_raw (value_goal mid) (exit_goal address S E end limit) value (λ v. then_do (listed (has_label is) items (entry_of (has_case is) v)) after_cases) hv
      (λ O x t v a b c g m st r le w. let at : c ≡ mid = w.1 in (entered v a b w.0 (has_case is v) refl).from O x t b m st le (plain (places v a w.0 (switches is first d rest table (at_place at r))))) where
        d : ℕ
        d = defaulted is first f

        goes : ℕ → ℕ
        goes v = cond (has_case is v) (address (cased is first v)) (address d)

        places : {O : Moment} {x : State} {t b g : ℕ} {m : List ℕ} {st : outcomes.State} (v a : ℕ) → a ≡ v → Reached K most O x t top p a b (goes a) g m st → Reached K most O x t top p a b (goes v) g m st
        places v a e r = at_place (ap goes e) r

        by_default : (a : ℕ) (some : Bool) → has_default is ≡ some → Does K most top p limit a (address d) (exit_goal address S (in_cases E f) last limit) (listed (has_label is) items AtDefault)
        by_default a true e =
            subst (λ z. Does K most top p limit a (address z) (exit_goal address S (in_cases E f) last limit) (listed (has_label is) items AtDefault)) (sym (defaulted_some is first f e))
            (list_lands address S K old most (in_cases E f) is inner first begin last items hi AtDefault e)
        by_default a false e = record {
          from = λ O x t b m st le here.
              let w = without e in
              let again = λ (z : Entry). then_do (items z) (after_list (has_label is)) in
              let over_all : Done Past st ≡ listed (has_label is) items AtDefault st = sym (ap (λ z. followed (followed z (after_list (has_label is))) (next_round (rounds st.turns again))) (w st)) in
              subst (λ z. Lands K most O x t top p limit (exit_goal address S (in_cases E f) last limit) z) over_all
              (lands_done limit (exit_goal address S (in_cases E f) last limit) Past here le (ap address (defaulted_none is first f e) ∙ there));
        }

        entered : (v a b : ℕ) → a ≡ v → (some : Bool) → has_case is v ≡ some → Does K most top p limit a (cond some (address (cased is first v)) (address d)) (exit_goal address S E end limit) (then_do (listed (has_label is) items (cond some (AtCase v) AtDefault)) after_cases)
        entered v a b e true h = after_lands E f last end (listed (has_label is) items (AtCase v)) over (there ∙ over) (list_lands address S K old most (in_cases E f) is inner first begin last items hi (AtCase v) h)
        entered v a b e false h = after_lands E f last end (listed (has_label is) items AtDefault) over (there ∙ over) (by_default a (has_default is) refl)
