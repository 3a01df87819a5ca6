-- The test of a FOR is a test like any other, in cells of which the limit's is set too.
use Rattle.std.proofs.Common.{◌≡◌, ◌≢◌, ◌⊎◌, ⊎_elim, ℕ, ◌+◌, ◌%◌, ◌<◌, ◌≤◌, List, Bool, true, false, refl, sym, ap, ◌∙◌, subst, arith}
use Rattle.std.specs.Prelude.{slice_set, slice_index, cond, nat_le}
use Rattle.std.proofs.lemmas.List.{get_or-set_same, get_or-set_other, length-set}
use Rattle.bc_word.specs.Words.{holds, value_of, truth as word_of}
use Rattle.bc_word.specs.declared.operator.Rel.{Rel}
use Rattle.bc_word.specs.declared.operator.Rel.TheVariants as relations
use Rattle.bc_word.specs.declared.operator.Op.{Op}
use Rattle.bc_word.specs.declared.operator.Op.TheVariants as operators
use Rattle.bc_machine_defs.specs.State.{State}
use Rattle.bc_core.specs.Tree.{Frame, Load, Bin, Test}
use Rattle.bc_core.specs.Layout.{Bodies}
use Rattle.bc_core.specs.Store.{Cell, Dead, Unset, Set, cell_at}
use Rattle.bc_core.specs.Outcome as outcomes
use Rattle.bc_core.specs.Outcome.{Outcome, Done, Wild, Run, content_of_cell, read}
use Rattle.bc_core.specs.Value.{Context, given, value, truth, is_true}
use Rattle.bc_core.specs.Loop.{agrees}
use Rattle.bc_right.specs.steps.Premises.{Roots}
use Rattle.bc_gen_defs.specs.Emit.{end_of_for}
use Rattle.bc_right.specs.steps.Landing.{Moment, moment, Later, Stands, Reached, Lands, Does}
use Rattle.bc_right.specs.steps.Premises.{RootsLand}
use Rattle.bc_right.specs.steps.Goals.{jumps_to, test_goal}
use Rattle.bc_right.proofs.command_lemmas.Forms.{for_goal}
use Rattle.bc_right.proofs.step_lemmas.Cells.{differ, set_is, dead_is_not}
use Rattle.bc_right.proofs.step_lemmas.Steps.{later_then, later_refl}

-- a value is stored in a dead cell
pub record Held (S K : Moment) (k n : ℕ) : Type 0 where
  pub dead : cell_at K.cells k ≡ Dead
  pub above : S.top ≤ k
  pub within : k < K.top
  pub is : slice_index K.store k ≡ n

never_unset : (c : Cell) → c ≡ Dead → c ≡ Unset → ⊥
never_unset c e h = let f : Dead ≡ Unset = sym e ∙ h in cc

-- the result of the test, given the variable's cell
abbrev tested : Rel → Cell → ℕ → Run Bool
tested rel Dead n st = Wild
tested rel Unset n st = Wild
tested rel (Set i) n st = Done (is_true (word_of (holds rel i n))) st

jumps_by : (holds : Bool) (target end c g : ℕ) → jumps_to (agrees true (is_true (word_of holds))) target end c g → jumps_to holds target end c g
jumps_by true target end c g h = h
jumps_by false target end c g h = h

module _ (C : Context) (address levels : ℕ → ℕ) (V : Bodies) (S : Moment) (most : ℕ) (roots : Roots) (R : RootsLand C address levels V S most roots) where
  -- the cells with the limit's set
  abbrev more : ℕ → ℕ → outcomes.State → outcomes.State
  more k n st = record st { cells = slice_set st.cells k (Set n) }

  truth_is : (negative : Bool) (p s n : ℕ) (st : outcomes.State) (c : Cell) → cell_at st.cells ((p + s) % 65536) ≡ c → cell_at st.cells ((p + (s + 1)) % 65536) ≡ Set n
      → truth C (Bin (cond negative operators.Less operators.Greater) (Load (Frame s)) (Load (Frame (s + 1)))) p (s + 2) st ≡ tested (cond negative relations.Less relations.Greater) c n st
  truth_is negative p s n st c e1 e2 = by_first negative c e1 where
    then_less : (i : ℕ) → outcomes.followed (outcomes.followed (read ((p + (s + 1)) % 65536) st) (λ y st1. Done (word_of (holds relations.Less i y)) st1)) (λ v. Done (is_true v)) ≡ Done (is_true (word_of (holds relations.Less i n))) st
    then_less i = ap (λ z. outcomes.followed (outcomes.followed (content_of_cell z st) (λ y st1. Done (word_of (holds relations.Less i y)) st1)) (λ v. Done (is_true v))) e2

    then_greater : (i : ℕ) → outcomes.followed (outcomes.followed (read ((p + (s + 1)) % 65536) st) (λ y st1. Done (word_of (holds relations.Greater i y)) st1)) (λ v. Done (is_true v)) ≡ Done (is_true (word_of (holds relations.Greater i n))) st
    then_greater i = ap (λ z. outcomes.followed (outcomes.followed (content_of_cell z st) (λ y st1. Done (word_of (holds relations.Greater i y)) st1)) (λ v. Done (is_true v))) e2

    -- the test after the first read
    over : Op → Outcome ℕ → Outcome Bool
    over op o = outcomes.followed (outcomes.second_side false o (read ((p + (s + 1)) % 65536)) (λ x y. given (value_of op x y)) st) (λ v. Done (is_true v))

    by_first : (negative : Bool) (c : Cell) → cell_at st.cells ((p + s) % 65536) ≡ c → truth C (Bin (cond negative operators.Less operators.Greater) (Load (Frame s)) (Load (Frame (s + 1)))) p (s + 2) st ≡ tested (cond negative relations.Less relations.Greater) c n st
    by_first true Dead e = ap (λ z. over operators.Less (content_of_cell z st)) e
    by_first true Unset e = ap (λ z. over operators.Less (content_of_cell z st)) e
    by_first true (Set i) e = ap (λ z. over operators.Less (content_of_cell z st)) e ∙ then_less i
    by_first false Dead e = ap (λ z. over operators.Greater (content_of_cell z st)) e
    by_first false Unset e = ap (λ z. over operators.Greater (content_of_cell z st)) e
    by_first false (Set i) e = ap (λ z. over operators.Greater (content_of_cell z st)) e ∙ then_greater i

  pub for_test_lands : (K : Moment) → Later S K → (by n p s target first a c end limit : ℕ)
      → Stands address S c (roots (Test (s + 2) true (end_of_for by s)) target first).0 end → p + (s + 4) ≤ 65536 → Held S K (p + (s + 1)) n
      → Does K most (p + (s + 2)) p limit a c (for_goal by n (address target) end) (value C (Load (Frame s)) p (s + 2))
  for_test_lands K old by n p s target first a c end limit stands room held = record {
    from = λ O x t b m st le here.
        let k = p + (s + 1) in
        let top = p + (s + 2) in
        let st1 = more k n st in
        let now = later_then here.since here.later in
        let is_n : slice_index m k ≡ n = now.keeps.same k held.within held.dead ∙ held.is in
        let gone : cell_at st.cells k ≡ Dead = now.keeps.dead k held.within held.dead in
        let set : cell_at st1.cells k ≡ Set n = get_or-set_same st.cells k (Set n) Dead (omega (arith, here.holds.spans)) in
        let M = moment top st1.cells m in
        let at_s : (p + s) % 65536 ≡ p + s = omega arith in
        let at_k : (p + (s + 1)) % 65536 ≡ k = omega arith in
        let all = later_then old now in
        let old1 : Later S M = record {
          low = all.low;
          keeps = record {
            dead = λ i lt d. get_or-set_other st.cells k i (Set n) Dead (λ e. omega (arith, held.above)) ∙ all.keeps.dead i lt d;
            same = all.keeps.same;
            unset = λ i lt u. all.keeps.unset i lt (sym (get_or-set_other st.cells k i (Set n) Dead (λ e. omega (arith, held.above))) ∙ u);
          };
        } in
        let first_is : cell_at st1.cells ((p + s) % 65536) ≡ cell_at st.cells ((p + s) % 65536) = get_or-set_other st.cells k ((p + s) % 65536) (Set n) Dead (λ e. omega arith) in
        on O x t b m st here is_n gone set (nat_le 32768 by) (cell_at st.cells ((p + s) % 65536)) refl
        (subst (λ z. Lands M most M x t top p limit (test_goal true (address target) end) z) (truth_is (nat_le 32768 by) p s n st1 (cell_at st.cells ((p + s) % 65536)) first_is (ap (λ z. cell_at st1.cells z) at_k ∙ set))
        ((R.tests M old1 true (end_of_for by s) p (s + 2) target first a c end limit stands (omega arith) (tt, tt)).from M x t b m st1 le (record {
          few = here.few;
          are_words = here.are_words;
          leads = here.leads;
          holds = record {
            agrees = λ i w e. ⊎_elim (λ ne. here.holds.agrees i w (sym (get_or-set_other st.cells k i (Set n) Dead ne) ∙ e))
                (λ at. ap (λ z. slice_index m z) at ∙ is_n ∙ set_is n w (cell_at st1.cells k) set (sym (ap (λ z. cell_at st1.cells z) at) ∙ e)) (differ i k);
            above = λ i ge. get_or-set_other st.cells k i (Set n) Dead (λ e. omega arith) ∙ here.holds.above i ge;
            whole = here.holds.whole;
            spans = length-set st.cells k (Set n) ∙ here.holds.spans;
          };
          since = later_refl M;
          later = later_refl M;
        })));
  } where
    on : (O : Moment) (x : State) (t b : ℕ) (m : List ℕ) (st : outcomes.State) → Reached K most O x t (p + (s + 2)) p a b c 0 m st → slice_index m (p + (s + 1)) ≡ n → cell_at st.cells (p + (s + 1)) ≡ Dead → cell_at (slice_set st.cells (p + (s + 1)) (Set n)) (p + (s + 1)) ≡ Set n
        → (negative : Bool) (cell : Cell) → cell_at st.cells ((p + s) % 65536) ≡ cell
        → (let M = moment (p + (s + 2)) (slice_set st.cells (p + (s + 1)) (Set n)) m in Lands M most M x t (p + (s + 2)) p limit (test_goal true (address target) end) (tested (cond negative relations.Less relations.Greater) cell n (more (p + (s + 1)) n st)))
        → Lands K most O x t (p + (s + 2)) p limit (λ i a1 b1 c1 g turns. jumps_to (holds (cond negative relations.Less relations.Greater) i n) (address target) end c1 g) (content_of_cell cell st)
    on O x t b m st here is_n gone set negative Dead e l = tt
    on O x t b m st here is_n gone set negative Unset e l = tt
    on O x t b m st here is_n gone set negative (Set i) e l =
        let k = p + (s + 1) in
        let r = l.5 in
        let m1 = l.4 in
        let other = λ (q : ℕ) (ne : q ≢ k). get_or-set_other st.cells k q (Set n) Dead ne in (
          l.0,
          l.1,
          l.2,
          l.3,
          m1,
          record {
            few = r.few;
            are_words = r.are_words;
            leads = r.leads;
            holds = record {
              agrees = λ q w f. ⊎_elim (λ ne. r.holds.agrees q w (other q ne ∙ f)) (λ at. absurd (dead_is_not w (cell_at st.cells k) gone (sym (ap (λ z. cell_at st.cells z) at) ∙ f))) (differ q k);
              above = here.holds.above;
              whole = r.holds.whole;
              spans = here.holds.spans;
            };
            since = here.since;
            later = record {
              low = here.later.low;
              keeps = record {
                dead = here.later.keeps.dead;
                same = λ q lt d. ⊎_elim (λ ne. r.later.keeps.same q (omega (arith, here.later.low)) (other q ne ∙ here.later.keeps.dead q lt d))
                    (λ at. ap (λ z. slice_index m1 z) at ∙ r.holds.agrees k n set ∙ sym is_n ∙ sym (ap (λ z. slice_index m z) at)) (differ q k) ∙ here.later.keeps.same q lt d;
                unset = λ q lt u.
                    let h = here.later.keeps.unset q lt u in
                    let away = λ (at : q ≡ k). never_unset (cell_at st.cells k) gone (sym (ap (λ z. cell_at st.cells z) at) ∙ u) in
                    (h.0, (r.later.keeps.unset q (omega (arith, here.later.low)) (other q away ∙ u)).1 ∙ h.1);
              };
            };
          },
          l.6,
          jumps_by (holds (cond negative relations.Less relations.Greater) i n) (address target) end l.2 l.3 l.7,
        )
