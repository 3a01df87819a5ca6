-- What the code of one derivation does, seen from the machine's own moment before the code.
use Rattle.std.proofs.Common.{◌≡◌, ◌∙◌, ℕ, ◌+◌, ◌<◌, Bool, true, false, List, refl, sym, arith}
use Rattle.std.specs.Prelude.{cond, slice_index}
use Rattle.bc_machine_defs.specs.Run.{runs}
use Rattle.bc_core.specs.Loop.{agrees}
use Rattle.bc_core.specs.Store.{Cell, Dead, Unset, Set, cell_at}
use Rattle.bc_core.specs.Outcome.{Outcome, Done, Ended, Going, Wild, Run}
use Rattle.bc_core.specs.Value.{value, truth, assign}
use Rattle.bc_rules_defs.specs.declared.rule.Mode.TheVariants.{Any}
use Rattle.bc_right.specs.steps.Agreement.{Holds, Keeps}
use Rattle.bc_right.specs.steps.Landing.{Moment, moment, Reached, Goal, Lands, Does}
use Rattle.bc_right.specs.steps.Goals.{value_goal, jumps_to, test_goal, end_goal}
use Rattle.bc_right.proofs.step_lemmas.Steps.{later_refl}
use Rattle.bc_right.specs.rules.Single.{Start, machine_of, IsReady, NothingElseChanges, Registers, DoesTheSame, has_value, has_jumped, is_after, EachDerivationIsRight}
use Rattle.bc_right.proofs.rule_lemmas.Stretches.{gets_goal}
use Rattle.bc_right.proofs.rule_lemmas.Derivations.{gives, tests, assign_right, limit_right}

nothing_else : (top : ℕ) (cells cells1 : List Cell) (store store1 : List ℕ) → Holds top cells store → Holds top cells1 store1 → Keeps top cells store cells1 store1 → NothingElseChanges top cells store cells1 store1
nothing_else top cells cells1 store store1 h h1 k i lt same = by_cell (cell_at cells i) refl where
  by_cell : (c : Cell) → cell_at cells i ≡ c → slice_index store1 i ≡ slice_index store i
  by_cell Dead e = k.same i lt e
  by_cell Unset e = (k.unset i lt (same ∙ e)).1
  by_cell (Set w) e = h1.agrees i w (same ∙ e) ∙ sym (h.agrees i w e)

abbrev here : ℕ → Start → Moment
here top x = moment top x.source.cells x.store

reached : {S : Moment} {most top : ℕ} (x : Start) → x.source.turns < most → IsReady S top x → Reached S most (here top x) (machine_of x) x.source.turns top x.p x.a x.b x.c 0 x.store x.source
reached {top = top} x few ready = record {
  few = few;
  are_words = ready.are_words;
  leads = record { by = λ k. (k, omega arith, refl) };
  holds = ready.holds;
  since = ready.since;
  later = later_refl (here top x);
}

-- the result, seen from the start
seen : {A : Type 0} (S : Moment) (most top limit : ℕ) (x : Start) (goal : Goal A) (wanted : Registers A) (o : Outcome A)
    → ((v : A) (a b c g turns : ℕ) → goal v a b c g turns → wanted v a b c) → IsReady S top x
    → Lands S most (here top x) (machine_of x) x.source.turns top x.p limit goal o → DoesTheSame top x wanted o
unfolding runs
seen S most top limit x goal wanted (Done v now) to ready l =
    let r = l.5 in
    let n = r.leads.by 0 in
    record {
      instructions = n.0;
      a = l.0;
      b = l.1;
      c = l.2;
      store = l.4;
      comes = n.2;
      turns = omega (arith, n.1);
      registers = to v l.0 l.1 l.2 l.3 now.turns l.7;
      holds = r.holds;
      others = nothing_else top x.source.cells now.cells x.store l.4 ready.holds r.holds r.later.keeps;
    }
seen S most top limit x goal wanted (Ended e streams) to ready l = l
seen S most top limit x goal wanted (Going streams) to ready l = l
seen S most top limit x goal wanted Wild to ready l = tt

does_the_same : {A : Type 0} {S : Moment} {most top : ℕ} (x : Start) (goal : Goal A) (wanted : Registers A) (r : Run A)
    → ((v : A) (a b c g turns : ℕ) → goal v a b c g turns → wanted v a b c) → x.source.turns < most → IsReady S top x
    → Does S most top x.p x.source.turns x.a x.c goal r → DoesTheSame top x wanted (r x.source)
does_the_same {S = S} {most = most} {top = top} x goal wanted r to few ready does =
    seen S most top x.source.turns x goal wanted (r x.source) to ready
    (does.from (here top x) (machine_of x) x.source.turns x.b x.store x.source (omega arith) (reached x few ready))

jumped : (agree : Bool) (target end c g : ℕ) → jumps_to agree target end c g → c ≡ cond agree target end
jumped true target end c g h = h.0
jumped false target end c g h = h

pub each_derivation_is_right : EachDerivationIsRight
each_derivation_is_right address levels S most C V bodies around = record {
  values = λ {e = e} {m = m} d s t f g end x l stands room few ready.
      let right = gives C address levels V S most bodies around.places around.calls around.valofs d s t f l in
      does_the_same x (gets_goal m x.a end) (has_value m x.a end) (value C e x.p s) (λ v a b c g turns h. h) few ready
      (right.does S (later_refl S) x.p x.a x.c end x.source.turns g stands room);
  tests = λ {e = e} {sense = sense} d s t f g end x l stands room few ready.
      let right = tests C address levels V S most bodies around.places around.calls around.valofs d s t f l in
      does_the_same x (test_goal sense (address t) end) (has_jumped sense (address t) end) (truth C e x.p s)
      (λ v a b c g turns h. jumped (agrees sense v) (address t) end c g h) few ready
      (right.does S (later_refl S) x.p x.a x.c end x.source.turns g stands room);
  assignments = λ {s = s} {v = v} {to = to} d t f g end x lv lt stands room few ready.
      does_the_same x (end_goal end) (is_after end) (assign C v to x.p s) (λ u a b c g turns h. h) few ready
      (assign_right C address levels V S most bodies around.places around.calls around.valofs d lv lt S (later_refl S) x.p t f g x.a x.c end x.source.turns stands room);
  limits = λ s {e = e} d t f g end x l stands room few ready.
      let right = limit_right C address levels V S most bodies around.places around.calls around.valofs d l S (later_refl S) x.p t f g x.a x.c end x.source.turns stands room in (
        right.middle,
        right.stores,
        does_the_same x (value_goal right.middle) (has_value Any x.a right.middle) (value C e x.p (s + 2)) (λ v a b c g turns h. (h.0, h.1, tt)) few ready right.gives,
      );
}
