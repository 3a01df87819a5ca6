-- Parts of a root's code: reading an operand, evaluating operands one after the other, keeping a value in the frame, and instructions
-- on A and B.
use Rattle.std.proofs.Common.{◌≡◌, ⊎_elim, ℕ, ◌+◌, ◌%◌, ◌<◌, ◌≤◌, List, [], ◌∷◌, Bool, true, false, not, Option, Some, None, refl, sym, ap, ◌∙◌, subst, arith}
use Rattle.std.specs.Prelude.{slice_set, slice_index, cond, nat_le}
use Rattle.std.proofs.lemmas.List.{get_or-set_same}
use Rattle.std.proofs.lemmas.Bool.Decides.{nat_tests}
use Rattle.bc_word.specs.declared.operator.Op.{Op}
use Rattle.bc_word.specs.declared.operator.Op.TheVariants as operators
use Rattle.bc_word.specs.Words.{value_of, number_of, negated}
use Rattle.bc_text_items.specs.declared.item.Item.{Item}
use Rattle.bc_text_items.specs.declared.item.Item.TheVariants.{Operation}
use Rattle.bc_text_items.specs.declared.item.Base.{Base}
use Rattle.bc_text_items.specs.declared.item.Base.TheVariants as bases
use Rattle.bc_text_items.specs.declared.item.Function.{Function}
use Rattle.bc_text_items.specs.declared.item.Function.TheVariants as functions
use Rattle.bc_text_items.specs.Sizes.{operation_size}
use Rattle.bc_text_items.specs.Assembled.{instruction, words_of_item}
use Rattle.bc_machine_defs.specs.declared.state.End.TheVariants as ends
use Rattle.bc_machine_defs.specs.Streams.{Content}
use Rattle.bc_machine_defs.specs.State.{State}
use Rattle.bc_machine_defs.specs.Effect.{running}
use Rattle.bc_machine_defs.specs.Run.{runs}
use Rattle.bc_machine_defs.specs.Operation.{operation_of}
use Rattle.bc_machine_defs.specs.declared.operation.Operation.TheVariants.{Operate}
use Rattle.bc_machine_defs.specs.Execute.{execute, with_value}
use Rattle.bc_machine_defs.specs.Step.{step}
use Rattle.bc_core.specs.declared.operands.Operand.{Operand}
use Rattle.bc_core.specs.Tree.{Exp}
use Rattle.bc_core.specs.Operand.{operand_of}
use Rattle.bc_core.specs.Store.{Dead, cell_at}
use Rattle.bc_core.specs.Outcome as outcomes
use Rattle.bc_core.specs.Outcome.{Outcome, Done, Ended, Going, Wild, Run, Ending, followed, then_do, outweighed, second_side, both}
use Rattle.bc_core.specs.Same.{end_of}
use Rattle.bc_core.specs.Value.{Context, value, given}
use Rattle.bc_rules_defs.specs.declared.rule.Mode.{Mode}
use Rattle.bc_rules_defs.specs.declared.rule.Mode.TheVariants.{Any}
pub use Rattle.bc_right.specs.rules.Single.{Kept}
use Rattle.bc_right.specs.steps.Leads.{machine, StopsAt, AreWords}
use Rattle.bc_right.specs.steps.CodeAt.{HasWords}
use Rattle.bc_right.specs.steps.Landing.{Moment, moment, Later, Stands, Reached, Goal, Lands, Does}
use Rattle.bc_right.specs.steps.Items.{with_operand, operate, hold_item}
use Rattle.bc_right.specs.steps.Items as code
use Rattle.bc_right.specs.steps.Goals.{value_goal}
use Rattle.bc_right.specs.steps.Free.{SameUnlessWild}
use Rattle.bc_right.proofs.step_lemmas.Decoding.{operand_at, value_at}
use Rattle.bc_right.proofs.step_lemmas.Keeping.{words_are_kept}
use Rattle.bc_right.proofs.step_lemmas.Agreeing.{holds_up}
use Rattle.bc_right.proofs.step_lemmas.Operands.{Reads, operand_reads}
use Rattle.bc_right.proofs.step_lemmas.Steps.{step_stops, stops_from, later_then, later_refl, at_end, after_item, acts, went, plain, at_place, Onward, bind_from, lands_from, lands_done, does_map}
use Rattle.bc_right.proofs.step_lemmas.Holding.{reached_from, held_at}

-- after the code of a value, the value is in A
abbrev pub gets_goal : Mode → (was end : ℕ) → Goal ℕ
gets_goal m was end v a b c gain turns = (a ≡ v) × (c ≡ end) × Kept m was b

pub as_value : {K : Moment} {most top p limit a c : ℕ} (m : Mode) (was end : ℕ) (r : Run ℕ) → Does K most top p limit a c (gets_goal m was end) r → Does K most top p limit a c (value_goal end) r
as_value m was end r d = does_map (gets_goal m was end) (value_goal end) r (λ v a1 b1 c1 g turns w. (w.0, w.1)) d

-- the machine's registers hold words
pub registers_small : {K : Moment} {most : ℕ} {O : Moment} {x : State} {t top p a b c g : ℕ} {m : List ℕ} {st : outcomes.State} → Reached K most O x t top p a b c g m st → AreWords (machine a b c p m st.streams)
unfolding runs
registers_small {x = x} r = let h = r.leads.by 0 in subst (λ z. AreWords z.0) h.2 (words_are_kept h.0 x r.are_words)

-- the top can be raised
pub raised : {K : Moment} {most : ℕ} {O : Moment} {x : State} {t top p a b c g : ℕ} {m : List ℕ} {st : outcomes.State} (top1 : ℕ) → top ≤ top1 → Reached K most O x t top p a b c g m st → Reached K most O x t top1 p a b c g m st
raised {top = top} {m = m} {st = st} top1 up r = record {
  few = r.few;
  are_words = r.are_words;
  leads = r.leads;
  holds = holds_up top top1 st.cells m up r.holds;
  since = r.since;
  later = record { low = omega (arith, r.later.low); keeps = r.later.keeps };
}

-- what is evaluated at a higher level
pub does_lower : {A : Type 0} {K : Moment} {most p limit a c : ℕ} (top top1 : ℕ) (goal : Goal A) (run : Run A) → top ≤ top1 → Does K most top1 p limit a c goal run → Does K most top p limit a c goal run
does_lower {K = K} {most = most} {p = p} {limit = limit} top top1 goal run up d = record {
  from = λ O x t b m st le here.
      let M = moment top1 st.cells m in
      let raised : Later O M = record { low = omega (arith, here.later.low); keeps = here.later.keeps } in
      lands_from K K M O most x t top1 top p limit goal (run st) here.since raised here.later.low up (omega arith) (λ i lo hi. here.holds.above i lo)
      (d.from M x t b m st le (record { few = here.few; are_words = here.are_words; leads = here.leads; holds = holds_up top top1 st.cells m up here.holds; since = later_then here.since raised; later = later_refl M }));
}

-- two operands, one after the other
weighed : {A B : Type 0} (K : Moment) (most : ℕ) (O : Moment) (x : State) (t top p limit : ℕ) (goal : Goal A) (e : Ending) (streams : Content) (o : Outcome B) → (j : ℕ) × StopsAt x j (end_of e) streams → Lands K most O x t top p limit goal (outweighed e streams o)
weighed K most O x t top p limit goal e streams (Done v st) d = d
weighed K most O x t top p limit goal e streams (Ended e1 streams1) d = d
weighed K most O x t top p limit goal e streams (Going streams1) d = d
weighed K most O x t top p limit goal e streams Wild d = tt

sides : {A B D : Type 0} {K : Moment} {most : ℕ} {O : Moment} {x : State} {t top p limit : ℕ} (goal1 : Goal A) (goal : Goal D) (calls : Bool) (o : Outcome A) (r : Run B) (f : A → B → Run D) (st0 : outcomes.State) → Lands K most O x t top p limit goal1 o
    → Onward K most O x t top p limit goal1 goal (λ v. then_do r (f v)) → Lands K most O x t top p limit goal (second_side calls o r f st0)
sides goal1 goal calls (Done v st) r f st0 l k = k v l.0 l.1 l.2 l.3 l.4 st l.5 l.6 l.7
sides goal1 goal true (Ended e streams) r f st0 l k = l
sides {K = K} {most = most} {O = O} {x = x} {t = t} {top = top} {p = p} {limit = limit} goal1 goal false (Ended e streams) r f st0 l k = weighed K most O x t top p limit goal e streams (r st0) l
sides goal1 goal calls (Going streams) r f st0 l k = l
sides goal1 goal calls Wild r f st0 l k = tt

pub both_raw : {A B D : Type 0} {K : Moment} {most top p limit a c : ℕ} (goal1 : Goal A) (goal : Goal D) (calls : Bool) (r1 : Run A) (r2 : Run B) (f : A → B → Run D) → Does K most top p limit a c goal1 r1
    → ((O : Moment) (x : State) (t : ℕ) → Onward K most O x t top p limit goal1 goal (λ v. then_do r2 (f v))) → Does K most top p limit a c goal (both calls r1 r2 f)
both_raw goal1 goal calls r1 r2 f d k = record { from = λ O x t b m st le here. sides goal1 goal calls (r1 st) r2 f st (d.from O x t b m st le here) (k O x t) }

-- evaluation in the other order, or the source is wild
pub does_unless_wild : {A : Type 0} {K : Moment} {most top p limit a c : ℕ} (goal : Goal A) (source other : Run A) → ((st : outcomes.State) → SameUnlessWild (source st) (other st)) → Does K most top p limit a c goal other → Does K most top p limit a c goal source
does_unless_wild {K = K} {most = most} {top = top} {p = p} {limit = limit} goal source other same d = record {
  from = λ O x t b m st le here.
      ⊎_elim (λ e. subst (λ z. Lands K most O x t top p limit goal z) (sym e) (d.from O x t b m st le here)) (λ e. subst (λ z. Lands K most O x t top p limit goal z) (sym e) tt) (same st);
}

-- an operand is read in no step
pub operand_then : {B : Type 0} (C : Context) (address : ℕ → ℕ) → ((l : ℕ) → address l ≡ C.place l) → {K : Moment} {most : ℕ} {O : Moment} {x : State} {t top p a b c g : ℕ} {m : List ℕ} {st : outcomes.State} (e : Exp) (o : Operand) → operand_of e ≡ Some o → (s top1 limit : ℕ) (goal : Goal B) (f : ℕ → Run B)
    → Reached K most O x t top p a b c g m st → ((w : ℕ) → operand_at address (not o.direct) o.base o.n p m ≡ w → Lands K most O x t top1 p limit goal (f w st)) → Lands K most O x t top1 p limit goal (followed (value C e p s st) f)
operand_then {B = B} C address places {K = K} {most = most} {O = O} {x = x} {t = t} {top = top} {p = p} {m = m} {st = st} e o is s top1 limit goal f here k = on (value C e p s st) (operand_reads C address places e o is p s top m st here.holds) where
  on : (r : Outcome ℕ) → Reads address o p m st r → Lands K most O x t top1 p limit goal (followed r f)
  on (Done w st1) h = subst (λ z. Lands K most O x t top1 p limit goal (f w z)) h.0 (k w h.1)
  on (Ended e1 streams) h = absurd h
  on (Going streams) h = absurd h
  on Wild h = tt

not_is : (b : Bool) → cond b false true ≡ not b
not_is true = refl
not_is false = refl

pub stands_on : {address : ℕ → ℕ} {S : Moment} {c end : ℕ} (f : Function) (o : Operand) (rest : List Item) → Stands address S c (Operation f (cond o.direct false true) o.base o.n ∷ rest) end → Stands address S c (with_operand f o ∷ rest) end
stands_on {address = address} {S = S} {c = c} {end = end} f o rest s = subst (λ z. Stands address S c (Operation f z o.base o.n ∷ rest) end) (not_is o.direct) s

-- `A o`
pub added : {address : ℕ → ℕ} {S K : Moment} {most : ℕ} {O : Moment} {x : State} {t top p a b c g end : ℕ} {m : List ℕ} {st : outcomes.State} (indirect : Bool) (base : Base) (n w : ℕ) (rest : List Item) → Later S K → Stands address S c (Operation functions.Add indirect base n ∷ rest) end
    → operand_at address indirect base n p m ≡ w → Reached K most O x t top p a b c g m st → Reached K most O x t top p ((a + w) % 65536) b (c + operation_size base n) (g + 1) m st
added {p = p} {a = a} {b = b} {c = c} {m = m} {st = st} indirect base n w rest old s e r =
    went r (acts old functions.Add indirect base n rest s r ∙ ap (λ z. running (machine ((a + z) % 65536) b (c + operation_size base n) p m st.streams)) e)

-- `L o`
pub loaded : {address : ℕ → ℕ} {S K : Moment} {most : ℕ} {O : Moment} {x : State} {t top p a b c g end : ℕ} {m : List ℕ} {st : outcomes.State} (indirect : Bool) (base : Base) (n w : ℕ) (rest : List Item) → Later S K → Stands address S c (Operation functions.Load indirect base n ∷ rest) end
    → operand_at address indirect base n p m ≡ w → Reached K most O x t top p a b c g m st → Reached K most O x t top p w a (c + operation_size base n) (g + 1) m st
loaded {p = p} {a = a} {b = b} {c = c} {m = m} {st = st} indirect base n w rest old s e r =
    went r (acts old functions.Load indirect base n rest s r ∙ ap (λ z. running (machine z a (c + operation_size base n) p m st.streams)) e)

-- `X2`
pub negates : {address : ℕ → ℕ} {S K : Moment} {most : ℕ} {O : Moment} {x : State} {t top p a b c g end : ℕ} {m : List ℕ} {st : outcomes.State} (rest : List Item) → Later S K → Stands address S c (code.execute 2 ∷ rest) end → Reached K most O x t top p a b c g m st → Reached K most O x t top p (negated a) b (c + 1) (g + 1) m st
negates rest old s r = went r (acts old functions.Execute false bases.Number 2 rest s r)

-- an instruction's operand is a word
small_number : (address : ℕ → ℕ) (f : Function) (i : Bool) (b : Base) (n c : ℕ) (m : List ℕ) (short : Bool) → nat_le n 511 ≡ short → ((k : ℕ) → slice_index m k < 65536) → HasWords m c (cond short (instruction f i b n ∷ []) (instruction f i b 512 ∷ n ∷ [])) → n < 65536
small_number address f i b n c m true e small h = let le : n < 512 = grind (arith, nat_tests) in omega arith
small_number address f i b n c m false e small h = let at = small (c + 1) in omega (arith, at, h.1.0)

pub operand_small : (address : ℕ → ℕ) (f : Function) (i : Bool) (b : Base) (n p c : ℕ) (m : List ℕ) → ((k : ℕ) → slice_index m k < 65536) → HasWords m c (words_of_item address (Operation f i b n)) → operand_at address i b n p m < 65536
operand_small address f true b n p c m small h = small (value_at address b n p)
operand_small address f false bases.Number n p c m small h = small_number address f false bases.Number n c m (nat_le n 511) refl small h
operand_small address f false bases.P n p c m small h = omega arith
operand_small address f false bases.G n p c m small h = omega arith
operand_small address f false bases.Label n p c m small h = let at = small (c + 1) in omega (arith, at, h.1.0)

-- an operator works on B and A
operator_number : (op : Op) → operation_of (number_of op) ≡ Operate op
operator_number operators.Multiply = refl
operator_number operators.Divide = refl
operator_number operators.Remainder = refl
operator_number operators.Add = refl
operator_number operators.Subtract = refl
operator_number operators.Equal = refl
operator_number operators.NotEqual = refl
operator_number operators.Less = refl
operator_number operators.GreaterEqual = refl
operator_number operators.Greater = refl
operator_number operators.LessEqual = refl
operator_number operators.ShiftLeft = refl
operator_number operators.ShiftRight = refl
operator_number operators.And = refl
operator_number operators.Or = refl
operator_number operators.NotEquivalent = refl
operator_number operators.Equivalent = refl

pub operates : {address : ℕ → ℕ} {S K : Moment} {most : ℕ} {O : Moment} {x : State} {t top p a b c g end : ℕ} {m : List ℕ} {st : outcomes.State} (op : Op) (limit was : ℕ) (z : Option ℕ) → Later S K → Stands address S c (operate op ∷ []) end → value_of op b a ≡ z → Reached K most O x t top p a b c g m st → st.turns ≤ limit
    → Lands K most O x t top p limit (gets_goal Any was end) (given z st)
operates {address = address} {S = S} {K = K} {most = most} {O = O} {x = x} {t = t} {top = top} {p = p} {a = a} {b = b} {c = c} {g = g} {end = end} {m = m} {st = st} op limit was z old s e r le = by_value z e where
  at_operator : (z : Option ℕ) → value_of op b a ≡ z → step (machine a b c p m st.streams) ≡ with_value z (record { a = a; b = b; c = c + operation_size bases.Number (number_of op); p = p }) (machine a b c p m st.streams)
  at_operator z e =
      acts old functions.Execute false bases.Number (number_of op) [] s r
      ∙ ap (λ o. execute o (record { a = a; b = b; c = c + operation_size bases.Number (number_of op); p = p }) (machine a b c p m st.streams)) (operator_number op)
      ∙ ap (λ v. with_value v (record { a = a; b = b; c = c + operation_size bases.Number (number_of op); p = p }) (machine a b c p m st.streams)) e

  by_value : (z : Option ℕ) → value_of op b a ≡ z → Lands K most O x t top p limit (gets_goal Any was end) (given z st)
  by_value None e =
      let y = machine a b c p m st.streams in
      let h = r.leads.by 1 in
      (h.0, stops_from x y h.0 1 ends.ZeroDivide st.streams h.2 (step_stops y y ends.ZeroDivide (at_operator None e)))
  by_value (Some u) e = lands_done limit (gets_goal Any was end) u (at_place (at_end (after_item s)) (went r (at_operator (Some u) e))) le (refl, refl, tt)

-- a value is kept at level s while another is evaluated
pub held_then : {B : Type 0} {address : ℕ → ℕ} {S K : Moment} {most : ℕ} {O : Moment} {x : State} {t p v b c g end0 : ℕ} {m : List ℕ} {st : outcomes.State} (s limit end1 was : ℕ) (rest : List Item) (goal : Goal B) (r2 : Run ℕ) (f : ℕ → Run B) → Later S K → p + s < 65536
    → Stands address S c (hold_item s ∷ rest) end0 → Reached K most O x t (p + s) p v b c g m st → st.turns ≤ limit
    → Does K most (p + (s + 1)) p limit v (c + operation_size bases.P s) (gets_goal Any was end1) r2
    → ((w b2 g2 : ℕ) (m2 : List ℕ) (st2 : outcomes.State) → Reached K most O x t (p + s) p w b2 end1 g2 m2 st2 → st2.turns ≤ limit → slice_index m2 (p + s) ≡ v → Lands K most O x t (p + s) p limit goal (f w st2))
    → Lands K most O x t (p + s) p limit goal (followed (r2 st) f)
held_then {K = K} {most = most} {O = O} {x = x} {t = t} {p = p} {v = v} {b = b} {m = m} {st = st} s limit end1 was rest goal r2 f old fits stands r le d k =
    let r1 = held_at rest old fits stands r in
    let m1 = slice_set m (p + s) v in
    let O1 = moment (p + (s + 1)) st.cells m1 in
    let up : Later O O1 = record { low = omega (arith, r1.later.low); keeps = r1.later.keeps } in
    let dead : cell_at st.cells (p + s) ≡ Dead = r1.holds.above (p + s) (omega arith) in
    let is : slice_index m1 (p + s) ≡ v = get_or-set_same m (p + s) v 0 (omega (arith, r.holds.whole, fits)) in
    bind_from K K O1 O most x t (p + (s + 1)) (p + s) p limit (gets_goal Any was end1) goal (r2 st) f
    (d.from O1 x t b m1 st le (plain (record { few = r1.few; are_words = r1.are_words; leads = r1.leads; holds = holds_up (p + s) (p + (s + 1)) st.cells m1 (omega arith) r1.holds; since = later_then r1.since up; later = later_refl O1 })))
    (λ w a2 b2 c2 g2 m2 st2 r2 le2 goes.
    let back = reached_from O (p + s) r2 r1.since up r1.later.low (omega arith) (λ i lo hi. let same : i ≡ p + s = omega arith in ap (λ z. cell_at st.cells z) same ∙ dead) in
    k w b2 g2 m2 st2 (at_place goes.1 (subst (λ z. Reached K most O x t (p + s) p z b2 c2 g2 m2 st2) goes.0 back)) le2 (r2.later.keeps.same (p + s) (omega arith) dead ∙ is))
