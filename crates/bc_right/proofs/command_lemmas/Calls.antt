-- Calls and VALOFs do what they mean, by induction on the nesting depth of calls, and within it on the VALOFs.
use Rattle.std.proofs.Common.{◌≡◌, ◌⊎◌, inl, inr, ⊎_elim, ℕ, zero, suc, ◌+◌, ◌%◌, ◌<◌, ◌≤◌, ◌==◌, Bool, true, false, Option, Some, None, List, [], ◌∷◌, ◌++◌, length, refl, sym, ap, ◌∙◌, subst, arith}
use Rattle.std.specs.Prelude.{slice_set, slice_index, nat_le}
use Rattle.std.proofs.lemmas.Bool.{cases_lt}
use Rattle.std.proofs.lemmas.Bool.Decides.{nat_tests}
use Rattle.std.proofs.lemmas.List.{get_or-set_same, get_or-set_other, length-set}
use Rattle.bc_text_items.specs.declared.item.Item.{Item}
use Rattle.bc_text_items.specs.declared.item.Item.TheVariants.{Label}
use Rattle.bc_text_items.specs.declared.item.Base.TheVariants as bases
use Rattle.bc_text_items.specs.declared.item.Function.TheVariants as functions
use Rattle.bc_text_items.specs.Sizes.{operation_size}
use Rattle.bc_machine_defs.specs.State.{State}
use Rattle.bc_machine_defs.specs.Effect.{Effect, running}
use Rattle.bc_machine_defs.specs.Operand.{next}
use Rattle.bc_machine_defs.specs.Step.{step}
use Rattle.bc_machine_defs.specs.Run.{runs, ended}
use Rattle.bc_core.specs.Tree.{Value}
use Rattle.bc_core.specs.Commands.{Routine, Body, Gives, Valof}
use Rattle.bc_core.specs.Commands as commands
use Rattle.bc_core.specs.Level.{level_after_parameters}
use Rattle.bc_core.specs.Layout.{Bodies, cells_of_valofs, cells_of_block, cells_of_body, frame_size}
use Rattle.bc_core.proofs.Liveness.{filled_outside}
use Rattle.bc_core.specs.Store.{Cell, Dead, Unset, Set, cell_at, closed}
use Rattle.bc_core.specs.Outcome as outcomes
use Rattle.bc_core.specs.Outcome.{Outcome, Done, Ended, Going, Wild, Run, wild, then_do, choose, in_turn, left}
use Rattle.bc_core.specs.Value.{Context, value}
use Rattle.bc_core.specs.Exit.{Exit, Past, Broke, Looped, LeftCases, Returned, Resulted, Jumped}
use Rattle.bc_core.specs.Command.{perform_block}
use Rattle.bc_core.specs.Map.{Placed}
use Rattle.bc_core.specs.Meaning.{Call, routine_value, valof_value, context, valofs_from, context_in, body_value, passed, with_arguments, in_frame, Callee, OfSection, OfLibrary, callee, entered, entered_of, calls}
use Rattle.bc_core.proofs.Liveness.{passed_outside}
use Rattle.bc_right.specs.steps.Leads.{machine}
use Rattle.bc_right.specs.steps.Agreement.{Holds, Keeps}
use Rattle.bc_right.specs.steps.CodeAt.{HasWords}
use Rattle.bc_right.proofs.step_lemmas.Agreeing.{holds_up, holds_held}
use Rattle.bc_right.specs.steps.Premises.{Code, Roots}
use Rattle.bc_gen_defs.specs.Emit.{zero_item, execute, emit_block}
use Rattle.bc_right.specs.commands.Exits.{return_items}
use Rattle.bc_right.specs.steps.Landing.{Moment, moment, Later, Stands, Reached, Goal, Lands, Does}
use Rattle.bc_right.specs.steps.Premises.{RootsLand}
use Rattle.bc_right.specs.steps.Goals.{value_goal}
use Rattle.bc_right.specs.commands.Exits.{exit_goal}
use Rattle.bc_right.specs.steps.Items.{call_item}
use Rattle.bc_right.specs.steps.Premises.{CallLands, BodiesCode, ValofsLand, RootsRight}
use Rattle.bc_gen_defs.specs.Bodies.{body_exits, bodies_from, emit_body, level_of}
use Rattle.bc_right.specs.commands.Calls.{RoutineStands, ProgramStands, LibraryLands, CallsLand}
use Rattle.bc_right.proofs.step_lemmas.Steps.{later_then, parts, at_end, at_label, after_item, after_label, acts, went, at_place, jumped, lands_done, Onward, then_raw, does_onto, turn, lands_map}
use Rattle.bc_right.proofs.step_lemmas.Cells.{filled_either, closed_holds, differ, set_either, set_is}
use Rattle.bc_right.specs.commands.Levelled.{BlockLevelled, BodyLevelled, ValofsLevelled}
use Rattle.bc_right.proofs.command_lemmas.Commands.{block_lands}
use Rattle.std.proofs.lemmas.Bool.{eqb-true}

-- `L0`
pub zeroed : {address : ℕ → ℕ} {S K : Moment} {most : ℕ} {O : Moment} {x : State} {t top p a b c g end : ℕ} {m : List ℕ} {st : outcomes.State} → Later S K → (rest : List Item) → Stands address S c (zero_item ∷ rest) end → Reached K most O x t top p a b c g m st → Reached K most O x t top p 0 a (c + 1) (g + 1) m st
zeroed old rest s r = went r (acts old functions.Load false bases.Number 0 rest s r)

-- VALOFs
module _ (address levels : ℕ → ℕ) (S : Moment) (most : ℕ) (over : BodiesCode → Roots) (right : RootsRight address levels S over) (place : ℕ → ℕ) (places : (l : ℕ) → address l ≡ place l) (call : Call) (works : (v : ℕ) → CallLands S most v (call v)) where
  roots_land : (valof : ℕ → ℕ → ℕ → Run ℕ) (V : Bodies) (bodies : BodiesCode) → ValofsLand address levels S most V bodies valof → RootsLand (context place call valof) address levels V S most (over bodies)
  roots_land valof V bodies h = right.from most (context place call valof) V bodies places works h

  valof_lands : {K : Moment} {top p limit a c : ℕ} (l mid end : ℕ) (r : Run Exit) → Later S K → Stands address S mid (zero_item ∷ []) end → address l ≡ end → Does K most top p limit a c (exit_goal address S (body_exits l) mid limit) r → Does K most top p limit a c (value_goal end) (then_do r valof_value)
  valof_lands {K = K} {top = top} {p = p} {limit = limit} l mid end r old s e d = then_raw (exit_goal address S (body_exits l) mid limit) (value_goal end) r valof_value d (λ O x t. on O x t) where
    on : (O : Moment) (x : State) (t : ℕ) → Onward K most O x t top p limit (exit_goal address S (body_exits l) mid limit) (value_goal end) valof_value
    on O x t Past a b c g m st r le h = lands_done limit (value_goal end) 0 (zeroed old [] s (at_place h r)) le (refl, at_end (after_item s))
    on O x t (Resulted v) a b c g m st r le h = lands_done limit (value_goal end) v (jumped old h.1 r) le (h.0, e)
    on O x t Broke a b c g m st r le h = tt
    on O x t Looped a b c g m st r le h = tt
    on O x t LeftCases a b c g m st r le h = tt
    on O x t Returned a b c g m st r le h = tt
    on O x t (Jumped k) a b c g m st r le h = tt

  pub valofs_land : (vs : List Valof) (first : ℕ) → ((i : ℕ) → levels (first + i) ≡ level_of vs i) → ValofsLevelled levels vs
      → ValofsLand address levels S most (cells_of_valofs first vs) (bodies_from (λ i. i) over first vs) (valofs_from place call first vs)
  valofs_land [] first agree lv = record { from = λ K old n p l f a c end limit st room. record { from = λ O x t b m st1 le here. tt } }
  valofs_land (v ∷ vs) first agree lv = record { from = λ K old n p l f a c end limit st room. by_number K old n p l f a c end limit (n == first) refl (valofs_land vs (first + 1) (λ i. further i) lv.1) st room } where
    inner_code : BodiesCode
    inner_code = bodies_from (λ i. i) over (first + 1) vs

    inner_cells : Bodies
    inner_cells = cells_of_valofs (first + 1) vs

    inner : ℕ → ℕ → ℕ → Run ℕ
    inner = valofs_from place call (first + 1) vs

    further : (i : ℕ) → levels (first + 1 + i) ≡ level_of vs i
    further i = let index : first + 1 + i ≡ first + suc i = omega arith in ap levels index ∙ agree (suc i)

    own_level : (n : ℕ) → (n == first) ≡ true → v.level ≡ levels n
    own_level n e = let index : first + 0 ≡ n = omega (arith, eqb-true n first e) in sym (agree 0) ∙ ap levels index

    by_number : (K : Moment) → Later S K → (n p l f a c end limit : ℕ) (is_it : Bool) → (n == first) ≡ is_it → ValofsLand address levels S most inner_cells inner_code inner
        → Stands address S c ((elim is_it as (λ z. Code) [ true ↦ (let x = emit_block (λ i. i) (over inner_code) v.body (levels n) (body_exits l) f in (x.0 ++ zero_item ∷ [], x.1)) | false ↦ inner_code n (levels n) l f ]).0 ++ Label l ∷ []) end
        → p + (elim is_it [ true ↦ cells_of_block inner_cells v.body (levels n) | false ↦ inner_cells n (levels n) ]) ≤ 65536
        → Does K most (p + levels n) p limit a c (value_goal end) (elim is_it [ true ↦ then_do (perform_block (context place call inner) v.body p (levels n)) valof_value | false ↦ inner n p (levels n) ])
    by_number K old n p l f a c end limit true e ih st room =
        let s = levels n in
        let x = emit_block (λ i. i) (over inner_code) v.body s (body_exits l) f in
        let q = parts (x.0 ++ zero_item ∷ []) (Label l ∷ []) st in
        let u = parts x.0 (zero_item ∷ []) q.front in
        let over_end : q.middle ≡ end = at_end (after_label q.back) in
        let there : address l ≡ end = at_label q.back ∙ over_end in
        valof_lands l u.middle end (perform_block (context place call inner) v.body p s) old (subst (λ z. Stands address S u.middle (zero_item ∷ []) z) over_end u.back) there
        (block_lands (context place call inner) address levels inner_cells S most (over inner_code) (roots_land inner inner_cells inner_code ih) K old v.body p s (body_exits l) f c u.middle u.front room
        (subst (λ z. BlockLevelled levels v.body z) (own_level n e) lv.0) limit a)
    by_number K old n p l f a c end limit false e ih st room = ih.from K old n p l f a c end limit st room

-- a routine's body: about to return, with the value in A
abbrev pub return_goal : (ℕ → ℕ) → Moment → Goal ℕ
return_goal address S v a b c g turns = (a ≡ v) × (last : ℕ) × Stands address S c (execute 4 ∷ []) last

module _ (C : Context) (address levels : ℕ → ℕ) (V : Bodies) (S K : Moment) (old : Later S K) (most : ℕ) (roots : Roots) (R : RootsLand C address levels V S most roots) where
  does_lands : {top p limit a c : ℕ} (mid end : ℕ) (r : Run Exit) → Stands address S mid return_items end → Does K most top p limit a c (exit_goal address S (body_exits 0) mid limit) r → Does K most top p limit a c (return_goal address S) (then_do r routine_value)
  does_lands {top = top} {p = p} {limit = limit} mid end r s d = then_raw (exit_goal address S (body_exits 0) mid limit) (return_goal address S) r routine_value d (λ O x t. on O x t) where
    returned : (O : Moment) (x : State) (t a b c g last : ℕ) (m : List ℕ) (st : outcomes.State) → Stands address S c return_items last → Reached K most O x t top p a b c g m st → st.turns ≤ limit → Lands K most O x t top p limit (return_goal address S) (Done 0 st)
    returned O x t a b c g last m st s1 r1 le = lands_done limit (return_goal address S) 0 (zeroed old (execute 4 ∷ []) s1 r1) le (refl, last, after_item s1)

    on : (O : Moment) (x : State) (t : ℕ) → Onward K most O x t top p limit (exit_goal address S (body_exits 0) mid limit) (return_goal address S) routine_value
    on O x t Past a b c g m st r1 le h = returned O x t a b mid g end m st s (at_place h r1) le
    on O x t Returned a b c g m st r1 le h = returned O x t a b c g h.0 m st h.1 r1 le
    on O x t Broke a b c g m st r1 le h = tt
    on O x t Looped a b c g m st r1 le h = tt
    on O x t LeftCases a b c g m st r1 le h = tt
    on O x t (Resulted v) a b c g m st r1 le h = tt
    on O x t (Jumped k) a b c g m st r1 le h = tt

  body_lands : (body : Body) (p s f c end : ℕ) → Stands address S c (emit_body (λ i. i) roots body s f).0 end → p + cells_of_body V body s ≤ 65536 → BodyLevelled levels body s → (limit a : ℕ) → Does K most (p + s) p limit a c (return_goal address S) (body_value C body p s)
  body_lands (Gives e) p s f c end st room l limit a =
      let v = roots (Value s e) 0 f in
      let q = parts v.0 (execute 4 ∷ []) st in
      does_onto (value_goal q.middle) (return_goal address S) (value C e p s) (R.gives K old e p s f a c q.middle limit q.front room l)
      (λ O x t w a1 b1 c1 g m st1 r le h. lands_done limit (return_goal address S) w r le (h.0, end, subst (λ z. Stands address S z (execute 4 ∷ []) end) (sym h.1) q.back))
  body_lands (commands.Does b) p s f c end st room l limit a =
      let x = emit_block (λ i. i) roots b s (body_exits 0) f in
      let q = parts x.0 return_items st in
      does_lands q.middle end (perform_block C b p s) q.back (block_lands C address levels V S most roots R K old b p s (body_exits 0) f c q.middle q.front room l limit a)

-- frames
words_held : (m : List ℕ) (a v c : ℕ) (ws : List ℕ) → a < c → HasWords m c ws → HasWords (slice_set m a v) c ws
words_held m a v c [] lt h = tt
words_held m a v c (w ∷ ws) lt h = (get_or-set_other m a c v 0 (λ e. omega arith) ∙ h.0, words_held m a v (c + 1) ws (omega arith) h.1)

-- the arguments become the topmost live cells
one_passed : (a : ℕ) (k : Cell) (cells : List Cell) (m : List ℕ) → ((w : ℕ) → k ≡ Set w → slice_index m a ≡ w) → Holds a cells m → Holds (a + 1) (slice_set cells a k) m
one_passed a k cells m new h = record {
  agrees = λ n w e. ⊎_elim (λ ne. h.agrees n w (sym (get_or-set_other cells a n k Dead ne) ∙ e))
      (λ at. ap (λ z. slice_index m z) at ∙ new_at n w at e (set_either cells a n k)) (differ n a);
  above = λ n ge. get_or-set_other cells a n k Dead (λ e. omega arith) ∙ h.above n (omega arith);
  whole = h.whole;
  spans = let e = length-set cells a k in omega (arith, e, h.spans);
} where
  new_at : (n w : ℕ) → n ≡ a → cell_at (slice_set cells a k) n ≡ Set w → (cell_at (slice_set cells a k) n ≡ k) ⊎ (cell_at (slice_set cells a k) n ≡ cell_at cells n) → slice_index m a ≡ w
  new_at n w at e (inl is) = new w (sym is ∙ e)
  new_at n w at e (inr is) = sym (ap (λ z. slice_index m z) at) ∙ h.agrees n w (sym is ∙ e)

passed_holds : (k a : ℕ) (vs : List ℕ) (cells : List Cell) (m : List ℕ) → HasWords m a vs → Holds a cells m → Holds (a + k) (passed k a vs cells) m
passed_holds zero a vs cells m w h = let le : a ≤ a + 0 = omega arith in holds_up a (a + 0) cells m le h
passed_holds (suc k) a [] cells m w h =
    let e : a + 1 + k ≡ a + suc k = omega arith in
    subst (λ z. Holds z (passed k (a + 1) [] (slice_set cells a Unset)) m) e
    (passed_holds k (a + 1) [] (slice_set cells a Unset) m tt (one_passed a Unset cells m (λ u is. absurd (let f : Unset ≡ Set u = is in cc)) h))
passed_holds (suc k) a (v ∷ vs) cells m w h =
    let e : a + 1 + k ≡ a + suc k = omega arith in
    subst (λ z. Holds z (passed k (a + 1) vs (slice_set cells a (Set v))) m) e
    (passed_holds k (a + 1) vs (slice_set cells a (Set v)) m w.1 (one_passed a (Set v) cells m (λ u is. w.0 ∙ set_is v u (Set v) refl is) h))

-- an instruction that also changes the store and the frame
moved : {K : Moment} {most : ℕ} {O : Moment} {x : State} {t top top1 p a b c g a1 b1 c1 p1 : ℕ} {m m1 : List ℕ} {st : outcomes.State} → Reached K most O x t top p a b c g m st → step (machine a b c p m st.streams) ≡ running (machine a1 b1 c1 p1 m1 st.streams)
    → Holds top1 st.cells m1 → Later O (moment top1 st.cells m1) → Reached K most O x t top1 p1 a1 b1 c1 (g + 1) m1 st
unfolding runs
moved {x = x} r e holds later = record {
  leads = record { by = λ k. let h = r.leads.by (suc k) in (h.0, omega (arith, h.1), h.2 ∙ ap (λ (z : Effect). elim z.1 [ None ↦ runs k z.0 | Some end ↦ ended z.0 end ]) e) };
  holds = holds;
  few = r.few;
  are_words = r.are_words;
  since = r.since;
  later = later;
}

-- the links that a call stores in the new frame
abbrev linked : (f p c : ℕ) → List ℕ → List ℕ
linked f p c m = slice_set (slice_set m f p) (f + 1) c

linked_same : (f p c a : ℕ) (m : List ℕ) → a < f → slice_index (linked f p c m) a ≡ slice_index m a
linked_same f p c a m lt = get_or-set_other (slice_set m f p) (f + 1) a c 0 (λ e. omega arith) ∙ get_or-set_other m f a p 0 (λ e. omega arith)

calls_at : {address : ℕ → ℕ} {S K : Moment} {most : ℕ} {O : Moment} {x : State} {t p s v b c g end : ℕ} {m : List ℕ} {st : outcomes.State} → Later S K → Stands address S c (call_item s ∷ []) end → p + s + 2 ≤ 65536 → Reached K most O x t (p + s) p v b c g m st
    → Reached K most O x t (p + s) (p + s) v b v (g + 1) (linked (p + s) p end m) st
calls_at {O = O} {p = p} {s = s} {v = v} {b = b} {c = c} {end = end} {m = m} {st = st} old stands room r =
    let f = p + s in
    let over : c + operation_size bases.Number s ≡ end = omega (arith, stands.ends) in
    let frame : (p + s) % 65536 ≡ f = omega arith in
    let after : next f ≡ f + 1 = omega arith in
    let d0 = r.holds.above f (omega arith) in
    let d1 = r.holds.above (f + 1) (omega arith) in
    moved r
    (acts old functions.Call false bases.Number s [] stands r
    ∙ ap (λ z. running (machine v b v z (slice_set (slice_set m z p) (next z) (c + operation_size bases.Number s)) st.streams)) frame
    ∙ ap (λ z. running (machine v b v f (slice_set (slice_set m f p) z (c + operation_size bases.Number s)) st.streams)) after
    ∙ ap (λ z. running (machine v b v f (linked f p z m) st.streams)) over)
    (holds_held f (f + 1) end st.cells (slice_set m f p) (holds_held f f p st.cells m r.holds d0) d1)
    (record {
      low = r.later.low;
      keeps = record {
        dead = r.later.keeps.dead;
        same = λ a lt d. linked_same f p end a m (omega (arith, r.later.low)) ∙ r.later.keeps.same a lt d;
        unset = λ a lt u. let k = r.later.keeps.unset a lt u in (k.0, linked_same f p end a m (omega (arith, r.later.low)) ∙ k.1);
      };
    })

-- arguments are neither below a frame nor its links
passed_later : (M : Moment) (f top k : ℕ) (vs : List ℕ) (cells : List Cell) (m : List ℕ) → f + 2 ≤ top → Later M (moment f cells m) → Later M (moment top (passed k (f + 2) vs cells) m)
passed_later M f top k vs cells m le l = record {
  low = omega (arith, l.low);
  keeps = record {
    dead = λ a lt d. passed_outside k (f + 2) vs cells a (inl (omega (arith, l.low))) ∙ l.keeps.dead a lt d;
    same = l.keeps.same;
    unset = λ a lt u. l.keeps.unset a lt (sym (passed_outside k (f + 2) vs cells a (inl (omega (arith, l.low)))) ∙ u);
  };
}

-- the links of a frame are dead
links_dead : (f k : ℕ) (vs : List ℕ) (cells : List Cell) (m : List ℕ) → Holds f cells m → (a : ℕ) → f ≤ a → a < f + 2 → cell_at (passed k (f + 2) vs cells) a ≡ Dead
links_dead f k vs cells m h a lo hi = passed_outside k (f + 2) vs cells a (inl hi) ∙ h.above a lo

-- the cells of a frame are freed
given_back : (f k : ℕ) (cells0 cells : List Cell) (m0 m : List ℕ) → ((a : ℕ) → f ≤ a → a < f + 2 → cell_at cells0 a ≡ Dead) → Keeps (f + 2) cells0 m0 cells m → Holds (f + 2 + k) cells m → Holds f (closed k (f + 2) cells) m
given_back f k cells0 cells m0 m links keeps h =
    let g = closed_holds k (f + 2) cells m h in
    record {
      agrees = g.agrees;
      above = λ a ge. ⊎_elim (λ lt. ⊎_elim (λ e. e) (λ e. e ∙ keeps.dead a lt (links a ge lt)) (filled_either k (f + 2) Dead cells a)) (λ high. g.above a high) (cases_lt a (f + 2));
      whole = g.whole;
      spans = g.spans;
    }

-- `X4`: back after the call, in the caller's frame
returns_at : {address : ℕ → ℕ} {S K : Moment} {most : ℕ} {O : Moment} {x : State} {t top f a b c g last p end : ℕ} {m : List ℕ} {st : outcomes.State} → Later S K → Stands address S c (execute 4 ∷ []) last → Reached K most O x t top f a b c g m st
    → f + 2 ≤ 65536 → slice_index m f ≡ p → slice_index m (f + 1) ≡ end → step (machine a b c f m st.streams) ≡ running (machine a b end p m st.streams)
returns_at {f = f} {a = a} {b = b} {p = p} {end = end} {m = m} {st = st} old s r room ep ec =
    let after : next f ≡ f + 1 = omega arith in
    acts old functions.Execute false bases.Number 4 [] s r
    ∙ ap (λ z. running (machine a b (slice_index m z) (slice_index m f) m st.streams)) after
    ∙ ap (λ z. running (machine a b z (slice_index m f) m st.streams)) ec
    ∙ ap (λ z. running (machine a b end z m st.streams)) ep

module _ (address : ℕ → ℕ) (S K : Moment) (old : Later S K) (most n : ℕ) (O : Moment) (x : State) (t p f end k limit limit1 : ℕ) (vs : List ℕ) (cells : List Cell) (m : List ℕ) (le : limit1 ≤ limit) (room : f + 2 ≤ 65536) (fewer : n ≤ most)
    (holds : Holds f cells (linked f p end m)) (whole : length m ≡ 65536) (since : Later K O) (later : Later O (moment f cells (linked f p end m))) where
  -- the moment in the frame, with the arguments
  abbrev pub framed : Moment
  framed = moment (f + 2) (passed k (f + 2) vs cells) (linked f p end m)

  leaves : (own : ℕ → ℕ) (o : Outcome ℕ) → Lands K n framed x t (f + (2 + k)) f limit1 (return_goal own S) o → Lands K most O x t f p limit (value_goal end) (left k (f + 2) o)
  leaves own (Done v st) l =
      let r = l.5 in
      let m1 = l.4 in
      let links = links_dead f k vs cells (linked f p end m) holds in
      let same0 = r.later.keeps.same f (omega arith) (links f (omega arith) (omega arith)) in
      let same1 = r.later.keeps.same (f + 1) (omega arith) (links (f + 1) (omega arith) (omega arith)) in
      let is_p : slice_index (linked f p end m) f ≡ p = get_or-set_other (slice_set m f p) (f + 1) f end 0 (λ e. omega arith) ∙ get_or-set_same m f p 0 (omega (arith, whole)) in
      let is_c : slice_index (linked f p end m) (f + 1) ≡ end = get_or-set_same (slice_set m f p) (f + 1) end 0 (let e = length-set m f p in omega (arith, e, whole)) in
      let at_frame : Later O framed = passed_later O f (f + 2) k vs cells (linked f p end m) (omega arith) later in
      let now = later_then at_frame r.later in
      let same_top : f + (2 + k) ≡ f + 2 + k = omega arith in
      let h1 = subst (λ z. Holds z st.cells m1) same_top r.holds in
      let back = moved r (returns_at old l.7.2 r room (same0 ∙ is_p) (same1 ∙ is_c)) r.holds r.later in (
        l.0,
        l.1,
        end,
        l.3 + 1,
        m1,
        record {
          few = omega (arith, r.few);
          are_words = r.are_words;
          leads = back.leads;
          holds = given_back f k (passed k (f + 2) vs cells) st.cells (linked f p end m) m1 links r.later.keeps h1;
          since = since;
          later = record {
            low = later.low;
            keeps = record {
              dead = λ a lt d. ⊎_elim (λ e. e) (λ e. e ∙ now.keeps.dead a lt d) (filled_either k (f + 2) Dead st.cells a);
              same = now.keeps.same;
              unset = λ a lt u. now.keeps.unset a lt (sym (filled_outside k (f + 2) Dead st.cells a (inl (omega (arith, later.low)))) ∙ u);
            };
          };
        },
        omega (arith, l.6),
        (l.7.0, refl),
      )
  leaves own (Ended e streams) l = l
  leaves own (Going streams) l = l
  leaves own Wild l = tt

nat_le_is : (a b : ℕ) → nat_le a b ≡ true → a ≤ b
nat_le_is a b e = grind (arith, nat_tests)

-- a call with a new frame, if what is done in it reaches its return
pub framed_lands : (S : Moment) (n v k size : ℕ) (run : ℕ → Run ℕ) (own : ℕ → ℕ) → ((K : Moment) → Later S K → (p limit a : ℕ) → p + size ≤ 65536 → Does K n (p + (2 + k)) p limit a v (return_goal own S) (run p))
    → CallLands S (suc n) v (λ vs f. in_frame f size (with_arguments k (f + 2) vs (run f)))
framed_lands S n v k size run own body = record {
  from = λ K old address O x t p s b c end limit vs m st at args room le here.
      by_room K old address O x t p s b c end limit vs m st at args room le here (nat_le (p + s + size) 65536) refl;
} where
  by_room : (K : Moment) → Later S K → (address : ℕ → ℕ) (O : Moment) (x : State) (t p s b c end limit : ℕ) (vs m : List ℕ) (st : outcomes.State) → Stands address S c (call_item s ∷ []) end → HasWords m (p + s + 2) vs → p + s + 2 + length vs ≤ 65536 → st.turns ≤ limit → Reached K (suc n) O x t (p + s) p v b c 0 m st
      → (fits : Bool) → nat_le (p + s + size) 65536 ≡ fits
      → Lands K (suc n) O x t (p + s) p limit (value_goal end) (choose fits (in_turn (with_arguments k (p + s + 2) vs (run (p + s)))) wild st)
  by_room K old address O x t p s b c end limit vs m st at args room le here false e = tt
  by_room K old address O x t p s b c end limit vs m st at args room le here true e =
      let f = p + s in
      let fits : f + size ≤ 65536 = nat_le_is (f + size) 65536 e in
      let links : f + 2 ≤ 65536 = omega (arith, room) in
      let whole = with_arguments k (f + 2) vs (run f) in
      let self : st.turns ≤ st.turns = omega arith in
      let one : 1 ≤ 0 + 1 = omega arith in
      let m1 = linked f p end m in
      lands_map K (suc n) O x t f p st.turns limit (value_goal end) (value_goal end) (in_turn whole st) le (λ w a1 b1 c1 g turns h. h)
      (turn f p st.turns (value_goal end) whole one (calls_at old at links here) self (λ i lt there.
      let cells1 = passed k (f + 2) vs st.cells in
      let same : i ≤ i = omega arith in
      let top_le : f + 2 ≤ f + (2 + k) = omega arith in
      let sum : f + 2 + k ≡ f + (2 + k) = omega arith in
      let at_f : Later K (moment f st.cells m1) = later_then there.since there.later in
      let M = moment (f + 2) cells1 m1 in
      let args1 = words_held (slice_set m f p) (f + 1) end (f + 2) vs (omega arith) (words_held m f p (f + 2) vs (omega arith) args) in
      let holds2 = holds_up f (f + 2) st.cells m1 (omega arith) there.holds in
      leaves address S K old (suc n) n O x t p f end k st.turns i vs st.cells m (omega arith) links (omega arith) there.holds here.holds.whole there.since there.later own (run f (record st { turns = i; cells = cells1 }))
      ((body K old f i v fits).from M x t b m1 (record st { turns = i; cells = cells1 }) same
      (record {
        few = omega (arith, here.few);
        are_words = here.are_words;
        leads = there.leads;
        holds = subst (λ z. Holds z cells1 m1) sum (passed_holds k (f + 2) vs st.cells m1 args1 holds2);
        since = passed_later K f (f + 2) k vs st.cells m1 (omega arith) at_f;
        later = record { low = top_le; keeps = record { dead = λ a lt d. d; same = λ a lt d. refl; unset = λ a lt u. (u, refl) } };
      }))))

module _ (S : Moment) (program : List Placed) (stands : ProgramStands S program) (library : LibraryLands S program) where
  -- a call of a routine, from calls that nest less deeply
  routine_lands : (n v : ℕ) (section : Placed) (r : Routine) → RoutineStands S section r v → ((w : ℕ) → CallLands S n w (calls program n w)) → CallLands S (suc n) v (λ vs f. entered (calls program n) (entered_of (Some (OfSection section r))) vs f)
  routine_lands n v section r own ih =
      let k = r.parameters in
      let C = context_in section (calls program n) in
      let V = cells_of_valofs 0 section.core.valofs in
      let levels = level_of section.core.valofs in
      let bodies = bodies_from (λ i. i) own.over 0 section.core.valofs in
      let right = own.right.from n C V bodies (λ l. refl) ih (valofs_land section.address levels S n own.over own.right section.address (λ l. refl) (calls program n) ih section.core.valofs 0
      (λ i. let index : 0 + i ≡ i = omega arith in ap levels index) own.valofs) in
      record {
        from = (framed_lands S n v k (frame_size section.core.valofs r) (λ f. body_value C r.body f (level_after_parameters k)) section.address
            (λ K old p limit a fits. body_lands C section.address levels V S K old n (own.over bodies) right r.body p (level_after_parameters k) own.first v own.end own.stands (omega (arith, fits)) own.levelled limit a)).from;
      }

  pub calls_work : (n v : ℕ) → CallLands S n v (calls program n v)
  calls_work zero v = record { from = λ K old address O x t p s b c end limit vs m st at args room le here. let none : st.turns < 0 = here.few in absurd (omega arith) }
  calls_work (suc n) v = record { from = λ K old address O x t p s b c end limit vs m st at args room le here. (by_callee (callee program v) refl (calls_work n)).from K old address O x t p s b c end limit vs m st at args room le here } where
    by_callee : (q : Option Callee) → callee program v ≡ q → ((w : ℕ) → CallLands S n w (calls program n w)) → CallLands S (suc n) v (λ vs f. entered (calls program n) (entered_of q) vs f)
    by_callee None e ih = record { from = λ K old address O x t p s b c end limit vs m st at args room le here. tt }
    by_callee (Some (OfSection section r)) e ih = routine_lands n v section r (stands v section r e) ih
    by_callee (Some (OfLibrary q)) e ih = record { from = (library (suc n) v q e).from }

pub calls_land : CallsLand
calls_land S program stands library n v = calls_work S program stands library n v
