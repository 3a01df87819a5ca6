-- The rules for assignments: one cell is set.
use Rattle.std.proofs.Common.{◌≡◌, ◌⊎◌, ⊎_elim, ℕ, ◌+◌, ◌≤◌, ◌<◌, ◌||◌, List, [], ◌∷◌, ◌++◌, length, true, not, Some, None, refl, sym, ap, ◌∙◌, subst, arith}
use Rattle.std.specs.Prelude.{slice_set, slice_index, cond, IsTrue, is_some}
use Rattle.std.proofs.lemmas.Bool.{cases_lt}
use Rattle.std.proofs.lemmas.List.{get_or-set_same, get_or-set_other, length-set}
use Rattle.std.proofs.Math.ListN.{get_or-eq_default}
use Rattle.bc_text_items.specs.declared.item.Item.{Item}
use Rattle.bc_text_items.specs.declared.item.Base.TheVariants as bases
use Rattle.bc_text_items.specs.declared.item.Function.TheVariants as functions
use Rattle.bc_text_items.specs.Sizes.{operation_size}
use Rattle.bc_machine_defs.specs.State.{State}
use Rattle.bc_machine_defs.specs.Effect.{running}
use Rattle.bc_machine_defs.specs.Step.{step}
use Rattle.bc_core.specs.declared.operands.Operand.{Operand}
use Rattle.bc_core.specs.Tree.{Exp, Frame}
use Rattle.bc_core.specs.Operand.{operand_of, is_operand, direct}
use Rattle.bc_core.specs.Level.{side_level}
use Rattle.bc_core.specs.Layout.{Bodies, cells_of_exp, cells_of_assignment}
use Rattle.bc_core.specs.Store.{Cell, Dead, Unset, Set, cell_at}
use Rattle.bc_core.specs.Outcome as outcomes
use Rattle.bc_core.specs.Outcome.{Run, Done, then_do, both, written, write}
use Rattle.bc_core.specs.Value.{Context, has_call, value, assign}
use Rattle.bc_rules_defs.specs.declared.rule.Mode.TheVariants.{Any}
use Rattle.bc_rules_defs.specs.declared.piece.Piece.{Piece}
use Rattle.bc_rules_defs.specs.Free.{are_free}
use Rattle.bc_rules_defs.specs.Piece.{S, SP, LIP, SIP}
use Rattle.bc_gen_defs.specs.Bodies.{BodiesCode}
use Rattle.bc_right.specs.steps.Leads.{machine}
use Rattle.bc_right.specs.steps.Landing.{Moment, Later, Stands, Reached, Lands, Does}
use Rattle.bc_right.specs.steps.Items.{store_item}
use Rattle.bc_right.specs.steps.Goals.{end_goal}
use Rattle.bc_right.specs.steps.Premises.{StoresLast}
use Rattle.bc_right.proofs.step_lemmas.Cells.{differ, set_is}
use Rattle.bc_right.proofs.step_lemmas.Exchange.{sides_exchange}
use Rattle.bc_right.proofs.step_lemmas.Steps.{at_end, after_item, acts, leads_more, at_place, lands_done, then_raw}
use Rattle.bc_right.proofs.rule_lemmas.Filling.{filled, next, filled_parts}
use Rattle.bc_right.proofs.rule_lemmas.Stretches.{gets_goal, as_value, does_lower, both_raw, does_unless_wild, operand_then, stands_on}
use Rattle.bc_right.proofs.rule_lemmas.Values.{Gives}
use Rattle.bc_right.proofs.rule_lemmas.Operators.{in_order, held_parts, both_held, held_second, at_held}

live_inside : (cells : List Cell) (a : ℕ) → (cell_at cells a ≡ Dead → ⊥) → a < length cells
live_inside cells a live = ⊎_elim (λ lt. lt) (λ ge. absurd (live (get_or-eq_default cells Dead ge))) (cases_lt a (length cells))

set_is_not_unset : (w : ℕ) (k : Cell) → k ≡ Set w → k ≡ Unset → ⊥
set_is_not_unset w k e h = let f : Set w ≡ Unset = sym e ∙ h in cc

-- a live cell is set, in the source and in the store
sets : {K : Moment} {most : ℕ} {O : Moment} {x : State} {t top p a b c g : ℕ} {m : List ℕ} {st : outcomes.State} (at w end limit : ℕ) → (cell_at st.cells at ≡ Dead → ⊥) → a ≡ w → step (machine a b c p m st.streams) ≡ running (machine a b end p (slice_set m at a) st.streams) → Reached K most O x t top p a b c g m st → st.turns ≤ limit
    → Lands K most O x t top p limit (end_goal end) (Done tt (record st { cells = slice_set st.cells at (Set w) }))
sets {O = O} {t = t} {top = top} {a = a} {g = g} {m = m} {st = st} at w end limit live is stored r le =
    let cells = st.cells in
    let inside = live_inside cells at live in
    let away = λ (i : ℕ) (dead : cell_at cells i ≡ Dead) (e : i ≡ at). live (ap (λ z. cell_at cells z) (sym e) ∙ dead) in
    lands_done limit (end_goal end) tt (record {
      few = r.few;
      are_words = r.are_words;
      leads = leads_more t g r.leads stored;
      holds = record {
        agrees = λ i v e. ⊎_elim (λ ne. get_or-set_other m at i a 0 ne ∙ r.holds.agrees i v (sym (get_or-set_other cells at i (Set w) Dead ne) ∙ e))
            (λ here. ap (λ z. slice_index (slice_set m at a) z) here ∙ get_or-set_same m at a 0 (omega (arith, r.holds.whole, r.holds.spans)) ∙ is
            ∙ set_is w v (cell_at (slice_set cells at (Set w)) at) (get_or-set_same cells at (Set w) Dead inside) (ap (λ z. cell_at (slice_set cells at (Set w)) z) (sym here) ∙ e)) (differ i at);
        above = λ i ge. get_or-set_other cells at i (Set w) Dead (away i (r.holds.above i ge)) ∙ r.holds.above i ge;
        whole = length-set m at a ∙ r.holds.whole;
        spans = length-set cells at (Set w) ∙ r.holds.spans;
      };
      since = r.since;
      later = record {
        low = r.later.low;
        keeps = record {
          dead = λ i lt d. let k = r.later.keeps.dead i lt d in get_or-set_other cells at i (Set w) Dead (away i k) ∙ k;
          same = λ i lt d. let k = r.later.keeps.dead i lt d in get_or-set_other m at i a 0 (away i k) ∙ r.later.keeps.same i lt d;
          unset = λ i lt u.
              let other = λ (e : i ≡ at). set_is_not_unset w (cell_at (slice_set cells at (Set w)) at) (get_or-set_same cells at (Set w) Dead inside) (ap (λ z. cell_at (slice_set cells at (Set w)) z) (sym e) ∙ u) in
              let k = r.later.keeps.unset i lt (sym (get_or-set_other cells at i (Set w) Dead other) ∙ u) in
              (k.0, get_or-set_other m at i a 0 other ∙ k.1);
        };
      };
    }) le refl

unset_is_live : (k : Cell) → k ≡ Unset → k ≡ Dead → ⊥
unset_is_live k e h = let f : Unset ≡ Dead = sym e ∙ h in cc

set_is_live : (n : ℕ) (k : Cell) → k ≡ Set n → k ≡ Dead → ⊥
set_is_live n k e h = let f : Set n ≡ Dead = sym e ∙ h in cc

-- A is stored at this address, or the source is wild
writes : {K : Moment} {most : ℕ} {O : Moment} {x : State} {t top p a b c g : ℕ} {m : List ℕ} {st : outcomes.State} (at w end limit : ℕ) → a ≡ w → step (machine a b c p m st.streams) ≡ running (machine a b end p (slice_set m at a) st.streams) → Reached K most O x t top p a b c g m st → st.turns ≤ limit
    → Lands K most O x t top p limit (end_goal end) (write at w st)
writes {K = K} {most = most} {O = O} {x = x} {t = t} {top = top} {p = p} {st = st} at w end limit is stored r le = by_cell (cell_at st.cells at) refl where
  by_cell : (cell : Cell) → cell_at st.cells at ≡ cell → Lands K most O x t top p limit (end_goal end) (written cell at w st)
  by_cell Dead e = tt
  by_cell Unset e = sets at w end limit (unset_is_live (cell_at st.cells at) e) is stored r le
  by_cell (Set n) e = sets at w end limit (set_is_live n (cell_at st.cells at) e) is stored r le

pub side_is : (a : Exp) (o : Operand) (s : ℕ) → operand_of a ≡ Some o → side_level a s ≡ s
side_is a o s e = ap (λ z. cond (is_some z) s (s + 1)) e

pub side_above : (a : Exp) (s : ℕ) → operand_of a ≡ None → side_level a s ≡ s + 1
side_above a s e = ap (λ z. cond (is_some z) s (s + 1)) e

module _ (C : Context) (address levels : ℕ → ℕ) (V : Bodies) (S1 : Moment) (most : ℕ) (bodies : BodiesCode Item) (places : (l : ℕ) → address l ≡ C.place l) where
  -- both sides of an assignment, then the store
  abbrev sided : (v a : Exp) (p s : ℕ) → Run (Unit {0})
  sided v a p s = both (has_call v || has_call a) (value C v p s) (value C a p s) (λ w at. write at w)

  at_side : {K : Moment} {p limit ac c end : ℕ} (v a : Exp) (s s1 : ℕ) → side_level a s ≡ s1 → Does K most (p + s) p limit ac c (end_goal end) (sided v a p s1) → Does K most (p + s) p limit ac c (end_goal end) (assign C v a p s)
  at_side {K = K} {p = p} {limit = limit} {ac = ac} {c = c} {end = end} v a s s1 e d = subst (λ z. Does K most (p + s) p limit ac c (end_goal end) (sided v a p z)) (sym e) d

  pub a1_assigns : {v : Exp} {o : Operand} {s : ℕ} {xs : List Piece} (a : Exp) → operand_of a ≡ Some o → Gives C address levels V S1 most bodies Any v s xs
      → (K : Moment) → Later S1 K → (p ac c end limit g : ℕ) → Stands address S1 c (filled levels bodies (xs ++ S o ∷ []) g) end → p + cells_of_assignment V v a s ≤ 65536
      → Does K most (p + s) p limit ac c (end_goal end) (assign C v a p s)
  a1_assigns {v = v} {o = o} {s = s} {xs = xs} a is h K old p ac c end limit g st room =
      let u = filled_parts levels bodies xs (S o ∷ []) g h.closed st in
      let on = stands_on functions.Store o [] u.back in
      let room_v : p + cells_of_exp V v s ≤ 65536 = subst (λ z. p + cells_of_exp V v z ≤ 65536) (side_is a o s is) (omega (arith, room)) in
      at_side v a s s (side_is a o s is)
      (both_raw (gets_goal Any ac u.middle) (end_goal end) (has_call v || has_call a) (value C v p s) (value C a p s) (λ w at. write at w) (h.does K old p ac c u.middle limit g u.front room_v)
      (λ O x t w a1 b1 c1 g1 m1 st1 r le goes.
      operand_then C address places a o is s (p + s) limit (end_goal end) (λ at. write at w) r
      (λ at e.
      let r1 = at_place goes.1 r in
      writes at w end limit goes.0
      (acts old functions.Store (not o.direct) o.base o.n [] on r1 ∙ ap (λ z. running (machine a1 b1 (u.middle + operation_size o.base o.n) p (slice_set m1 z a1) st1.streams)) e
      ∙ ap (λ z. running (machine a1 b1 z p (slice_set m1 at a1) st1.streams)) (at_end (after_item on))) r1 le)))

  pub a2_assigns : {v a : Exp} {xs ys : List Piece} (s : ℕ) → operand_of a ≡ None → IsTrue (are_free v a) → Gives C address levels V S1 most bodies Any a (s + 1) xs → Gives C address levels V S1 most bodies Any v (s + 1) ys
      → (K : Moment) → Later S1 K → (p ac c end limit g : ℕ) → Stands address S1 c (filled levels bodies (xs ++ SP s ∷ ys ++ SIP s ∷ []) g) end → p + cells_of_assignment V v a s ≤ 65536
      → Does K most (p + s) p limit ac c (end_goal end) (assign C v a p s)
  a2_assigns {v = v} {a = a} {xs = xs} {ys = ys} s none free hx hy K old p ac c end limit g st room =
      let u = in_order C address levels V S1 most bodies xs (SP s ∷ ys) (SIP s ∷ []) g hx.closed hy.closed st in
      let goal = end_goal end in
      let side = side_above a s none in
      let room_a : p + cells_of_exp V a (s + 1) ≤ 65536 = subst (λ z. p + cells_of_exp V a z ≤ 65536) side (omega (arith, room)) in
      let room_v : p + cells_of_exp V v (s + 1) ≤ 65536 = subst (λ z. p + cells_of_exp V v z ≤ 65536) side (omega (arith, room)) in
      let cells : cond (is_operand a) 0 (s + 2) ≡ s + 2 = ap (λ z. cond (is_some z) 0 (s + 2)) none in
      let fits : p + s < 65536 = omega (arith, room, cells) in
      let f : ℕ → ℕ → Run (Unit {0}) = λ at w. write at w in
      at_side v a s (s + 1) side
      (does_unless_wild goal (sided v a p (s + 1)) (then_do (value C a p (s + 1)) (λ at. then_do (value C v p (s + 1)) (λ w. write at w))) (λ st1. sides_exchange C v a (λ w at. write at w) free p (s + 1) st1)
      (then_raw (gets_goal Any ac u.first_end) goal (value C a p (s + 1)) (λ at. then_do (value C v p (s + 1)) (f at))
      (does_lower (p + s) (p + (s + 1)) (gets_goal Any ac u.first_end) (value C a p (s + 1)) (omega arith) (hx.does K old p ac c u.first_end limit g u.first room_a))
      (held_parts C address levels V S1 most bodies f goal ac limit g old fits hy u room_v
      (λ O x t at w b2 g2 m2 st2 r2 le2 is.
      writes at w end limit refl
      (acts old functions.Store true bases.P s [] u.third r2 ∙ ap (λ z. running (machine w b2 (u.second_end + operation_size bases.P s) p (slice_set m2 z w) st2.streams)) (at_held C address levels V S1 most bodies m2 p s at fits is)
      ∙ ap (λ z. running (machine w b2 z p (slice_set m2 at w) st2.streams)) (at_end (after_item u.third))) r2 le2))))

  pub a3_assigns : {v a : Exp} {xs ys : List Piece} (s : ℕ) → operand_of a ≡ None → Gives C address levels V S1 most bodies Any v (s + 1) xs → Gives C address levels V S1 most bodies Any a (s + 1) ys
      → (K : Moment) → Later S1 K → (p ac c end limit g : ℕ) → Stands address S1 c (filled levels bodies (xs ++ SP s ∷ ys ++ SP (s + 1) ∷ LIP s ∷ SIP (s + 1) ∷ []) g) end → p + cells_of_assignment V v a s ≤ 65536
      → Does K most (p + s) p limit ac c (end_goal end) (assign C v a p s)
  a3_assigns {v = v} {a = a} {xs = xs} {ys = ys} s none hx hy K old p ac c end limit g st room =
      let u = in_order C address levels V S1 most bodies xs (SP s ∷ ys) (SP (s + 1) ∷ LIP s ∷ SIP (s + 1) ∷ []) g hx.closed hy.closed st in
      let goal = end_goal end in
      let side = side_above a s none in
      let room_a : p + cells_of_exp V a (s + 1) ≤ 65536 = subst (λ z. p + cells_of_exp V a z ≤ 65536) side (omega (arith, room)) in
      let room_v : p + cells_of_exp V v (s + 1) ≤ 65536 = subst (λ z. p + cells_of_exp V v z ≤ 65536) side (omega (arith, room)) in
      let cells : cond (is_operand a) 0 (s + 2) ≡ s + 2 = ap (λ z. cond (is_some z) 0 (s + 2)) none in
      let fits : p + s < 65536 = omega (arith, room, cells) in
      let fits1 : p + (s + 1) < 65536 = omega (arith, room, cells) in
      let f : ℕ → ℕ → Run (Unit {0}) = λ w at. write at w in
      at_side v a s (s + 1) side
      (both_raw (gets_goal Any ac u.first_end) goal (has_call v || has_call a) (value C v p (s + 1)) (value C a p (s + 1)) f
      (does_lower (p + s) (p + (s + 1)) (gets_goal Any ac u.first_end) (value C v p (s + 1)) (omega arith) (hx.does K old p ac c u.first_end limit g u.first room_v))
      (held_parts C address levels V S1 most bodies f goal ac limit g old fits hy u room_a
      (λ O x t w at b2 g2 m2 st2 r2 le2 is.
      let r3 = both_held C address levels V S1 most bodies s (store_item (s + 1) ∷ []) old fits1 u.third is r2 in
      let m3 = slice_set m2 (p + (s + 1)) at in
      let s3 = after_item (after_item u.third) in
      let c3 = u.second_end + operation_size bases.P (s + 1) + operation_size bases.P s in
      writes at w end limit refl
      (acts old functions.Store true bases.P (s + 1) [] s3 r3
      ∙ ap (λ z. running (machine w at (c3 + operation_size bases.P (s + 1)) p (slice_set m3 z w) st2.streams)) (at_held C address levels V S1 most bodies m3 p (s + 1) at fits1 (held_second C address levels V S1 most bodies m2 p s at fits1 r2.holds.whole))
      ∙ ap (λ z. running (machine w at z p (slice_set m3 at w) st2.streams)) (at_end (after_item s3))) r3 le2)))

  -- a FOR's limit is stored at its offset
  pub limit_stores : {e : Exp} {s k : ℕ} {o : Operand} {xs : List Piece} → operand_of (Frame k) ≡ Some o → Gives C address levels V S1 most bodies Any e s xs
      → (K : Moment) → Later S1 K → (p a c end limit g : ℕ) → Stands address S1 c (filled levels bodies (xs ++ S o ∷ []) g) end → p + cells_of_exp V e s ≤ 65536
      → StoresLast address S1 K most (p + s) p limit a c k end (value C e p s)
  limit_stores {e = e} {s = s} {k = k} {o = o} {xs = xs} is h K old p a c end limit g st room =
      let same : direct bases.P k ≡ o = cc in
      let u = filled_parts levels bodies xs (S o ∷ []) g h.closed st in
      record {
        middle = u.middle;
        gives = as_value Any a u.middle (value C e p s) (h.does K old p a c u.middle limit g u.front room);
        stores = subst (λ z. Stands address S1 u.middle (filled levels bodies (S z ∷ []) (next levels bodies xs g)) end) (sym same) u.back;
      }
