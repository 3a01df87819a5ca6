-- The rules for values, except conditions and calls.
use Rattle.std.proofs.Common.{◌≡◌, ℕ, ◌+◌, ◌-◌, ◌%◌, ◌<◌, ◌≤◌, ◌||◌, List, [], ◌∷◌, ◌++◌, Bool, true, false, not, Some, None, refl, sym, ap, ◌∙◌, subst, arith}
use Rattle.std.specs.Prelude.{slice_index, cond, IsTrue}
use Rattle.std.proofs.lemmas.Bool.{eqb-true}
use Rattle.bc_word.specs.declared.operator.Op.{Op}
use Rattle.bc_word.specs.declared.operator.Op.TheVariants as operators
use Rattle.bc_word.specs.Words.{value_of, negated, complemented}
use Rattle.bc_text_items.specs.declared.item.Item.{Item}
use Rattle.bc_text_items.specs.declared.item.Item.TheVariants.{Operation}
use Rattle.bc_text_items.specs.declared.item.Base.TheVariants as bases
use Rattle.bc_text_items.specs.declared.item.Function.TheVariants as functions
use Rattle.bc_machine_defs.specs.State.{State}
use Rattle.bc_core.specs.declared.operands.Operand.{Operand}
use Rattle.bc_core.specs.Tree.{Exp, Num, Load, Neg, Not, Bin}
use Rattle.bc_core.specs.Operand.{operand_of}
use Rattle.bc_core.specs.Layout.{Bodies, cells_of_exp}
use Rattle.bc_core.specs.Store.{Cell, Dead, Unset, Set, cell_at}
use Rattle.bc_core.specs.Outcome as outcomes
use Rattle.bc_core.specs.Outcome.{Outcome, Done, Ended, Going, Wild, Run, then_do, both, content_of_cell, read}
use Rattle.bc_core.specs.Value.{Context, has_call, given, value}
use Rattle.bc_rules_defs.specs.declared.rule.Mode.{Mode}
use Rattle.bc_rules_defs.specs.declared.rule.Mode.TheVariants.{Any, Push}
use Rattle.bc_rules_defs.specs.declared.piece.Piece.{Piece}
use Rattle.bc_rules_defs.specs.Free.{are_free, is_zero, without_zero}
use Rattle.bc_rules_defs.specs.Piece.{L, A, A_number, X}
use Rattle.bc_gen_defs.specs.Bodies.{BodiesCode}
use Rattle.bc_right.specs.steps.Landing.{Moment, Later, Stands, Reached, Lands, Does}
use Rattle.bc_right.specs.steps.Items as code
use Rattle.bc_right.proofs.step_lemmas.Exchange.{sides_exchange}
use Rattle.bc_right.proofs.step_lemmas.Operands.{Reads, operand_reads}
use Rattle.bc_right.proofs.step_lemmas.Steps.{at_end, after_item, acts, has_now, went, at_place, lands_done, then_raw, does_map}
use Rattle.bc_right.proofs.rule_lemmas.Filling.{Closed, closed_both, filled, filled_parts}
use Rattle.bc_right.proofs.rule_lemmas.Stretches.{Kept, gets_goal, registers_small, does_lower, both_raw, does_unless_wild, operand_then, stands_on, added, loaded, negates, operand_small}

module _ (C : Context) (address levels : ℕ → ℕ) (V : Bodies) (S : Moment) (most : ℕ) (bodies : BodiesCode Item) where
  -- wherever these pieces are placed, with their bodies filled in, they give the value of the expression at level s
  pub record Gives (m : Mode) (e : Exp) (s : ℕ) (ps : List Piece) : Type 0 where
    pub closed : Closed ps
    pub does : (K : Moment) → Later S K → (p a c end limit g : ℕ) → Stands address S c (filled levels bodies ps g) end → p + cells_of_exp V e s ≤ 65536
        → Does K most (p + s) p limit a c (gets_goal m a end) (value C e p s)

module _ (C : Context) (address levels : ℕ → ℕ) (V : Bodies) (S : Moment) (most : ℕ) (bodies : BodiesCode Item) (places : (l : ℕ) → address l ≡ C.place l) where
  abbrev G : Mode → Exp → ℕ → List Piece → Type 0
  G = Gives C address levels V S most bodies

  pub v0_gives : {e : Exp} {s : ℕ} {ps : List Piece} → G Push e s ps → G Any e s ps
  v0_gives {e = e} {s = s} h = record {
    closed = h.closed;
    does = λ K old p a c end limit g st room. does_map (gets_goal Push a end) (gets_goal Any a end) (value C e p s) (λ v a1 b1 c1 g1 turns w. (w.0, w.1, tt)) (h.does K old p a c end limit g st room);
  }

  pub v1_gives : {e : Exp} {o : Operand} → operand_of e ≡ Some o → (s : ℕ) → G Push e s (L o ∷ [])
  v1_gives {e = e} {o = o} is s = record { closed = tt; does = λ K old p a c end limit g stands room. record { from = λ O x t b m st le here. on K old p a c end limit (stands_on functions.Load o [] stands) O x t b m st le here (value C e p s st) (operand_reads C address places e o is p s (p + s) m st here.holds) } } where
    on : (K : Moment) → Later S K → (p a c end limit : ℕ) → Stands address S c (code.with_operand functions.Load o ∷ []) end → (O : Moment) (x : State) (t b : ℕ) (m : List ℕ) (st : outcomes.State) → st.turns ≤ limit → Reached K most O x t (p + s) p a b c 0 m st
        → (r : Outcome ℕ) → Reads address o p m st r → Lands K most O x t (p + s) p limit (gets_goal Push a end) r
    on K old p a c end limit stands O x t b m st le here (Done w st1) h =
        subst (λ z. Lands K most O x t (p + s) p limit (gets_goal Push a end) (Done w z)) h.0
        (lands_done limit (gets_goal Push a end) w (at_place (at_end (after_item stands)) (loaded (not o.direct) o.base o.n w [] old stands h.1 here)) le (refl, refl, refl))
    on K old p a c end limit stands O x t b m st le here (Ended e1 streams) h = absurd h
    on K old p a c end limit stands O x t b m st le here (Going streams) h = absurd h
    on K old p a c end limit stands O x t b m st le here Wild h = tt

  -- `X1`
  content_lands : {K : Moment} {O : Moment} {x : State} {t top p a b c g end : ℕ} {m : List ℕ} {st : outcomes.State} (q : Mode) (limit was v : ℕ) (cell : Cell) → Later S K → Stands address S c (code.execute 1 ∷ []) end → a ≡ v → Kept q was b → cell_at st.cells v ≡ cell → Reached K most O x t top p a b c g m st → st.turns ≤ limit
      → Lands K most O x t top p limit (gets_goal q was end) (content_of_cell cell st)
  content_lands q limit was v Dead old s e k is r le = tt
  content_lands q limit was v Unset old s e k is r le = tt
  content_lands {end = end} {m = m} q limit was v (Set u) old s e k is r le =
      lands_done limit (gets_goal q was end) u (at_place (at_end (after_item s)) (went r (acts old functions.Execute false bases.Number 1 [] s r))) le (ap (λ z. slice_index m z) e ∙ r.holds.agrees v u is, refl, k)

  pub v2_gives : {q : Mode} {e : Exp} {s : ℕ} {ps : List Piece} → G q e s ps → G q (Load e) s (ps ++ X 1 ∷ [])
  v2_gives {q = q} {e = e} {s = s} {ps = ps} h = record {
    closed = closed_both ps (X 1 ∷ []) h.closed tt;
    does = λ K old p a c end limit g st room.
        let u = filled_parts levels bodies ps (X 1 ∷ []) g h.closed st in
        then_raw (gets_goal q a u.middle) (gets_goal q a end) (value C e p s) read (h.does K old p a c u.middle limit g u.front room)
        (λ O x t v a1 b1 c1 g1 m1 st1 r le w. content_lands q limit a v (cell_at st1.cells v) old u.back w.0 w.2 refl (at_place w.1 r) le);
  }

  pub v3_gives : {q : Mode} {e : Exp} {s : ℕ} {ps : List Piece} → G q e s ps → G q (Neg e) s (ps ++ X 2 ∷ [])
  v3_gives {q = q} {e = e} {s = s} {ps = ps} h = record {
    closed = closed_both ps (X 2 ∷ []) h.closed tt;
    does = λ K old p a c end limit g st room.
        let u = filled_parts levels bodies ps (X 2 ∷ []) g h.closed st in
        then_raw (gets_goal q a u.middle) (gets_goal q a end) (value C e p s) (λ v. Done (negated v)) (h.does K old p a c u.middle limit g u.front room)
        (λ O x t v a1 b1 c1 g1 m1 st1 r le w. lands_done limit (gets_goal q a end) (negated v) (at_place (at_end (after_item u.back)) (negates [] old u.back (at_place w.1 r))) le (ap (λ z. negated z) w.0, refl, w.2));
  }

  pub v4_gives : {q : Mode} {e : Exp} {s : ℕ} {ps : List Piece} → G q e s ps → G q (Not e) s (ps ++ X 3 ∷ [])
  v4_gives {q = q} {e = e} {s = s} {ps = ps} h = record {
    closed = closed_both ps (X 3 ∷ []) h.closed tt;
    does = λ K old p a c end limit g st room.
        let u = filled_parts levels bodies ps (X 3 ∷ []) g h.closed st in
        then_raw (gets_goal q a u.middle) (gets_goal q a end) (value C e p s) (λ v. Done (complemented v)) (h.does K old p a c u.middle limit g u.front room)
        (λ O x t v a1 b1 c1 g1 m1 st1 r le w.
        let here = at_place w.1 r in
        lands_done limit (gets_goal q a end) (complemented v) (at_place (at_end (after_item u.back)) (went here (acts old functions.Execute false bases.Number 3 [] u.back here))) le (ap (λ z. complemented z) w.0, refl, w.2));
  }

  -- both operands are one level higher
  abbrev sum : ℕ → ℕ → Run ℕ
  sum v w = given (value_of operators.Add v w)

  abbrev difference : ℕ → ℕ → Run ℕ
  difference v w = given (value_of operators.Subtract v w)

  pub v6_gives : {l r : Exp} {q : Mode} {o : Operand} {s : ℕ} {ps : List Piece} → operand_of r ≡ Some o → G q l (s + 1) ps → G q (Bin operators.Add l r) s (ps ++ A o ∷ [])
  v6_gives {l = l} {r = r} {q = q} {o = o} {s = s} {ps = ps} is h = record {
    closed = closed_both ps (A o ∷ []) h.closed tt;
    does = λ K old p a c end limit g st room.
        let u = filled_parts levels bodies ps (A o ∷ []) g h.closed st in
        does_lower (p + s) (p + (s + 1)) (gets_goal q a end) (value C (Bin operators.Add l r) p s) (omega arith)
        (both_raw (gets_goal q a u.middle) (gets_goal q a end) (has_call l || has_call r) (value C l p (s + 1)) (value C r p (s + 1)) sum (h.does K old p a c u.middle limit g u.front (omega (arith, room)))
        (λ O x t v a1 b1 c1 g1 m1 st1 here le w.
        operand_then C address places r o is (s + 1) (p + (s + 1)) limit (gets_goal q a end) (sum v) here
        (λ n e. lands_done limit (gets_goal q a end) ((v + n) % 65536) (let on = stands_on functions.Add o [] u.back in at_place (at_end (after_item on)) (added (not o.direct) o.base o.n n [] old on e (at_place w.1 here))) le (ap (λ z. (z + n) % 65536) w.0, refl, w.2))));
  }

  pub v7_gives : {l r : Exp} {q : Mode} {o : Operand} {s : ℕ} {ps : List Piece} → operand_of l ≡ Some o → IsTrue (are_free l r) → G q r (s + 1) ps → G q (Bin operators.Add l r) s (ps ++ A o ∷ [])
  v7_gives {l = l} {r = r} {q = q} {o = o} {s = s} {ps = ps} is free h = record {
    closed = closed_both ps (A o ∷ []) h.closed tt;
    does = λ K old p a c end limit g st room.
        let u = filled_parts levels bodies ps (A o ∷ []) g h.closed st in
        let other : Run ℕ = then_do (value C r p (s + 1)) (λ w. then_do (value C l p (s + 1)) (λ v. sum v w)) in
        does_lower (p + s) (p + (s + 1)) (gets_goal q a end) (value C (Bin operators.Add l r) p s) (omega arith)
        (does_unless_wild (gets_goal q a end) (value C (Bin operators.Add l r) p s) other (λ st1. sides_exchange C l r sum free p (s + 1) st1)
        (then_raw (gets_goal q a u.middle) (gets_goal q a end) (value C r p (s + 1)) (λ w. then_do (value C l p (s + 1)) (λ v. sum v w)) (h.does K old p a c u.middle limit g u.front (omega (arith, room)))
        (λ O x t v a1 b1 c1 g1 m1 st1 here le w.
        operand_then C address places l o is (s + 1) (p + (s + 1)) limit (gets_goal q a end) (λ n. sum n v) here
        (λ n e. lands_done limit (gets_goal q a end) ((n + v) % 65536) (let on = stands_on functions.Add o [] u.back in at_place (at_end (after_item on)) (added (not o.direct) o.base o.n n [] old on e (at_place w.1 here))) le (omega (arith, w.0), refl, w.2)))));
  }

  -- a right operand 0 can be dropped
  right_zero : {l : Exp} {q : Mode} {s : ℕ} {ps : List Piece} (op : Op) → ((v : ℕ) → v < 65536 → value_of op v 0 ≡ Some v) → G q l (s + 1) ps → G q (Bin op l (Num 0)) s ps
  right_zero {l = l} {q = q} {s = s} {ps = ps} op same h = record {
    closed = h.closed;
    does = λ K old p a c end limit g st room.
        does_lower (p + s) (p + (s + 1)) (gets_goal q a end) (value C (Bin op l (Num 0)) p s) (omega arith)
        (both_raw (gets_goal q a end) (gets_goal q a end) (has_call l || false) (value C l p (s + 1)) (Done 0) (λ v w. given (value_of op v w)) (h.does K old p a c end limit g st (omega (arith, room)))
        (λ O x t v a1 b1 c1 g1 m1 st1 here le w.
        let small : v < 65536 = let k = registers_small here in omega (arith, k.a, w.0) in
        subst (λ z. Lands K most O x t (p + (s + 1)) p limit (gets_goal q a end) (given z st1)) (sym (same v small)) (lands_done limit (gets_goal q a end) v here le w)));
  }

  left_zero : {r : Exp} {q : Mode} {s : ℕ} {ps : List Piece} → G q r (s + 1) ps → G q (Bin operators.Add (Num 0) r) s ps
  left_zero {r = r} {q = q} {s = s} {ps = ps} h = record {
    closed = h.closed;
    does = λ K old p a c end limit g st room.
        let rest : ℕ → Run ℕ = λ w. sum 0 w in
        let d = then_raw (gets_goal q a end) (gets_goal q a end) (value C r p (s + 1)) rest (h.does K old p a c end limit g st (omega (arith, room)))
        (λ O x t v a1 b1 c1 g1 m1 st1 here le w.
        let small : v < 65536 = let k = registers_small here in omega (arith, k.a, w.0) in
        let same : (0 + v) % 65536 ≡ v = omega arith in
        subst (λ z. Lands K most O x t (p + (s + 1)) p limit (gets_goal q a end) (Done z st1)) (sym same) (lands_done limit (gets_goal q a end) v here le w)) in
        does_lower (p + s) (p + (s + 1)) (gets_goal q a end) (value C (Bin operators.Add (Num 0) r) p s) (omega arith) (record { from = d.from });
  }

  zero_is : (e : Exp) → is_zero e ≡ true → e ≡ Num 0
  zero_is (Num n) h = ap (λ z. Num z) (eqb-true n 0 h)
  zero_is _ h = absurd (let f : false ≡ true = h in cc)

  some_is : (a b : Exp) → Some a ≡ Some b → a ≡ b
  some_is a b e = cc

  beside : {l r e : Exp} {q : Mode} {s : ℕ} {ps : List Piece} (here there : Bool) → is_zero r ≡ here → is_zero l ≡ there → cond here (Some l) (cond there (Some r) None) ≡ Some e → G q e (s + 1) ps → G q (Bin operators.Add l r) s ps
  beside {l = l} {r = r} {e = e} {q = q} {s = s} {ps = ps} true there hr hl is h =
      subst (λ z. G q (Bin operators.Add l z) s ps) (sym (zero_is r hr)) (right_zero operators.Add (λ v lt. ap Some (let same : (v + 0) % 65536 ≡ v = omega arith in same)) (subst (λ z. G q z (s + 1) ps) (sym (some_is l e is)) h))
  beside {l = l} {r = r} {e = e} {q = q} {s = s} {ps = ps} false true hr hl is h =
      subst (λ z. G q (Bin operators.Add z r) s ps) (sym (zero_is l hl)) (left_zero (subst (λ z. G q z (s + 1) ps) (sym (some_is r e is)) h))
  beside false false hr hl is h = absurd (let f : None ≡ Some _ = is in cc)

  following : {l r e : Exp} {q : Mode} {s : ℕ} {ps : List Piece} (here : Bool) → is_zero r ≡ here → cond here (Some l) None ≡ Some e → G q e (s + 1) ps → G q (Bin operators.Subtract l r) s ps
  following {l = l} {r = r} {e = e} {q = q} {s = s} {ps = ps} true hr is h =
      subst (λ z. G q (Bin operators.Subtract l z) s ps) (sym (zero_is r hr)) (right_zero operators.Subtract (λ v lt. ap Some (let same : (v + (65536 - 0)) % 65536 ≡ v = omega arith in same)) (subst (λ z. G q z (s + 1) ps) (sym (some_is l e is)) h))
  following false hr is h = absurd (let f : None ≡ Some _ = is in cc)

  pub v8_gives : {op : Op} {l r e : Exp} {q : Mode} {s : ℕ} {ps : List Piece} → without_zero op l r ≡ Some e → G q e (s + 1) ps → G q (Bin op l r) s ps
  v8_gives {op = operators.Add} {l = l} {r = r} is h = beside (is_zero r) (is_zero l) refl refl is h
  v8_gives {op = operators.Subtract} {l = l} {r = r} is h = following (is_zero r) refl is h
  v8_gives {op = _} is h = absurd (let f : None ≡ Some _ = is in cc)

  -- `A-n`
  pub v9_gives : {l : Exp} {n : ℕ} {q : Mode} {s : ℕ} {ps : List Piece} → G q l (s + 1) ps → G q (Bin operators.Subtract l (Num n)) s (ps ++ A_number (negated n) ∷ [])
  v9_gives {l = l} {n = n} {q = q} {s = s} {ps = ps} h = record {
    closed = closed_both ps (A_number (negated n) ∷ []) h.closed tt;
    does = λ K old p a c end limit g st room.
        let u = filled_parts levels bodies ps (A_number (negated n) ∷ []) g h.closed st in
        does_lower (p + s) (p + (s + 1)) (gets_goal q a end) (value C (Bin operators.Subtract l (Num n)) p s) (omega arith)
        (both_raw (gets_goal q a u.middle) (gets_goal q a end) (has_call l || false) (value C l p (s + 1)) (Done n) difference (h.does K old p a c u.middle limit g u.front (omega (arith, room)))
        (λ O x t v a1 b1 c1 g1 m1 st1 here le w.
        lands_done limit (gets_goal q a end) ((v + (65536 - n)) % 65536) (at_place (at_end (after_item u.back)) (added false bases.Number (negated n) (negated n) [] old u.back refl (at_place w.1 here))) le (omega (arith, w.0), refl, w.2)));
  }

  twice_negated : (v n : ℕ) → v < 65536 → n < 65536 → negated ((negated v + n) % 65536) ≡ (v + (65536 - n)) % 65536
  twice_negated v n hv hn = omega arith

  from_negated : (v n : ℕ) → v < 65536 → n < 65536 → (negated v + n) % 65536 ≡ (n + (65536 - v)) % 65536
  from_negated v n hv hn = omega arith

  pub v10_gives : {l r : Exp} {q : Mode} {o : Operand} {s : ℕ} {ps : List Piece} → operand_of r ≡ Some o → G q l (s + 1) ps → G q (Bin operators.Subtract l r) s (ps ++ X 2 ∷ A o ∷ X 2 ∷ [])
  v10_gives {l = l} {r = r} {q = q} {o = o} {s = s} {ps = ps} is h = record {
    closed = closed_both ps (X 2 ∷ A o ∷ X 2 ∷ []) h.closed tt;
    does = λ K old p a c end limit g st room.
        let u = filled_parts levels bodies ps (X 2 ∷ A o ∷ X 2 ∷ []) g h.closed st in
        does_lower (p + s) (p + (s + 1)) (gets_goal q a end) (value C (Bin operators.Subtract l r) p s) (omega arith)
        (both_raw (gets_goal q a u.middle) (gets_goal q a end) (has_call l || has_call r) (value C l p (s + 1)) (value C r p (s + 1)) difference (h.does K old p a c u.middle limit g u.front (omega (arith, room)))
        (λ O x t v a1 b1 c1 g1 m1 st1 here le w.
        let r0 = at_place w.1 here in
        let r1 = negates (Operation functions.Add (cond o.direct false true) o.base o.n ∷ code.execute 2 ∷ []) old u.back r0 in
        let s1 = stands_on functions.Add o (code.execute 2 ∷ []) (after_item u.back) in
        operand_then C address places r o is (s + 1) (p + (s + 1)) limit (gets_goal q a end) (difference v) r1
        (λ n e.
        let hn : n < 65536 = subst (λ z. z < 65536) e (operand_small address functions.Add (not o.direct) o.base o.n p (u.middle + 1) m1 (registers_small r1).store (has_now old s1 r1).0) in
        let hv = (registers_small r0).a in
        lands_done limit (gets_goal q a end) ((v + (65536 - n)) % 65536) (at_place (at_end (after_item (after_item s1))) (negates [] old (after_item s1) (added (not o.direct) o.base o.n n (code.execute 2 ∷ []) old s1 e r1))) le
        (twice_negated a1 n hv hn ∙ ap (λ z. (z + (65536 - n)) % 65536) w.0, refl, w.2))));
  }

  pub v11_gives : {l r : Exp} {q : Mode} {o : Operand} {s : ℕ} {ps : List Piece} → operand_of l ≡ Some o → IsTrue (are_free l r) → G q r (s + 1) ps → G q (Bin operators.Subtract l r) s (ps ++ X 2 ∷ A o ∷ [])
  v11_gives {l = l} {r = r} {q = q} {o = o} {s = s} {ps = ps} is free h = record {
    closed = closed_both ps (X 2 ∷ A o ∷ []) h.closed tt;
    does = λ K old p a c end limit g st room.
        let u = filled_parts levels bodies ps (X 2 ∷ A o ∷ []) g h.closed st in
        let other : Run ℕ = then_do (value C r p (s + 1)) (λ w. then_do (value C l p (s + 1)) (λ v. difference v w)) in
        does_lower (p + s) (p + (s + 1)) (gets_goal q a end) (value C (Bin operators.Subtract l r) p s) (omega arith)
        (does_unless_wild (gets_goal q a end) (value C (Bin operators.Subtract l r) p s) other (λ st1. sides_exchange C l r difference free p (s + 1) st1)
        (then_raw (gets_goal q a u.middle) (gets_goal q a end) (value C r p (s + 1)) (λ w. then_do (value C l p (s + 1)) (λ v. difference v w)) (h.does K old p a c u.middle limit g u.front (omega (arith, room)))
        (λ O x t v a1 b1 c1 g1 m1 st1 here le w.
        let r0 = at_place w.1 here in
        let r1 = negates (Operation functions.Add (cond o.direct false true) o.base o.n ∷ []) old u.back r0 in
        let s1 = stands_on functions.Add o [] (after_item u.back) in
        operand_then C address places l o is (s + 1) (p + (s + 1)) limit (gets_goal q a end) (λ n. difference n v) r1
        (λ n e.
        let hn : n < 65536 = subst (λ z. z < 65536) e (operand_small address functions.Add (not o.direct) o.base o.n p (u.middle + 1) m1 (registers_small r1).store (has_now old s1 r1).0) in
        let hv = (registers_small r0).a in
        lands_done limit (gets_goal q a end) ((n + (65536 - v)) % 65536) (at_place (at_end (after_item s1)) (added (not o.direct) o.base o.n n [] old s1 e r1)) le
        (from_negated a1 n hv hn ∙ ap (λ z. (n + (65536 - z)) % 65536) w.0, refl, w.2)))));
  }
