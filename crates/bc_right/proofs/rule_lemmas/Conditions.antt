-- The rules for tests that compare with 0, and for conditions.
use Rattle.std.proofs.Common.{◌≡◌, ℕ, ◌+◌, ◌≤◌, ◌==◌, ◌||◌, List, [], ◌∷◌, ◌++◌, Bool, true, false, not, Some, None, refl, sym, ap, ◌∙◌, subst, arith}
use Rattle.std.specs.Prelude.{cond}
use Rattle.std.proofs.lemmas.Bool.{eqb-true}
use Rattle.bc_word.specs.declared.operator.Op.{Op}
use Rattle.bc_word.specs.declared.operator.Op.TheVariants as operators
use Rattle.bc_word.specs.Words.{value_of, truth as word_of}
use Rattle.bc_text_items.specs.declared.item.Item.{Item}
use Rattle.bc_core.specs.Tree.{Exp, Num, Bin, Cond}
use Rattle.bc_core.specs.Layout.{Bodies, cells_of_exp}
use Rattle.bc_core.specs.Loop.{agrees}
use Rattle.bc_core.specs.Outcome.{Run, Done, then_do, choose, both}
use Rattle.bc_core.specs.Value.{Context, has_call, given, is_true, value, truth}
use Rattle.bc_rules_defs.specs.declared.rule.Mode.TheVariants.{Any}
use Rattle.bc_rules_defs.specs.declared.piece.Piece.{Piece}
use Rattle.bc_rules_defs.specs.Free.{is_zero, beside_zero}
use Rattle.bc_rules_defs.specs.Piece.{J, jump_if, label}
use Rattle.bc_gen_defs.specs.Bodies.{BodiesCode}
use Rattle.bc_right.specs.steps.Landing.{Moment, Later, Stands, Goal, Lands, Does}
use Rattle.bc_right.specs.steps.Items.{JumpAt}
use Rattle.bc_right.specs.steps.Goals.{jumps_to, test_goal}
use Rattle.bc_right.proofs.step_lemmas.Steps.{at_end, at_label, after_item, after_label, jump_first, at_place, jumped, lands_done, then_raw, does_then, does_onto, does_at, does_map}
use Rattle.bc_right.proofs.rule_lemmas.Filling.{Closed, closed_both, filled, next, filled_parts}
use Rattle.bc_right.proofs.rule_lemmas.Stretches.{gets_goal, does_lower, both_raw}
use Rattle.bc_right.proofs.rule_lemmas.Values.{Gives}
use Rattle.bc_right.proofs.rule_lemmas.Tests.{Tests, jumps, gained, flipped_back, word_is_true, closed_jump, jump_stands}

module _ (C : Context) (address levels : ℕ → ℕ) (V : Bodies) (S : Moment) (most : ℕ) (bodies : BodiesCode Item) where
  -- the value of a comparison, which depends only on A
  abbrev compared : (Bool → Bool) → ℕ → Goal ℕ
  compared f end w a b c gain turns = (w ≡ word_of (f (a == 0))) × (c ≡ end)

  right_compared : {l : Exp} {xs : List Piece} (s : ℕ) (op : Op) (f : Bool → Bool) → ((v w : ℕ) → value_of op v w ≡ Some (word_of (f (v == w)))) → Gives C address levels V S most bodies Any l (s + 1) xs
      → (K : Moment) → Later S K → (p a c end limit g : ℕ) → Stands address S c (filled levels bodies xs g) end → p + cells_of_exp V l (s + 1) ≤ 65536
      → Does K most (p + (s + 1)) p limit a c (compared f end) (both (has_call l || false) (value C l p (s + 1)) (Done 0) (λ v w. given (value_of op v w)))
  right_compared {l = l} s op f is h K old p a c end limit g st room =
      both_raw (gets_goal Any a end) (compared f end) (has_call l || false) (value C l p (s + 1)) (Done 0) (λ v w. given (value_of op v w)) (h.does K old p a c end limit g st room)
      (λ O x t v a1 b1 c1 g1 m1 st1 here le w.
      subst (λ z. Lands K most O x t (p + (s + 1)) p limit (compared f end) (given z st1)) (sym (is v 0))
      (lands_done limit (compared f end) (word_of (f (v == 0))) here le (ap (λ z. word_of (f (z == 0))) (sym w.0), w.1)))

  eqb_exchanged : (b a : ℕ) → (b == a) ≡ (a == b)
  eqb_exchanged b a = grind arith

  left_compared : {r : Exp} {xs : List Piece} (s : ℕ) (op : Op) (f : Bool → Bool) → ((v w : ℕ) → value_of op v w ≡ Some (word_of (f (v == w)))) → Gives C address levels V S most bodies Any r (s + 1) xs
      → (K : Moment) → Later S K → (p a c end limit g : ℕ) → Stands address S c (filled levels bodies xs g) end → p + cells_of_exp V r (s + 1) ≤ 65536
      → Does K most (p + (s + 1)) p limit a c (compared f end) (both (has_call r) (Done 0) (value C r p (s + 1)) (λ v w. given (value_of op v w)))
  left_compared {r = r} s op f is h K old p a c end limit g st room =
      let rest : ℕ → Run ℕ = λ w. given (value_of op 0 w) in
      let d = then_raw (gets_goal Any a end) (compared f end) (value C r p (s + 1)) rest (h.does K old p a c end limit g st room)
      (λ O x t v a1 b1 c1 g1 m1 st1 here le w.
      subst (λ z. Lands K most O x t (p + (s + 1)) p limit (compared f end) (given z st1)) (sym (is 0 v))
      (lands_done limit (compared f end) (word_of (f (0 == v))) here le (ap (λ z. word_of (f z)) (eqb_exchanged 0 v) ∙ ap (λ z. word_of (f (z == 0))) (sym w.0), w.1))) in
      record { from = d.from }

  zero_is : (e : Exp) → is_zero e ≡ true → e ≡ Num 0
  zero_is (Num n) h = ap (λ z. Num z) (eqb-true n 0 h)
  zero_is _ h = absurd (let f : false ≡ true = h in cc)

  some_is : (a b : Exp) → Some a ≡ Some b → a ≡ b
  some_is a b e = cc

  -- the code of a comparison, up to its jump
  Compares : (op : Op) (f : Bool → Bool) (l r : Exp) (s : ℕ) (xs : List Piece) → Type 0
  Compares op f l r s xs =
      (K : Moment) → Later S K → (p a c end limit g : ℕ) → Stands address S c (filled levels bodies xs g) end → p + cells_of_exp V (Bin op l r) s ≤ 65536
      → Does K most (p + (s + 1)) p limit a c (compared f end) (both (has_call l || has_call r) (value C l p (s + 1)) (value C r p (s + 1)) (λ v w. given (value_of op v w)))

  compares : {e : Exp} {xs : List Piece} (l r : Exp) (s : ℕ) (op : Op) (f : Bool → Bool) → ((v w : ℕ) → value_of op v w ≡ Some (word_of (f (v == w)))) → (here there : Bool) → is_zero r ≡ here → is_zero l ≡ there → cond here (Some l) (cond there (Some r) None) ≡ Some e
      → Gives C address levels V S most bodies Any e (s + 1) xs → Compares op f l r s xs
  unfolding Compares
  compares {e = e} {xs = xs} l r s op f is true there hr hl one h =
      let k = subst (λ z. Gives C address levels V S most bodies Any z (s + 1) xs) (sym (some_is l e one)) h in
      subst (λ z. Compares op f l z s xs) (sym (zero_is r hr)) (λ K old p a c end limit g st room. right_compared s op f is k K old p a c end limit g st (omega (arith, room)))
  compares {e = e} {xs = xs} l r s op f is false true hr hl one h =
      let k = subst (λ z. Gives C address levels V S most bodies Any z (s + 1) xs) (sym (some_is r e one)) h in
      subst (λ z. Compares op f z r s xs) (sym (zero_is l hl)) (λ K old p a c end limit g st room. left_compared s op f is k K old p a c end limit g st (omega (arith, room)))
  compares l r s op f is false false hr hl one h = absurd (let g : None ≡ Some _ = one in cc)

  closed_compared : {e : Exp} {s : ℕ} {xs : List Piece} (sense : Bool) (target : ℕ) → Gives C address levels V S most bodies Any e s xs → Closed (xs ++ jump_if sense target ∷ [])
  closed_compared {xs = xs} sense target h = closed_both xs (jump_if sense target ∷ []) h.closed (closed_jump sense target)

  -- the jump of a comparison, which depends on A
  compared_jumps : (xs : List Piece) (f : Bool → Bool) (sense by : Bool) (target : ℕ) (run : Run ℕ) → ((zero : Bool) → agrees by (not zero) ≡ agrees sense (f zero)) → Closed xs → (K : Moment) → Later S K → (p s a c end limit g : ℕ) → Stands address S c (filled levels bodies (xs ++ jump_if by target ∷ []) g) end
      → ((mid : ℕ) → Stands address S c (filled levels bodies xs g) mid → Does K most (p + (s + 1)) p limit a c (compared f mid) run)
      → Does K most (p + s) p limit a c (test_goal sense (address target) end) (then_do run (λ v. Done (is_true v)))
  compared_jumps xs f sense by target run same closed K old p s a c end limit g st d =
      let u = filled_parts levels bodies xs (jump_if by target ∷ []) g closed st in
      let goal = test_goal sense (address target) end in
      let back = jump_stands C address levels V S most bodies by target (next levels bodies xs g) u.back in
      does_lower (p + s) (p + (s + 1)) goal (then_do run (λ v. Done (is_true v))) (omega arith)
      (then_raw (compared f u.middle) goal run (λ v. Done (is_true v)) (d u.middle u.front)
      (λ O x t v a1 b1 c1 g1 m1 st1 here le w.
      let zero = a1 == 0 in
      let is : agrees by (not zero) ≡ agrees sense (is_true v) = same zero ∙ ap (λ z. agrees sense z) (sym (word_is_true (f zero))) ∙ ap (λ z. agrees sense (is_true z)) (sym w.0) in
      lands_done limit goal (is_true v) (jumps by zero target refl old back (at_place w.1 here)) le
      (subst (λ z. jumps_to z (address target) end (cond (agrees by (not zero)) (address target) end) (g1 + 1)) is (gained (agrees by (not zero)) (address target) end g1))))

  pub j8_tests : {l r e : Exp} {sense : Bool} {s : ℕ} {xs : List Piece} (target : ℕ) → beside_zero l r ≡ Some e → Gives C address levels V S most bodies Any e (s + 1) xs → Tests C address levels V S most bodies sense (Bin operators.Equal l r) s target (xs ++ jump_if (not sense) target ∷ [])
  unfolding Compares
  j8_tests {l = l} {r = r} {sense = sense} {s = s} {xs = xs} target is h = record {
    closed = closed_compared (not sense) target h;
    does = λ K old p a c end limit g st room.
        let run = both (has_call l || has_call r) (value C l p (s + 1)) (value C r p (s + 1)) (λ v w. given (value_of operators.Equal v w)) in
        compared_jumps xs (λ z. z) sense (not sense) target run (λ zero. flipped_back sense zero) h.closed K old p s a c end limit g st
        (λ mid front. compares l r s operators.Equal (λ z. z) (λ v w. refl) (is_zero r) (is_zero l) refl refl is h K old p a c mid limit g front room);
  }

  pub j9_tests : {l r e : Exp} {sense : Bool} {s : ℕ} {xs : List Piece} (target : ℕ) → beside_zero l r ≡ Some e → Gives C address levels V S most bodies Any e (s + 1) xs → Tests C address levels V S most bodies sense (Bin operators.NotEqual l r) s target (xs ++ jump_if sense target ∷ [])
  unfolding Compares
  j9_tests {l = l} {r = r} {sense = sense} {s = s} {xs = xs} target is h = record {
    closed = closed_compared sense target h;
    does = λ K old p a c end limit g st room.
        let run = both (has_call l || has_call r) (value C l p (s + 1)) (value C r p (s + 1)) (λ v w. given (value_of operators.NotEqual v w)) in
        compared_jumps xs (λ z. not z) sense sense target run (λ zero. refl) h.closed K old p s a c end limit g st
        (λ mid front. compares l r s operators.NotEqual (λ z. not z) (λ v w. refl) (is_zero r) (is_zero l) refl refl is h K old p a c mid limit g front room);
  }

  -- a condition: the test jumps past the first part, which ends with a jump past the second
  record InThree (c l1 l2 : ℕ) (cs xs ys : List Piece) (g end : ℕ) : Type 0 where
    tested : ℕ
    first_end : ℕ
    second : ℕ
    second_end : ℕ
    test : Stands address S c (filled levels bodies cs g) tested
    front : Stands address S tested (filled levels bodies xs (next levels bodies cs g)) first_end
    jump_on : JumpAt address S first_end l2
    second_at : address l1 ≡ second
    back : Stands address S second (filled levels bodies ys (next levels bodies (cs ++ xs) g)) second_end
    ends : second_end ≡ end
    following : address l2 ≡ end

  in_three : {c l1 l2 end : ℕ} (cs xs ys : List Piece) (g : ℕ) → Closed cs → Closed xs → Closed ys → Stands address S c (filled levels bodies (cs ++ xs ++ J l2 ∷ label l1 ∷ ys ++ label l2 ∷ []) g) end → InThree c l1 l2 cs xs ys g end
  in_three {l1 = l1} {l2 = l2} cs xs ys g hc hx hy st =
      let closed_two = closed_both cs xs hc hx in
      let u1 = filled_parts levels bodies (cs ++ xs ++ J l2 ∷ label l1 ∷ ys) (label l2 ∷ []) g (closed_both (cs ++ xs) (J l2 ∷ label l1 ∷ ys) closed_two hy) st in
      let u2 = filled_parts levels bodies (cs ++ xs) (J l2 ∷ label l1 ∷ ys) g closed_two u1.front in
      let u3 = filled_parts levels bodies cs xs g hc u2.front in
      let after_jump = after_item u2.back in
      let over = at_end (after_label u1.back) in
      record {
        tested = u3.middle;
        first_end = u2.middle;
        second = u2.middle + 2;
        second_end = u1.middle;
        test = u3.front;
        front = u3.back;
        jump_on = jump_first u2.back;
        second_at = at_label after_jump;
        back = after_label after_jump;
        ends = over;
        following = at_label u1.back ∙ over;
      }

  closed_three : (l1 l2 : ℕ) (cs xs ys : List Piece) → Closed cs → Closed xs → Closed ys → Closed (cs ++ xs ++ J l2 ∷ label l1 ∷ ys ++ label l2 ∷ [])
  closed_three l1 l2 cs xs ys hc hx hy = closed_both (cs ++ xs ++ J l2 ∷ label l1 ∷ ys) (label l2 ∷ []) (closed_both (cs ++ xs) (J l2 ∷ label l1 ∷ ys) (closed_both cs xs hc hx) hy) tt

  first_lands : {e : Exp} {s : ℕ} {xs : List Piece} (K : Moment) → Later S K → Gives C address levels V S most bodies Any e s xs → (p a c mid l2 end limit g was : ℕ) → Stands address S c (filled levels bodies xs g) mid → p + cells_of_exp V e s ≤ 65536 → JumpAt address S mid l2 → address l2 ≡ end
      → Does K most (p + s) p limit a c (gets_goal Any was end) (value C e p s)
  first_lands {e = e} {s = s} K old h p a c mid l2 end limit g was st room over is =
      does_onto (gets_goal Any a mid) (gets_goal Any was end) (value C e p s) (h.does K old p a c mid limit g st room)
      (λ O x t v a1 b1 c1 g1 m1 st1 r le w. lands_done limit (gets_goal Any was end) v (jumped old over (at_place w.1 r)) le (w.0, is, tt))

  second_lands : {e : Exp} {s : ℕ} {xs : List Piece} (K : Moment) → Later S K → Gives C address levels V S most bodies Any e s xs → (p a c mid end limit g was : ℕ) → Stands address S c (filled levels bodies xs g) mid → p + cells_of_exp V e s ≤ 65536 → mid ≡ end
      → Does K most (p + s) p limit a c (gets_goal Any was end) (value C e p s)
  second_lands {e = e} {s = s} K old h p a c mid end limit g was st room is =
      does_map (gets_goal Any a mid) (gets_goal Any was end) (value C e p s) (λ v a1 b1 c1 g1 turns w. (w.0, w.1 ∙ is, tt)) (h.does K old p a c mid limit g st room)

  pub v20_gives : {e x y : Exp} {s l1 : ℕ} {cs xs ys : List Piece} (l2 : ℕ) → Tests C address levels V S most bodies false e s l1 cs → Gives C address levels V S most bodies Any x s xs → Gives C address levels V S most bodies Any y s ys
      → Gives C address levels V S most bodies Any (Cond e x y) s (cs ++ xs ++ J l2 ∷ label l1 ∷ ys ++ label l2 ∷ [])
  v20_gives {e = e} {x = x} {y = y} {s = s} {l1 = l1} {cs = cs} {xs = xs} {ys = ys} l2 hc hx hy = record {
    closed = closed_three l1 l2 cs xs ys hc.closed hx.closed hy.closed;
    does = λ K old p a c end limit g st room.
        let u = in_three cs xs ys g hc.closed hx.closed hy.closed st in
        does_then (test_goal false (address l1) u.tested) (gets_goal Any a end) (truth C e p s) (λ t. choose t (value C x p s) (value C y p s)) (hc.does K old p a c u.tested limit g u.test (omega (arith, room)))
        (λ t a1 b1 c1 g1 turns w. by_truth K old p a c end limit g room u t a1 c1 g1 w);
  } where
    by_truth : (K : Moment) → Later S K → (p a c end limit g : ℕ) → p + cells_of_exp V (Cond e x y) s ≤ 65536 → (u : InThree c l1 l2 cs xs ys g end) → (t : Bool) (a1 c1 g1 : ℕ) → jumps_to (agrees false t) (address l1) u.tested c1 g1
        → Does K most (p + s) p limit a1 c1 (gets_goal Any a end) (choose t (value C x p s) (value C y p s))
    by_truth K old p a c end limit g room u true a1 c1 g1 w =
        does_at (gets_goal Any a end) (value C x p s) w (first_lands K old hx p a1 u.tested u.first_end l2 end limit (next levels bodies cs g) a u.front (omega (arith, room)) u.jump_on u.following)
    by_truth K old p a c end limit g room u false a1 c1 g1 w =
        does_at (gets_goal Any a end) (value C y p s) (w.0 ∙ u.second_at) (second_lands K old hy p a1 u.second u.second_end end limit (next levels bodies (cs ++ xs) g) a u.back (omega (arith, room)) u.ends)

  pub v21_gives : {e x y : Exp} {s l1 : ℕ} {cs xs ys : List Piece} (l2 : ℕ) → Tests C address levels V S most bodies true e s l1 cs → Gives C address levels V S most bodies Any y s ys → Gives C address levels V S most bodies Any x s xs
      → Gives C address levels V S most bodies Any (Cond e x y) s (cs ++ ys ++ J l2 ∷ label l1 ∷ xs ++ label l2 ∷ [])
  v21_gives {e = e} {x = x} {y = y} {s = s} {l1 = l1} {cs = cs} {xs = xs} {ys = ys} l2 hc hy hx = record {
    closed = closed_three l1 l2 cs ys xs hc.closed hy.closed hx.closed;
    does = λ K old p a c end limit g st room.
        let u = in_three cs ys xs g hc.closed hy.closed hx.closed st in
        does_then (test_goal true (address l1) u.tested) (gets_goal Any a end) (truth C e p s) (λ t. choose t (value C x p s) (value C y p s)) (hc.does K old p a c u.tested limit g u.test (omega (arith, room)))
        (λ t a1 b1 c1 g1 turns w. by_truth K old p a c end limit g room u t a1 c1 g1 w);
  } where
    by_truth : (K : Moment) → Later S K → (p a c end limit g : ℕ) → p + cells_of_exp V (Cond e x y) s ≤ 65536 → (u : InThree c l1 l2 cs ys xs g end) → (t : Bool) (a1 c1 g1 : ℕ) → jumps_to (agrees true t) (address l1) u.tested c1 g1
        → Does K most (p + s) p limit a1 c1 (gets_goal Any a end) (choose t (value C x p s) (value C y p s))
    by_truth K old p a c end limit g room u false a1 c1 g1 w =
        does_at (gets_goal Any a end) (value C y p s) w (first_lands K old hy p a1 u.tested u.first_end l2 end limit (next levels bodies cs g) a u.front (omega (arith, room)) u.jump_on u.following)
    by_truth K old p a c end limit g room u true a1 c1 g1 w =
        does_at (gets_goal Any a end) (value C x p s) (w.0 ∙ u.second_at) (second_lands K old hx p a1 u.second u.second_end end limit (next levels bodies (cs ++ ys) g) a u.back (omega (arith, room)) u.ends)
