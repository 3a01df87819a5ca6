-- The rules for tests.
use Rattle.std.proofs.Common.{◌≡◌, ℕ, ◌+◌, ◌≤◌, ◌==◌, List, [], ◌∷◌, ◌++◌, Bool, true, false, not, refl, sym, ap, ◌∙◌, subst, arith}
use Rattle.std.specs.Prelude.{cond, IsTrue}
use Rattle.bc_word.specs.declared.operator.Op.TheVariants as operators
use Rattle.bc_word.specs.Words.{truth as word_of}
use Rattle.bc_text_items.specs.declared.item.Item.{Item}
use Rattle.bc_text_items.specs.declared.item.Base.TheVariants as bases
use Rattle.bc_text_items.specs.declared.item.Function.TheVariants as functions
use Rattle.bc_machine_defs.specs.declared.state.Registers.{Registers}
use Rattle.bc_machine_defs.specs.State.{State, state}
use Rattle.bc_machine_defs.specs.Effect.{running}
use Rattle.bc_core.specs.Tree.{Exp, Num, Not, Bin}
use Rattle.bc_core.specs.Layout.{Bodies, cells_of_exp}
use Rattle.bc_core.specs.Loop.{agrees}
use Rattle.bc_core.specs.Outcome as outcomes
use Rattle.bc_core.specs.Outcome.{Done, choose}
use Rattle.bc_core.specs.Value.{Context, is_true, truth_of_value, value, truth}
use Rattle.bc_rules_defs.specs.declared.rule.Mode.TheVariants.{Any}
use Rattle.bc_rules_defs.specs.declared.piece.Piece.{Piece}
use Rattle.bc_rules_defs.specs.Free.{is_plain, jumps_at}
use Rattle.bc_rules_defs.specs.Piece.{J, jump_if, label}
use Rattle.bc_gen_defs.specs.Bodies.{BodiesCode}
use Rattle.bc_right.specs.steps.Leads.{machine}
use Rattle.bc_right.specs.steps.Landing.{Moment, Later, Stands, Reached, Lands, Does}
use Rattle.bc_right.specs.steps.Items.{test_item}
use Rattle.bc_right.specs.steps.Goals.{jumps_to, test_goal}
use Rattle.bc_right.proofs.step_lemmas.Steps.{at_end, at_label, after_item, after_label, jump_first, acts, went, plain, at_place, jumped, lands_done, then_raw}
use Rattle.bc_right.proofs.rule_lemmas.Filling.{Closed, closed_both, filled, next, filled_parts}
use Rattle.bc_right.proofs.rule_lemmas.Stretches.{gets_goal, does_lower}
use Rattle.bc_right.proofs.rule_lemmas.Values.{Gives}

module _ (C : Context) (address levels : ℕ → ℕ) (V : Bodies) (S : Moment) (most : ℕ) (bodies : BodiesCode Item) where
  -- wherever these pieces are placed, they jump to the target if the truth of the expression at level s is the sense
  pub record Tests (sense : Bool) (e : Exp) (s target : ℕ) (ps : List Piece) : Type 0 where
    pub closed : Closed ps
    pub does : (K : Moment) → Later S K → (p a c end limit g : ℕ) → Stands address S c (filled levels bodies ps g) end → p + cells_of_exp V e s ≤ 65536
        → Does K most (p + s) p limit a c (test_goal sense (address target) end) (truth C e p s)

-- a jump that depends on A
abbrev pub at_c : (a b c p : ℕ) → Registers
at_c a b c p = record { a = a; b = b; c = c; p = p }

pub jumps : {address : ℕ → ℕ} {S K O : Moment} {most : ℕ} {x : State} {t top p a b c g end : ℕ} {m : List ℕ} {st : outcomes.State} (sense zero : Bool) (target : ℕ) → (a == 0) ≡ zero → Later S K → Stands address S c (test_item sense target ∷ []) end → Reached K most O x t top p a b c g m st
    → Reached K most O x t top p a b (cond (agrees sense (not zero)) (address target) end) (g + 1) m st
jumps {address = address} {p = p} {a = a} {b = b} {c = c} {m = m} {st = st} true true target e old s r =
    went r (acts old functions.JumpIfTrue false bases.Label target [] s r ∙ ap (λ z. running (state (cond z (at_c a b (c + 2) p) (at_c a b (address target) p)) m st.streams)) e ∙ ap (λ z. running (machine a b z p m st.streams)) (at_end (after_item s)))
jumps {address = address} {p = p} {a = a} {b = b} {c = c} {m = m} {st = st} true false target e old s r =
    went r (acts old functions.JumpIfTrue false bases.Label target [] s r ∙ ap (λ z. running (state (cond z (at_c a b (c + 2) p) (at_c a b (address target) p)) m st.streams)) e)
jumps {address = address} {p = p} {a = a} {b = b} {c = c} {m = m} {st = st} false true target e old s r =
    went r (acts old functions.JumpIfFalse false bases.Label target [] s r ∙ ap (λ z. running (state (cond z (at_c a b (address target) p) (at_c a b (c + 2) p)) m st.streams)) e)
jumps {address = address} {p = p} {a = a} {b = b} {c = c} {m = m} {st = st} false false target e old s r =
    went r (acts old functions.JumpIfFalse false bases.Label target [] s r ∙ ap (λ z. running (state (cond z (at_c a b (address target) p) (at_c a b (c + 2) p)) m st.streams)) e ∙ ap (λ z. running (machine a b z p m st.streams)) (at_end (after_item s)))

pub gained : (jumped : Bool) (target end g : ℕ) → jumps_to jumped target end (cond jumped target end) (g + 1)
gained true target end g = (refl, omega arith)
gained false target end g = refl

flipped : (sense t : Bool) → agrees (not sense) t ≡ agrees sense (not t)
flipped true true = refl
flipped true false = refl
flipped false true = refl
flipped false false = refl

pub flipped_back : (sense t : Bool) → agrees (not sense) (not t) ≡ agrees sense t
flipped_back true true = refl
flipped_back true false = refl
flipped_back false true = refl
flipped_back false false = refl

pub word_is_true : (t : Bool) → is_true (word_of t) ≡ t
word_is_true true = refl
word_is_true false = refl

pub closed_jump : (sense : Bool) (t : ℕ) → Closed (jump_if sense t ∷ [])
closed_jump true t = tt
closed_jump false t = tt

plain_truth : (C : Context) (e : Exp) → is_plain e ≡ true → (p s : ℕ) → truth C e p s ≡ truth_of_value (value C e p s)
plain_truth C (Not e) h p s = absurd (let f : false ≡ true = h in cc)
plain_truth C (Bin operators.And a b) h p s = absurd (let f : false ≡ true = h in cc)
plain_truth C (Bin operators.Or a b) h p s = absurd (let f : false ≡ true = h in cc)
plain_truth C (Bin op a b) h p s = refl
plain_truth C _ h p s = refl

module _ (C : Context) (address levels : ℕ → ℕ) (V : Bodies) (S : Moment) (most : ℕ) (bodies : BodiesCode Item) where
  pub jump_stands : {c end : ℕ} (sense : Bool) (t g : ℕ) → Stands address S c (filled levels bodies (jump_if sense t ∷ []) g) end → Stands address S c (test_item sense t ∷ []) end
  jump_stands true t g s = s
  jump_stands false t g s = s

  pub j1_tests : {e : Exp} {sense : Bool} {s target : ℕ} {ps : List Piece} → Tests C address levels V S most bodies (not sense) e s target ps → Tests C address levels V S most bodies sense (Not e) s target ps
  j1_tests {e = e} {sense = sense} {s = s} {target = target} h = record {
    closed = h.closed;
    does = λ K old p a c end limit g st room.
        let goal = test_goal sense (address target) end in
        then_raw (test_goal (not sense) (address target) end) goal (truth C e p s) (λ t. Done (not t)) (h.does K old p a c end limit g st room)
        (λ O x t v a1 b1 c1 g1 m1 st1 r le w. lands_done limit goal (not v) r le (subst (λ z. jumps_to z (address target) end c1 g1) (flipped sense v) w));
  }

  pub j6_tests : {e : Exp} {sense : Bool} {s : ℕ} {ps : List Piece} (target : ℕ) → IsTrue (is_plain e) → Gives C address levels V S most bodies Any e s ps → Tests C address levels V S most bodies sense e s target (ps ++ jump_if sense target ∷ [])
  j6_tests {e = e} {sense = sense} {s = s} {ps = ps} target plain_one h = record {
    closed = closed_both ps (jump_if sense target ∷ []) h.closed (closed_jump sense target);
    does = λ K old p a c end limit g st room.
        let u = filled_parts levels bodies ps (jump_if sense target ∷ []) g h.closed st in
        let goal = test_goal sense (address target) end in
        let back = jump_stands sense target (next levels bodies ps g) u.back in
        subst (λ z. Does K most (p + s) p limit a c goal z) (sym (plain_truth C e plain_one p s))
        (then_raw (gets_goal Any a u.middle) goal (value C e p s) (λ v. Done (is_true v)) (h.does K old p a c u.middle limit g u.front room)
        (λ O x t v a1 b1 c1 g1 m1 st1 r le w.
        lands_done limit goal (is_true v) (jumps sense (v == 0) target (ap (λ z. z == 0) w.0) old back (at_place w.1 r)) le (gained (agrees sense (is_true v)) (address target) end g1)));
  }

  number_jumps : (sense t : Bool) → agrees sense t ≡ cond sense t (not t)
  number_jumps true true = refl
  number_jumps true false = refl
  number_jumps false true = refl
  number_jumps false false = refl

  jumps_at_is : (sense : Bool) (n : ℕ) → agrees sense (is_true n) ≡ jumps_at sense n
  jumps_at_is true n = number_jumps true (is_true n)
  jumps_at_is false n = number_jumps false (is_true n)

  closed_number : (jump_it : Bool) (t : ℕ) → Closed (cond jump_it (J t ∷ []) [])
  closed_number true t = tt
  closed_number false t = tt

  pub j7_tests : (n : ℕ) (sense : Bool) (s target : ℕ) → Tests C address levels V S most bodies sense (Num n) s target (cond (jumps_at sense n) (J target ∷ []) [])
  j7_tests n sense s target = record {
    closed = closed_number (jumps_at sense n) target;
    does = λ K old p a c end limit g st room. record { from = λ O x t b m st1 le here. on K old p a c end limit g O x t b m st1 le here (jumps_at sense n) (jumps_at_is sense n) st };
  } where
    on : (K : Moment) → Later S K → (p a c end limit g : ℕ) (O : Moment) (x : State) (t b : ℕ) (m : List ℕ) (st : outcomes.State) → st.turns ≤ limit → Reached K most O x t (p + s) p a b c 0 m st
        → (jump_it : Bool) → agrees sense (is_true n) ≡ jump_it → Stands address S c (filled levels bodies (cond jump_it (J target ∷ []) []) g) end → Lands K most O x t (p + s) p limit (test_goal sense (address target) end) (Done (is_true n) st)
    on K old p a c end limit g O x t b m st le here true e stands =
        lands_done limit (test_goal sense (address target) end) (is_true n) (jumped old (jump_first stands) here) le (subst (λ z. jumps_to z (address target) end (address target) (0 + 1)) (sym e) (refl, omega arith))
    on K old p a c end limit g O x t b m st le here false e stands =
        lands_done limit (test_goal sense (address target) end) (is_true n) here le (subst (λ z. jumps_to z (address target) end c 0) (sym e) (at_end stands))

  -- `&` and `|`: the second side is evaluated only if the first doesn't decide
  pub j2_tests : {l r : Exp} {s target : ℕ} {xs ys : List Piece} → Tests C address levels V S most bodies false l (s + 1) target xs → Tests C address levels V S most bodies false r (s + 1) target ys → Tests C address levels V S most bodies false (Bin operators.And l r) s target (xs ++ ys)
  j2_tests {l = l} {r = r} {s = s} {target = target} {xs = xs} {ys = ys} hx hy = record {
    closed = closed_both xs ys hx.closed hy.closed;
    does = λ K old p a c end limit g st room.
        let u = filled_parts levels bodies xs ys g hx.closed st in
        let goal = test_goal false (address target) end in
        does_lower (p + s) (p + (s + 1)) goal (truth C (Bin operators.And l r) p s) (omega arith)
        (then_raw (test_goal false (address target) u.middle) goal (truth C l p (s + 1)) (λ t. choose t (truth C r p (s + 1)) (Done false)) (hx.does K old p a c u.middle limit g u.front (omega (arith, room)))
        (λ O x t v a1 b1 c1 g1 m1 st1 here le w. on K p u.middle end limit O x t v a1 b1 c1 g1 m1 st1 here le w (hy.does K old p a1 u.middle end limit (next levels bodies xs g) u.back (omega (arith, room)))));
  } where
    on : (K : Moment) (p middle end limit : ℕ) (O : Moment) (x : State) (t : ℕ) (v : Bool) (a1 b1 c1 g1 : ℕ) (m : List ℕ) (st : outcomes.State) → Reached K most O x t (p + (s + 1)) p a1 b1 c1 g1 m st → st.turns ≤ limit → test_goal false (address target) middle v a1 b1 c1 g1 st.turns
        → Does K most (p + (s + 1)) p limit a1 middle (test_goal false (address target) end) (truth C r p (s + 1)) → Lands K most O x t (p + (s + 1)) p limit (test_goal false (address target) end) (choose v (truth C r p (s + 1)) (Done false) st)
    on K p middle end limit O x t true a1 b1 c1 g1 m st here le w d = d.from O x t b1 m st le (plain (at_place w here))
    on K p middle end limit O x t false a1 b1 c1 g1 m st here le w d = lands_done limit (test_goal false (address target) end) false here le w

  pub j4_tests : {l r : Exp} {s target : ℕ} {xs ys : List Piece} → Tests C address levels V S most bodies true l (s + 1) target xs → Tests C address levels V S most bodies true r (s + 1) target ys → Tests C address levels V S most bodies true (Bin operators.Or l r) s target (xs ++ ys)
  j4_tests {l = l} {r = r} {s = s} {target = target} {xs = xs} {ys = ys} hx hy = record {
    closed = closed_both xs ys hx.closed hy.closed;
    does = λ K old p a c end limit g st room.
        let u = filled_parts levels bodies xs ys g hx.closed st in
        let goal = test_goal true (address target) end in
        does_lower (p + s) (p + (s + 1)) goal (truth C (Bin operators.Or l r) p s) (omega arith)
        (then_raw (test_goal true (address target) u.middle) goal (truth C l p (s + 1)) (λ t. choose t (Done true) (truth C r p (s + 1))) (hx.does K old p a c u.middle limit g u.front (omega (arith, room)))
        (λ O x t v a1 b1 c1 g1 m1 st1 here le w. on K p u.middle end limit O x t v a1 b1 c1 g1 m1 st1 here le w (hy.does K old p a1 u.middle end limit (next levels bodies xs g) u.back (omega (arith, room)))));
  } where
    on : (K : Moment) (p middle end limit : ℕ) (O : Moment) (x : State) (t : ℕ) (v : Bool) (a1 b1 c1 g1 : ℕ) (m : List ℕ) (st : outcomes.State) → Reached K most O x t (p + (s + 1)) p a1 b1 c1 g1 m st → st.turns ≤ limit → test_goal true (address target) middle v a1 b1 c1 g1 st.turns
        → Does K most (p + (s + 1)) p limit a1 middle (test_goal true (address target) end) (truth C r p (s + 1)) → Lands K most O x t (p + (s + 1)) p limit (test_goal true (address target) end) (choose v (Done true) (truth C r p (s + 1)) st)
    on K p middle end limit O x t false a1 b1 c1 g1 m st here le w d = d.from O x t b1 m st le (plain (at_place w here))
    on K p middle end limit O x t true a1 b1 c1 g1 m st here le w d = lands_done limit (test_goal true (address target) end) true here le w

  pub j3_tests : {l r : Exp} {s mine target : ℕ} {xs ys : List Piece} → Tests C address levels V S most bodies false l (s + 1) mine xs → Tests C address levels V S most bodies true r (s + 1) target ys → Tests C address levels V S most bodies true (Bin operators.And l r) s target (xs ++ ys ++ label mine ∷ [])
  j3_tests {l = l} {r = r} {s = s} {mine = mine} {target = target} {xs = xs} {ys = ys} hx hy = record {
    closed = closed_both (xs ++ ys) (label mine ∷ []) (closed_both xs ys hx.closed hy.closed) tt;
    does = λ K old p a c end limit g st room.
        let w1 = filled_parts levels bodies (xs ++ ys) (label mine ∷ []) g (closed_both xs ys hx.closed hy.closed) st in
        let u = filled_parts levels bodies xs ys g hx.closed w1.front in
        let over : w1.middle ≡ end = at_end (after_label w1.back) in
        let goal = test_goal true (address target) end in
        does_lower (p + s) (p + (s + 1)) goal (truth C (Bin operators.And l r) p s) (omega arith)
        (then_raw (test_goal false (address mine) u.middle) goal (truth C l p (s + 1)) (λ t. choose t (truth C r p (s + 1)) (Done false)) (hx.does K old p a c u.middle limit g u.front (omega (arith, room)))
        (λ O x t v a1 b1 c1 g1 m1 st1 here le w. on K p u.middle end limit O x t v a1 b1 c1 g1 m1 st1 here le w (at_label w1.back ∙ over)
        (hy.does K old p a1 u.middle end limit (next levels bodies xs g) (subst (λ z. Stands address S u.middle (filled levels bodies ys (next levels bodies xs g)) z) over u.back) (omega (arith, room)))));
  } where
    on : (K : Moment) (p middle end limit : ℕ) (O : Moment) (x : State) (t : ℕ) (v : Bool) (a1 b1 c1 g1 : ℕ) (m : List ℕ) (st : outcomes.State) → Reached K most O x t (p + (s + 1)) p a1 b1 c1 g1 m st → st.turns ≤ limit → test_goal false (address mine) middle v a1 b1 c1 g1 st.turns → address mine ≡ end
        → Does K most (p + (s + 1)) p limit a1 middle (test_goal true (address target) end) (truth C r p (s + 1)) → Lands K most O x t (p + (s + 1)) p limit (test_goal true (address target) end) (choose v (truth C r p (s + 1)) (Done false) st)
    on K p middle end limit O x t true a1 b1 c1 g1 m st here le w e d = d.from O x t b1 m st le (plain (at_place w here))
    on K p middle end limit O x t false a1 b1 c1 g1 m st here le w e d = lands_done limit (test_goal true (address target) end) false here le (w.0 ∙ e)

  pub j5_tests : {l r : Exp} {s mine target : ℕ} {xs ys : List Piece} → Tests C address levels V S most bodies true l (s + 1) mine xs → Tests C address levels V S most bodies false r (s + 1) target ys → Tests C address levels V S most bodies false (Bin operators.Or l r) s target (xs ++ ys ++ label mine ∷ [])
  j5_tests {l = l} {r = r} {s = s} {mine = mine} {target = target} {xs = xs} {ys = ys} hx hy = record {
    closed = closed_both (xs ++ ys) (label mine ∷ []) (closed_both xs ys hx.closed hy.closed) tt;
    does = λ K old p a c end limit g st room.
        let w1 = filled_parts levels bodies (xs ++ ys) (label mine ∷ []) g (closed_both xs ys hx.closed hy.closed) st in
        let u = filled_parts levels bodies xs ys g hx.closed w1.front in
        let over : w1.middle ≡ end = at_end (after_label w1.back) in
        let goal = test_goal false (address target) end in
        does_lower (p + s) (p + (s + 1)) goal (truth C (Bin operators.Or l r) p s) (omega arith)
        (then_raw (test_goal true (address mine) u.middle) goal (truth C l p (s + 1)) (λ t. choose t (Done true) (truth C r p (s + 1))) (hx.does K old p a c u.middle limit g u.front (omega (arith, room)))
        (λ O x t v a1 b1 c1 g1 m1 st1 here le w. on K p u.middle end limit O x t v a1 b1 c1 g1 m1 st1 here le w (at_label w1.back ∙ over)
        (hy.does K old p a1 u.middle end limit (next levels bodies xs g) (subst (λ z. Stands address S u.middle (filled levels bodies ys (next levels bodies xs g)) z) over u.back) (omega (arith, room)))));
  } where
    on : (K : Moment) (p middle end limit : ℕ) (O : Moment) (x : State) (t : ℕ) (v : Bool) (a1 b1 c1 g1 : ℕ) (m : List ℕ) (st : outcomes.State) → Reached K most O x t (p + (s + 1)) p a1 b1 c1 g1 m st → st.turns ≤ limit → test_goal true (address mine) middle v a1 b1 c1 g1 st.turns → address mine ≡ end
        → Does K most (p + (s + 1)) p limit a1 middle (test_goal false (address target) end) (truth C r p (s + 1)) → Lands K most O x t (p + (s + 1)) p limit (test_goal false (address target) end) (choose v (Done true) (truth C r p (s + 1)) st)
    on K p middle end limit O x t false a1 b1 c1 g1 m st here le w e d = d.from O x t b1 m st le (plain (at_place w here))
    on K p middle end limit O x t true a1 b1 c1 g1 m st here le w e d = lands_done limit (test_goal false (address target) end) true here le (w.0 ∙ e)
