-- The rules for operators that evaluate both operands: the second one in mode Push, or with the first one kept in the frame.
use Rattle.std.proofs.Common.{◌≡◌, ℕ, ◌+◌, ◌-◌, ◌%◌, ◌<◌, ◌≤◌, ◌||◌, List, [], ◌∷◌, ◌++◌, true, false, Some, refl, sym, ap, ◌∙◌, arith}
use Rattle.std.specs.Prelude.{slice_index, slice_set, length, IsTrue}
use Rattle.std.proofs.lemmas.List.{get_or-set_same, get_or-set_other}
use Rattle.bc_word.specs.declared.operator.Op.{Op}
use Rattle.bc_word.specs.declared.operator.Op.TheVariants as operators
use Rattle.bc_word.specs.Words.{value_of, number_of, negated}
use Rattle.bc_word.specs.Mirror.{mirror_of}
use Rattle.bc_word.proofs.Mirrors.{exchanged}
use Rattle.bc_text_items.specs.declared.item.Item.{Item}
use Rattle.bc_text_items.specs.declared.item.Base.TheVariants as bases
use Rattle.bc_text_items.specs.declared.item.Function.TheVariants as functions
use Rattle.bc_text_items.specs.Sizes.{operation_size}
use Rattle.bc_machine_defs.specs.State.{State}
use Rattle.bc_core.specs.Tree.{Exp, Bin}
use Rattle.bc_core.specs.Layout.{Bodies, cells_of_exp}
use Rattle.bc_core.specs.Outcome as outcomes
use Rattle.bc_core.specs.Outcome.{Run, then_do, both, followed}
use Rattle.bc_core.specs.Value.{Context, has_call, given, value}
use Rattle.bc_rules_defs.specs.declared.rule.Mode.TheVariants.{Any, Push}
use Rattle.bc_rules_defs.specs.declared.piece.Piece.{Piece}
use Rattle.bc_rules_defs.specs.Free.{are_free}
use Rattle.bc_rules_defs.specs.Piece.{SP, LIP, AIP, X}
use Rattle.bc_gen_defs.specs.Bodies.{BodiesCode}
use Rattle.bc_right.specs.steps.Landing.{Moment, Later, Stands, Reached, Goal, Lands}
use Rattle.bc_right.specs.steps.Items.{hold_item, take_item, operate}
use Rattle.bc_right.specs.steps.Items as code
use Rattle.bc_right.proofs.step_lemmas.Exchange.{sides_exchange}
use Rattle.bc_right.proofs.step_lemmas.Steps.{at_end, after_item, acts, went, plain, at_place, Onward, bind, lands_done, then_raw}
use Rattle.bc_right.proofs.step_lemmas.Holding.{held_at}
use Rattle.bc_right.proofs.rule_lemmas.Filling.{Closed, closed_both, filled, next, filled_parts}
use Rattle.bc_right.proofs.rule_lemmas.Stretches.{gets_goal, registers_small, raised, does_lower, both_raw, does_unless_wild, added, loaded, negates, operates, held_then}
use Rattle.bc_right.proofs.rule_lemmas.Values.{Gives}

module _ (C : Context) (address levels : ℕ → ℕ) (V : Bodies) (S : Moment) (most : ℕ) (bodies : BodiesCode Item) where
  -- pieces in three parts with their addresses
  pub record InOrder (c : ℕ) (xs ys zs : List Piece) (g end : ℕ) : Type 0 where
    pub first_end : ℕ
    pub second_end : ℕ
    pub first : Stands address S c (filled levels bodies xs g) first_end
    pub second : Stands address S first_end (filled levels bodies ys (next levels bodies xs g)) second_end
    pub third : Stands address S second_end (filled levels bodies zs (next levels bodies (xs ++ ys) g)) end

  pub in_order : {c end : ℕ} (xs ys zs : List Piece) (g : ℕ) → Closed xs → Closed ys → Stands address S c (filled levels bodies (xs ++ ys ++ zs) g) end → InOrder c xs ys zs g end
  in_order xs ys zs g hx hy st =
      let u = filled_parts levels bodies (xs ++ ys) zs g (closed_both xs ys hx hy) st in
      let v = filled_parts levels bodies xs ys g hx u.front in
      record { first_end = v.middle; second_end = u.middle; first = v.front; second = v.back; third = u.back }

  -- a second operand in mode Push leaves the first value in B
  pushed : {e : Exp} {ys : List Piece} {K O : Moment} {x : State} {t p b c g : ℕ} {m : List ℕ} {st : outcomes.State} (s a end limit h : ℕ) (goal : Goal ℕ) (f : ℕ → Run ℕ) → Later S K → Gives C address levels V S most bodies Push e (s + 1) ys → Stands address S c (filled levels bodies ys h) end → p + cells_of_exp V e (s + 1) ≤ 65536
      → Reached K most O x t (p + (s + 1)) p a b c g m st → st.turns ≤ limit
      → ((w a2 b2 g2 : ℕ) (m2 : List ℕ) (st2 : outcomes.State) → Reached K most O x t (p + (s + 1)) p a2 b2 end g2 m2 st2 → st2.turns ≤ limit → a2 ≡ w → b2 ≡ a → Lands K most O x t (p + (s + 1)) p limit goal (f w st2))
      → Lands K most O x t (p + (s + 1)) p limit goal (followed (value C e p (s + 1) st) f)
  pushed {e = e} {K = K} {O = O} {x = x} {t = t} {p = p} {b = b} {c = c} {m = m} {st = st} s a end limit h goal f old hy stands room here le k =
      bind limit (gets_goal Push a end) goal (value C e p (s + 1) st) f ((hy.does K old p a c end limit h stands room).from O x t b m st le (plain here))
      (λ w a2 b2 c2 g2 m2 st2 r2 le2 goes. k w a2 b2 g2 m2 st2 (at_place goes.1 r2) le2 goes.0 goes.2)

  pub v12_gives : {op : Op} {l r : Exp} {s : ℕ} {xs ys : List Piece} → Gives C address levels V S most bodies Any l (s + 1) xs → Gives C address levels V S most bodies Push r (s + 1) ys → Gives C address levels V S most bodies Any (Bin op l r) s (xs ++ ys ++ X (number_of op) ∷ [])
  v12_gives {op = op} {l = l} {r = r} {s = s} {xs = xs} {ys = ys} hx hy = record {
    closed = closed_both (xs ++ ys) (X (number_of op) ∷ []) (closed_both xs ys hx.closed hy.closed) tt;
    does = λ K old p a c end limit g st room.
        let u = in_order xs ys (X (number_of op) ∷ []) g hx.closed hy.closed st in
        let goal = gets_goal Any a end in
        does_lower (p + s) (p + (s + 1)) goal (value C (Bin op l r) p s) (omega arith)
        (both_raw (gets_goal Any a u.first_end) goal (has_call l || has_call r) (value C l p (s + 1)) (value C r p (s + 1)) (λ v w. given (value_of op v w)) (hx.does K old p a c u.first_end limit g u.first (omega (arith, room)))
        (λ O x t v a1 b1 c1 g1 m1 st1 here le w.
        pushed s a1 u.second_end limit (next levels bodies xs g) goal (λ n. given (value_of op v n)) old hy u.second (omega (arith, room)) (at_place w.1 here) le
        (λ n a2 b2 g2 m2 st2 r2 le2 is_n is_v.
        operates op limit a (value_of op v n) old u.third (ap (λ z. value_of op z a2) (is_v ∙ w.0) ∙ ap (λ z. value_of op v z) is_n) r2 le2)));
  }

  -- the other order
  abbrev other : Op → Exp → Exp → (p s : ℕ) → Run ℕ
  other op l r p s = then_do (value C r p (s + 1)) (λ w. then_do (value C l p (s + 1)) (λ v. given (value_of op v w)))

  pub v13_gives : {op q : Op} {l r : Exp} {s : ℕ} {xs ys : List Piece} → mirror_of op ≡ Some q → IsTrue (are_free l r) → Gives C address levels V S most bodies Any r (s + 1) xs → Gives C address levels V S most bodies Push l (s + 1) ys → Gives C address levels V S most bodies Any (Bin op l r) s (xs ++ ys ++ X (number_of q) ∷ [])
  v13_gives {op = op} {q = q} {l = l} {r = r} {s = s} {xs = xs} {ys = ys} mirror free hx hy = record {
    closed = closed_both (xs ++ ys) (X (number_of q) ∷ []) (closed_both xs ys hx.closed hy.closed) tt;
    does = λ K old p a c end limit g st room.
        let u = in_order xs ys (X (number_of q) ∷ []) g hx.closed hy.closed st in
        let goal = gets_goal Any a end in
        does_lower (p + s) (p + (s + 1)) goal (value C (Bin op l r) p s) (omega arith)
        (does_unless_wild goal (value C (Bin op l r) p s) (other op l r p s) (λ st1. sides_exchange C l r (λ v w. given (value_of op v w)) free p (s + 1) st1)
        (then_raw (gets_goal Any a u.first_end) goal (value C r p (s + 1)) (λ w. then_do (value C l p (s + 1)) (λ v. given (value_of op v w))) (hx.does K old p a c u.first_end limit g u.first (omega (arith, room)))
        (λ O x t v a1 b1 c1 g1 m1 st1 here le w.
        pushed s a1 u.second_end limit (next levels bodies xs g) goal (λ n. given (value_of op n v)) old hy u.second (omega (arith, room)) (at_place w.1 here) le
        (λ n a2 b2 g2 m2 st2 r2 le2 is_n is_v.
        let k = registers_small r2 in
        operates q limit a (value_of op n v) old u.third (sym (exchanged op q mirror a2 b2 k.a k.b) ∙ ap (λ z. value_of op z b2) is_n ∙ ap (λ z. value_of op n z) (is_v ∙ w.0)) r2 le2))));
  }

  minus : (a b n v : ℕ) → a < 65536 → b < 65536 → a ≡ n → b ≡ v → negated ((b + (65536 - a)) % 65536) ≡ (n + (65536 - v)) % 65536
  minus a b n v ha hb ea eb = omega arith

  pub v14_gives : {l r : Exp} {s : ℕ} {xs ys : List Piece} → IsTrue (are_free l r) → Gives C address levels V S most bodies Any r (s + 1) xs → Gives C address levels V S most bodies Push l (s + 1) ys → Gives C address levels V S most bodies Any (Bin operators.Subtract l r) s (xs ++ ys ++ X 9 ∷ X 2 ∷ [])
  v14_gives {l = l} {r = r} {s = s} {xs = xs} {ys = ys} free hx hy = record {
    closed = closed_both (xs ++ ys) (X 9 ∷ X 2 ∷ []) (closed_both xs ys hx.closed hy.closed) tt;
    does = λ K old p a c end limit g st room.
        let u = in_order xs ys (X 9 ∷ X 2 ∷ []) g hx.closed hy.closed st in
        let goal = gets_goal Any a end in
        let op = operators.Subtract in
        does_lower (p + s) (p + (s + 1)) goal (value C (Bin op l r) p s) (omega arith)
        (does_unless_wild goal (value C (Bin op l r) p s) (other op l r p s) (λ st1. sides_exchange C l r (λ v w. given (value_of op v w)) free p (s + 1) st1)
        (then_raw (gets_goal Any a u.first_end) goal (value C r p (s + 1)) (λ w. then_do (value C l p (s + 1)) (λ v. given (value_of op v w))) (hx.does K old p a c u.first_end limit g u.first (omega (arith, room)))
        (λ O x t v a1 b1 c1 g1 m1 st1 here le w.
        pushed s a1 u.second_end limit (next levels bodies xs g) goal (λ n. given (value_of op n v)) old hy u.second (omega (arith, room)) (at_place w.1 here) le
        (λ n a2 b2 g2 m2 st2 r2 le2 is_n is_v.
        let k = registers_small r2 in
        let r3 = went r2 (acts old functions.Execute false bases.Number 9 (code.execute 2 ∷ []) u.third r2) in
        let s3 = after_item u.third in
        lands_done limit goal ((n + (65536 - v)) % 65536) (at_place (at_end (after_item s3)) (negates [] old s3 r3)) le2 (minus a2 b2 n v k.a k.b is_n (is_v ∙ w.0), refl, tt)))));
  }

  -- the first value is kept, and read again by `LIPs` or `AIPs`
  pub at_held : (m : List ℕ) (p s v : ℕ) → p + s < 65536 → slice_index m (p + s) ≡ v → slice_index m ((s + p) % 65536) ≡ v
  at_held m p s v fits e = let at : (s + p) % 65536 ≡ p + s = omega arith in ap (λ z. slice_index m z) at ∙ e

  -- both parts with the first one kept, and what follows them
  pub held_parts : {B : Type 0} {second : Exp} {s : ℕ} {xs ys zs : List Piece} (f : ℕ → ℕ → Run B) (goal : Goal B) {K : Moment} {p c end : ℕ} (a limit g : ℕ) → Later S K → p + s < 65536 → Gives C address levels V S most bodies Any second (s + 1) ys → (u : InOrder c xs (SP s ∷ ys) zs g end) → p + cells_of_exp V second (s + 1) ≤ 65536
      → ((O : Moment) (x : State) (t v w b2 g2 : ℕ) (m2 : List ℕ) (st2 : outcomes.State) → Reached K most O x t (p + s) p w b2 u.second_end g2 m2 st2 → st2.turns ≤ limit → slice_index m2 (p + s) ≡ v → Lands K most O x t (p + s) p limit goal (f v w st2))
      → (O : Moment) (x : State) (t : ℕ) → Onward K most O x t (p + s) p limit (gets_goal Any a u.first_end) goal (λ v. then_do (value C second p (s + 1)) (f v))
  held_parts {second = second} {s = s} {xs = xs} {ys = ys} f goal {K = K} {p = p} a limit g old fits hy u room k O x t v a1 b1 c1 g1 m1 st1 here le w =
      held_then s limit u.second_end a1 (filled levels bodies ys (next levels bodies xs g)) goal (value C second p (s + 1)) (f v) old fits u.second (at_place w.1 here) le
      (hy.does K old p a1 (u.first_end + operation_size bases.P s) u.second_end limit (next levels bodies xs g) (after_item u.second) room)
      (λ n b2 g2 m2 st2 r2 le2 is. k O x t v n b2 g2 m2 st2 r2 le2 (is ∙ w.0))

  pub v15_gives : {op q : Op} {l r : Exp} {s : ℕ} {xs ys : List Piece} → mirror_of op ≡ Some q → Gives C address levels V S most bodies Any l (s + 1) xs → Gives C address levels V S most bodies Any r (s + 1) ys → Gives C address levels V S most bodies Any (Bin op l r) s (xs ++ SP s ∷ ys ++ LIP s ∷ X (number_of q) ∷ [])
  v15_gives {op = op} {q = q} {l = l} {r = r} {s = s} {xs = xs} {ys = ys} mirror hx hy = record {
    closed = closed_both (xs ++ SP s ∷ ys) (LIP s ∷ X (number_of q) ∷ []) (closed_both xs (SP s ∷ ys) hx.closed hy.closed) tt;
    does = λ K old p a c end limit g st room.
        let u = in_order xs (SP s ∷ ys) (LIP s ∷ X (number_of q) ∷ []) g hx.closed hy.closed st in
        let goal = gets_goal Any a end in
        let fits : p + s < 65536 = omega (arith, room) in
        let f : ℕ → ℕ → Run ℕ = λ v w. given (value_of op v w) in
        both_raw (gets_goal Any a u.first_end) goal (has_call l || has_call r) (value C l p (s + 1)) (value C r p (s + 1)) f
        (does_lower (p + s) (p + (s + 1)) (gets_goal Any a u.first_end) (value C l p (s + 1)) (omega arith) (hx.does K old p a c u.first_end limit g u.first (omega (arith, room))))
        (held_parts f goal a limit g old fits hy u (omega (arith, room))
        (λ O x t v w b2 g2 m2 st2 r2 le2 is.
        let r3 = loaded true bases.P s v (operate q ∷ []) old u.third (at_held m2 p s v fits is) r2 in
        let k = registers_small r3 in
        operates q limit a (value_of op v w) old (after_item u.third) (sym (exchanged op q mirror v w k.a k.b)) r3 le2));
  }

  pub v16_gives : {op : Op} {l r : Exp} {s : ℕ} {xs ys : List Piece} → IsTrue (are_free l r) → Gives C address levels V S most bodies Any r (s + 1) xs → Gives C address levels V S most bodies Any l (s + 1) ys → Gives C address levels V S most bodies Any (Bin op l r) s (xs ++ SP s ∷ ys ++ LIP s ∷ X (number_of op) ∷ [])
  v16_gives {op = op} {l = l} {r = r} {s = s} {xs = xs} {ys = ys} free hx hy = record {
    closed = closed_both (xs ++ SP s ∷ ys) (LIP s ∷ X (number_of op) ∷ []) (closed_both xs (SP s ∷ ys) hx.closed hy.closed) tt;
    does = λ K old p a c end limit g st room.
        let u = in_order xs (SP s ∷ ys) (LIP s ∷ X (number_of op) ∷ []) g hx.closed hy.closed st in
        let goal = gets_goal Any a end in
        let fits : p + s < 65536 = omega (arith, room) in
        let f : ℕ → ℕ → Run ℕ = λ w v. given (value_of op v w) in
        does_unless_wild goal (value C (Bin op l r) p s) (other op l r p s) (λ st1. sides_exchange C l r (λ v w. given (value_of op v w)) free p (s + 1) st1)
        (then_raw (gets_goal Any a u.first_end) goal (value C r p (s + 1)) (λ w. then_do (value C l p (s + 1)) (f w))
        (does_lower (p + s) (p + (s + 1)) (gets_goal Any a u.first_end) (value C r p (s + 1)) (omega arith) (hx.does K old p a c u.first_end limit g u.first (omega (arith, room))))
        (held_parts f goal a limit g old fits hy u (omega (arith, room))
        (λ O x t w v b2 g2 m2 st2 r2 le2 is.
        operates op limit a (value_of op v w) old (after_item u.third) refl (loaded true bases.P s w (operate op ∷ []) old u.third (at_held m2 p s w fits is) r2) le2)));
  }

  pub v18_gives : {l r : Exp} {s : ℕ} {xs ys : List Piece} → Gives C address levels V S most bodies Any l (s + 1) xs → Gives C address levels V S most bodies Any r (s + 1) ys → Gives C address levels V S most bodies Any (Bin operators.Add l r) s (xs ++ SP s ∷ ys ++ AIP s ∷ [])
  v18_gives {l = l} {r = r} {s = s} {xs = xs} {ys = ys} hx hy = record {
    closed = closed_both (xs ++ SP s ∷ ys) (AIP s ∷ []) (closed_both xs (SP s ∷ ys) hx.closed hy.closed) tt;
    does = λ K old p a c end limit g st room.
        let u = in_order xs (SP s ∷ ys) (AIP s ∷ []) g hx.closed hy.closed st in
        let goal = gets_goal Any a end in
        let fits : p + s < 65536 = omega (arith, room) in
        let f : ℕ → ℕ → Run ℕ = λ v w. given (value_of operators.Add v w) in
        both_raw (gets_goal Any a u.first_end) goal (has_call l || has_call r) (value C l p (s + 1)) (value C r p (s + 1)) f
        (does_lower (p + s) (p + (s + 1)) (gets_goal Any a u.first_end) (value C l p (s + 1)) (omega arith) (hx.does K old p a c u.first_end limit g u.first (omega (arith, room))))
        (held_parts f goal a limit g old fits hy u (omega (arith, room))
        (λ O x t v w b2 g2 m2 st2 r2 le2 is.
        let same : (w + v) % 65536 ≡ (v + w) % 65536 = omega arith in
        lands_done limit goal ((v + w) % 65536) (at_place (at_end (after_item u.third)) (added true bases.P s v [] old u.third (at_held m2 p s v fits is) r2)) le2 (same, refl, tt)));
  }

  pub v19_gives : {l r : Exp} {s : ℕ} {xs ys : List Piece} → Gives C address levels V S most bodies Any l (s + 1) xs → Gives C address levels V S most bodies Any r (s + 1) ys → Gives C address levels V S most bodies Any (Bin operators.Subtract l r) s (xs ++ SP s ∷ ys ++ X 2 ∷ AIP s ∷ [])
  v19_gives {l = l} {r = r} {s = s} {xs = xs} {ys = ys} hx hy = record {
    closed = closed_both (xs ++ SP s ∷ ys) (X 2 ∷ AIP s ∷ []) (closed_both xs (SP s ∷ ys) hx.closed hy.closed) tt;
    does = λ K old p a c end limit g st room.
        let u = in_order xs (SP s ∷ ys) (X 2 ∷ AIP s ∷ []) g hx.closed hy.closed st in
        let goal = gets_goal Any a end in
        let fits : p + s < 65536 = omega (arith, room) in
        let f : ℕ → ℕ → Run ℕ = λ v w. given (value_of operators.Subtract v w) in
        both_raw (gets_goal Any a u.first_end) goal (has_call l || has_call r) (value C l p (s + 1)) (value C r p (s + 1)) f
        (does_lower (p + s) (p + (s + 1)) (gets_goal Any a u.first_end) (value C l p (s + 1)) (omega arith) (hx.does K old p a c u.first_end limit g u.first (omega (arith, room))))
        (held_parts f goal a limit g old fits hy u (omega (arith, room))
        (λ O x t v w b2 g2 m2 st2 r2 le2 is.
        let r3 = negates (code.add_item s ∷ []) old u.third r2 in
        let s3 = after_item u.third in
        let same : (negated w + v) % 65536 ≡ (v + (65536 - w)) % 65536 = omega arith in
        lands_done limit goal ((v + (65536 - w)) % 65536) (at_place (at_end (after_item s3)) (added true bases.P s v [] old s3 (at_held m2 p s v fits is) r3)) le2 (same, refl, tt)));
  }

  -- `SP(s+1) LIPs`: both values are kept, the first one is in A and the second one in B
  pub both_held : {K : Moment} {O : Moment} {x : State} {t p v w b c g end : ℕ} {m : List ℕ} {st : outcomes.State} (s : ℕ) (rest : List Item) → Later S K → p + (s + 1) < 65536 → Stands address S c (hold_item (s + 1) ∷ take_item s ∷ rest) end → slice_index m (p + s) ≡ v → Reached K most O x t (p + s) p w b c g m st
      → Reached K most O x t (p + s) p v w (c + operation_size bases.P (s + 1) + operation_size bases.P s) (g + 1 + 1) (slice_set m (p + (s + 1)) w) st
  both_held {p = p} {v = v} {w = w} {m = m} s rest old fits stands is r =
      let up = raised (p + (s + 1)) (omega arith) r in
      let r1 = held_at {s = s + 1} (take_item s ∷ rest) old fits stands up in
      let m1 = slice_set m (p + (s + 1)) w in
      let still : slice_index m1 (p + s) ≡ v = get_or-set_other m (p + (s + 1)) (p + s) w 0 (λ e. omega arith) ∙ is in
      let r2 = loaded true bases.P s v rest old (after_item stands) (at_held m1 p s v (omega arith) still) r1 in
      record {
        few = r2.few;
        are_words = r2.are_words;
        leads = r2.leads;
        holds = record { agrees = r2.holds.agrees; above = r.holds.above; whole = r2.holds.whole; spans = r2.holds.spans };
        since = r2.since;
        later = record { low = r.later.low; keeps = r2.later.keeps };
      }

  pub held_second : (m : List ℕ) (p s w : ℕ) → p + (s + 1) < 65536 → length m ≡ 65536 → slice_index (slice_set m (p + (s + 1)) w) (p + (s + 1)) ≡ w
  held_second m p s w fits whole = get_or-set_same m (p + (s + 1)) w 0 (omega arith)

  pub v17_gives : {op : Op} {l r : Exp} {s : ℕ} {xs ys : List Piece} → Gives C address levels V S most bodies Any l (s + 1) xs → Gives C address levels V S most bodies Any r (s + 1) ys → Gives C address levels V S most bodies Any (Bin op l r) s (xs ++ SP s ∷ ys ++ SP (s + 1) ∷ LIP s ∷ LIP (s + 1) ∷ X (number_of op) ∷ [])
  v17_gives {op = op} {l = l} {r = r} {s = s} {xs = xs} {ys = ys} hx hy = record {
    closed = closed_both (xs ++ SP s ∷ ys) (SP (s + 1) ∷ LIP s ∷ LIP (s + 1) ∷ X (number_of op) ∷ []) (closed_both xs (SP s ∷ ys) hx.closed hy.closed) tt;
    does = λ K old p a c end limit g st room.
        let u = in_order xs (SP s ∷ ys) (SP (s + 1) ∷ LIP s ∷ LIP (s + 1) ∷ X (number_of op) ∷ []) g hx.closed hy.closed st in
        let goal = gets_goal Any a end in
        let fits : p + s < 65536 = omega (arith, room) in
        let fits1 : p + (s + 1) < 65536 = omega (arith, room) in
        let f : ℕ → ℕ → Run ℕ = λ v w. given (value_of op v w) in
        both_raw (gets_goal Any a u.first_end) goal (has_call l || has_call r) (value C l p (s + 1)) (value C r p (s + 1)) f
        (does_lower (p + s) (p + (s + 1)) (gets_goal Any a u.first_end) (value C l p (s + 1)) (omega arith) (hx.does K old p a c u.first_end limit g u.first (omega (arith, room))))
        (held_parts f goal a limit g old fits hy u (omega (arith, room))
        (λ O x t v w b2 g2 m2 st2 r2 le2 is.
        let r3 = both_held s (take_item (s + 1) ∷ operate op ∷ []) old fits1 u.third is r2 in
        let m3 = slice_set m2 (p + (s + 1)) w in
        let s3 = after_item (after_item u.third) in
        let r4 = loaded true bases.P (s + 1) w (operate op ∷ []) old s3 (at_held m3 p (s + 1) w fits1 (held_second m2 p s w fits1 r2.holds.whole)) r3 in
        operates op limit a (value_of op v w) old (after_item s3) refl r4 le2));
  }
