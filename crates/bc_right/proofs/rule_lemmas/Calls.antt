-- The rule for calls and VALOFs.
use Rattle.std.proofs.Common.{◌≡◌, ℕ, ◌+◌, ◌≤◌, ◌<◌, List, [], ◌∷◌, ◌++◌, length, refl, sym, ap, ◌∙◌, subst, arith}
use Rattle.std.specs.Prelude.{slice_set, slice_index}
use Rattle.std.proofs.lemmas.List.{get_or-set_same}
use Rattle.bc_text_items.specs.declared.item.Item.{Item}
use Rattle.bc_text_items.specs.declared.item.Base.TheVariants as bases
use Rattle.bc_text_items.specs.Sizes.{operation_size}
use Rattle.bc_machine_defs.specs.State.{State}
use Rattle.bc_core.specs.Tree.{Exp, Call, Valof, Args, no_argument, argument, count}
use Rattle.bc_core.specs.Layout.{Bodies, cells_of_args}
use Rattle.bc_core.specs.Store.{Dead, cell_at}
use Rattle.bc_core.specs.Outcome as outcomes
use Rattle.bc_core.specs.Outcome.{Outcome, Done, Ended, Going, Wild, Run, followed, then_do}
use Rattle.bc_core.specs.Value.{Context, value, values}
use Rattle.bc_rules_defs.specs.declared.rule.Mode.TheVariants.{Any}
use Rattle.bc_rules_defs.specs.declared.piece.Piece.{Piece}
use Rattle.bc_rules_defs.specs.declared.piece.Piece.TheVariants as pieces
use Rattle.bc_rules_defs.specs.Piece as piece
use Rattle.bc_rules_defs.specs.Piece.{SP, label}
use Rattle.bc_gen_defs.specs.Bodies.{BodiesCode}
use Rattle.bc_right.specs.steps.CodeAt.{HasWords}
use Rattle.bc_right.specs.steps.Landing.{Moment, moment, Later, Stands, Reached, Lands}
use Rattle.bc_right.specs.steps.Goals.{value_goal}
use Rattle.bc_right.specs.steps.Premises.{CallLands, ValofsLand}
use Rattle.bc_right.proofs.step_lemmas.Agreeing.{holds_up}
use Rattle.bc_right.proofs.step_lemmas.Steps.{later_then, later_refl, at_end, after_item, plain, at_place, bind_from, does_map, lands_map}
use Rattle.bc_right.proofs.step_lemmas.Holding.{reached_from, kept_words, held_at}
use Rattle.bc_right.proofs.rule_lemmas.Filling.{Closed, closed_both, filled, next, filled_parts}
use Rattle.bc_right.proofs.rule_lemmas.Stretches.{gets_goal}
use Rattle.bc_right.proofs.rule_lemmas.Values.{Gives}

module _ (C : Context) (address levels : ℕ → ℕ) (V : Bodies) (S : Moment) (most : ℕ) (bodies : BodiesCode Item) where
  -- the arguments' values, each stored at its offset
  abbrev pub GivesAll : Args → ℕ → List Piece → Type 0
  GivesAll no_argument s xs = xs ≡ []
  GivesAll (argument e es) s xs =
      (ys : List Piece) × (zs : List Piece) × (xs ≡ ys ++ SP s ∷ zs) × Gives C address levels V S most bodies Any e s ys × GivesAll es (s + 1) zs

  closed_all : (es : Args) (s : ℕ) (xs : List Piece) → GivesAll es s xs → Closed xs
  closed_all no_argument s xs h = subst Closed (sym h) tt
  closed_all (argument e es) s xs h = subst Closed (sym h.2) (closed_both h.0 (SP s ∷ h.1) h.3.closed (closed_all es (s + 1) h.1 h.4))

  arguments_then : (K : Moment) → Later S K → (es : Args) (s : ℕ) (xs : List Piece) → GivesAll es s xs → (p c end limit g : ℕ) → Stands address S c (filled levels bodies xs g) end → p + cells_of_args V es s ≤ 65536 → p + s + count es ≤ 65536
      → (O1 : Moment) (top1 last : ℕ) (f : List ℕ → Run ℕ) (O : Moment) (x : State) (t a b : ℕ) (m : List ℕ) (st : outcomes.State) → st.turns ≤ limit → Reached K most O x t (p + s) p a b c 0 m st
      → ((vs : List ℕ) (a1 b1 : ℕ) (m1 : List ℕ) (st1 : outcomes.State) → length vs ≡ count es → HasWords m1 (p + s) vs → st1.turns ≤ limit → Reached K most O x t (p + s) p a1 b1 end 0 m1 st1 → Lands K most O1 x t top1 p limit (value_goal last) (f vs st1))
      → Lands K most O1 x t top1 p limit (value_goal last) (followed (values C es p s st) f)
  arguments_then K old no_argument s xs gives p c end limit g stands room cells O1 top1 last f O x t a b m st le here k =
      let none = subst (λ z. Stands address S c (filled levels bodies z g) end) gives stands in
      k [] a b m st refl tt le (at_place (at_end none) here)
  arguments_then K old (argument e es) s xs gives p c end limit g stands room cells O1 top1 last f O x t a b m st le here k =
      let ys = gives.0 in
      let zs = gives.1 in
      let g1 = next levels bodies ys g in
      let q = filled_parts levels bodies ys (SP s ∷ zs) g gives.3.closed (subst (λ z. Stands address S c (filled levels bodies z g) end) gives.2 stands) in
      let tail = after_item q.back in
      let more : ℕ → Run (List ℕ) = λ v. then_do (values C es p (s + 1)) (λ vs. Done (v ∷ vs)) in
      regroup (value C e p s st) more f
      (bind_from K K O O1 most x t (p + s) top1 p limit (gets_goal Any a q.middle) (value_goal last) (value C e p s st) (λ v. then_do (more v) f)
      ((gives.3.does K old p a c q.middle limit g q.front (omega (arith, room))).from O x t b m st le here)
      (λ v a1 b1 c1 h1 m1 st1 r1 le1 w.
      let r2 = held_at (filled levels bodies zs g1) old (omega (arith, cells)) q.back (at_place w.1 r1) in
      let m2 = slice_set m1 (p + s) a1 in
      let O2 = moment (p + (s + 1)) st1.cells m2 in
      let step_up : Later O O2 = record { low = omega (arith, r2.later.low); keeps = r2.later.keeps } in
      let dead : cell_at st1.cells (p + s) ≡ Dead = r2.holds.above (p + s) (omega arith) in
      let is : slice_index m2 (p + s) ≡ v = get_or-set_same m1 (p + s) a1 0 (omega (arith, r1.holds.whole, cells)) ∙ w.0 in
      regroup (values C es p (s + 1) st1) (λ vs. Done (v ∷ vs)) f
      (arguments_then K old es (s + 1) zs gives.4 p (q.middle + operation_size bases.P s) end limit g1 tail (omega (arith, room)) (omega (arith, cells)) O1 top1 last (λ vs. f (v ∷ vs)) O2 x t a1 b1 m2 st1 le1
      (plain (record { few = r2.few; are_words = r2.are_words; leads = r2.leads; holds = holds_up (p + s) (p + (s + 1)) st1.cells m2 (omega arith) r2.holds; since = later_then r2.since step_up; later = later_refl O2 }))
      (λ vs a3 b3 m3 st3 len has le3 r3.
      let at : p + s + 1 ≡ p + (s + 1) = omega arith in
      k (v ∷ vs) a3 b3 m3 st3 (omega (arith, len)) (r3.later.keeps.same (p + s) (omega arith) dead ∙ is, subst (λ z. HasWords m3 z vs) (sym at) has) le3
      (reached_from O (p + s) r3 r2.since step_up r2.later.low (omega arith) (λ i lo hi. let same : i ≡ p + s = omega arith in ap (λ z. cell_at st1.cells z) same ∙ dead)))))) where
        regroup : {A B : Type 0} (o : Outcome A) (h1 : A → Run B) (h : B → Run ℕ) → Lands K most O1 x t top1 p limit (value_goal last) (followed o (λ z. then_do (h1 z) h)) → Lands K most O1 x t top1 p limit (value_goal last) (followed (followed o h1) h)
        regroup (Done z st2) h1 h l = l
        regroup (Ended k2 streams) h1 h l = l
        regroup (Going streams) h1 h l = l
        regroup Wild h1 h l = tt

  pub call_gives : {es : Args} {f : Exp} {s : ℕ} {ys : List Piece} (xs : List Piece) → ((v : ℕ) → CallLands S most v (C.call v)) → GivesAll es (s + 2) xs → Gives C address levels V S most bodies Any f (s + 2 + count es) ys
      → Gives C address levels V S most bodies Any (Call es f) s (xs ++ ys ++ piece.K s ∷ [])
  call_gives {es = es} {f = f} {s = s} {ys = ys} xs works hx hy = record {
    closed = closed_both (xs ++ ys) (piece.K s ∷ []) (closed_both xs ys (closed_all es (s + 2) xs hx) hy.closed) tt;
    does = λ K old p a c end limit g stands room. record {
      from = λ O x t b m st le here.
          let top1 = p + (s + 2) in
          let closed_xs = closed_all es (s + 2) xs hx in
          let u = filled_parts levels bodies (xs ++ ys) (piece.K s ∷ []) g (closed_both xs ys closed_xs hy.closed) stands in
          let q = filled_parts levels bodies xs ys g closed_xs u.front in
          let O1 = moment top1 st.cells m in
          let up : Later O O1 = record { low = omega (arith, here.later.low); keeps = here.later.keeps } in
          let level = s + 2 + count es in
          let call : List ℕ → Run ℕ = λ vs. then_do (value C f p level) (λ r. C.call r vs (p + s)) in
          lands_map K most O x t (p + s) p limit limit (value_goal end) (gets_goal Any a end) (value C (Call es f) p s st) (omega arith) (λ v a1 b1 c1 h1 turns w. (w.0, w.1, tt))
          (arguments_then K old es (s + 2) xs hx p c q.middle limit g q.front (omega (arith, room)) (omega (arith, room)) O (p + s) end call O1 x t a b m st le
          (record { few = here.few; are_words = here.are_words; leads = here.leads; holds = holds_up (p + s) top1 st.cells m (omega arith) here.holds; since = later_then here.since up; later = later_refl O1 })
          (λ vs a1 b1 m1 st1 len has le1 r1.
          let top2 = p + level in
          let O2 = moment top2 st1.cells m1 in
          let r0 = reached_from O (p + s) r1 here.since up here.later.low (omega arith) (λ i lo hi. here.holds.above i lo) in
          let up2 : Later O O2 = record { low = omega (arith, r0.later.low); keeps = r0.later.keeps } in
          bind_from K K O2 O most x t top2 (p + s) p limit (gets_goal Any a1 u.middle) (value_goal end) (value C f p level st1) (λ r. C.call r vs (p + s))
          ((hy.does K old p a1 q.middle u.middle limit (next levels bodies xs g) q.back (omega (arith, room))).from O2 x t b1 m1 st1 le1
          (record { few = r1.few; are_words = r1.are_words; leads = r1.leads; holds = holds_up top1 top2 st1.cells m1 (omega arith) r1.holds; since = later_then here.since up2; later = later_refl O2 }))
          (λ v a2 b2 c2 g2 m2 st2 r2 le2 w.
          let dead = λ (i : ℕ) (lo : p + s ≤ i) (hi : i < top2). r0.holds.above i lo in
          let args = kept_words O2 st2.cells m2 top2 (p + (s + 2)) vs r2.later (λ i lo hi. r0.holds.above i (omega arith)) (omega (arith, len)) has in
          let at : p + (s + 2) ≡ p + s + 2 = omega arith in
          let r3 = reached_from O (p + s) r2 here.since up2 here.later.low (omega arith) dead in
          let r4 = subst (λ z. Reached K most O x t (p + s) p z b2 c2 g2 m2 st2) w.0 r3 in
          (works v).from K old address O x t p s b2 u.middle end limit vs m2 st2 u.back (subst (λ z. HasWords m2 z vs) at args) (omega (arith, room, len)) le2 (plain (at_place w.1 r4)))));
    };
  }

  valof_at_level : (n l : ℕ) → ValofsLand address levels S most V bodies C.valof → Gives C address levels V S most bodies Any (Valof n) (levels n) (pieces.Body n ∷ label l ∷ [])
  valof_at_level n l h = record {
    closed = (tt, tt);
    does = λ K old p a c end limit g st room. does_map (value_goal end) (gets_goal Any a end) (C.valof n p (levels n)) (λ v a1 b1 c1 h1 turns w. (w.0, w.1, tt)) (h.from K old n p l g a c end limit st room);
  }

  pub valof_gives : {n s : ℕ} (l : ℕ) → ValofsLand address levels S most V bodies C.valof → levels n ≡ s → Gives C address levels V S most bodies Any (Valof n) s (pieces.Body n ∷ label l ∷ [])
  valof_gives {n = n} l h e = subst (λ s. Gives C address levels V S most bodies Any (Valof n) s (pieces.Body n ∷ label l ∷ [])) e (valof_at_level n l h)
