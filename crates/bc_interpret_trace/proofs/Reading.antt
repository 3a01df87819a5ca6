-- What the continuations tell about positions, read from the innermost on.
use Rattle.std.proofs.Common.{◌≡◌, Bool, ℕ, ◌+◌, ◌≤◌, ◌<◌, List, [], ◌∷◌, ◌++◌, map, take, length, get_or, Option, Some, None, cond, refl, sym, ap, ◌∙◌, subst, arith}
use Rattle.std.specs.List.{sum_by, count_by}
use Rattle.std.specs.Option.{is_some}
use Rattle.std.specs.Io.Iter.{u64_saturate}
use Rattle.std.proofs.Math.Nat.{add-zero, zero-add, add_assoc}
use Rattle.std.proofs.lemmas.List.{append_assoc, append-nil, take_more, take_all, take-map, take-append-le}
use Rattle.std.proofs.lemmas.List.Sums.{sum_by-cons}
use Rattle.bc_core.specs.View.{declarations, items, variable, block_of}
use Rattle.bc_interpret_defs.specs.Machine as machine
use Rattle.bc_interpret_defs.specs.Trails as trails
use Rattle.bc_interpret_defs.specs.Trails.{position_in, before, trail_from, trail_in, roots_of_block, roots_of_items, roots_of_declarations, roots_of_variable}
use Rattle.bc_interpret_steps.specs.declared.forms.OpenCall.{OpenCall}
use Rattle.bc_interpret_steps.specs.declared.continuations.NumberRest.{NumberRest}
use Rattle.bc_interpret_steps.specs.declared.continuations.NumberRest.TheVariants as number_rests
use Rattle.bc_interpret_steps.specs.declared.continuations.ValueRest.{ValueRest}
use Rattle.bc_interpret_steps.specs.declared.continuations.ValueRest.TheVariants as value_rests
use Rattle.bc_interpret_steps.specs.declared.continuations.TruthRest.{TruthRest}
use Rattle.bc_interpret_steps.specs.declared.continuations.TruthRest.TheVariants as truth_rests
use Rattle.bc_interpret_steps.specs.declared.continuations.NothingRest.{NothingRest}
use Rattle.bc_interpret_steps.specs.declared.continuations.NothingRest.TheVariants as nothing_rests
use Rattle.bc_interpret_steps.specs.declared.continuations.ExitRest.{ExitRest}
use Rattle.bc_interpret_steps.specs.declared.continuations.ExitRest.TheVariants as exit_rests
use Rattle.bc_interpret_steps.specs.declared.continuations.Rest.{Rest}
use Rattle.bc_interpret_steps.specs.declared.continuations.Rest.TheVariants as rests
use Rattle.bc_interpret_steps.specs.Code.{number_rest, value_rest, truth_rest, nothing_rest, exit_rest, stacked, then_given, stack_on, stack, given, open_call}
use Rattle.bc_interpret_steps.proofs.Piles.{stack_more}
use Rattle.bc_interpret_trace.specs.declared.trail.Standing.{Standing}
use Rattle.bc_interpret_trace.specs.declared.position.Position.{Position}
use Rattle.bc_interpret_trace.specs.Opened.{opened}
use Rattle.bc_interpret_trace.specs.Positions.{saturated, within, joined}
use Rattle.bc_interpret_trace.specs.Shown.{shown}

-- the position by no continuation
abbrev nowhere : trails.Position
nowhere = position_in []

joined_nowhere : (p : trails.Position) → joined p nowhere ≡ p
joined_nowhere p = by_valof p.valof p.following where
  by_valof : (v : Option ℕ) (n : ℕ) → within v n nowhere ≡ record { valof = v; following = n }
  by_valof None n = ap (λ m. record { valof = None; following = m }) (add-zero n)
  by_valof (Some v) n = refl

differ : {A : Type 0} → (x : A) → None ≡ Some x → ⊥
differ x e = cc

-- the program's position, where a VALOF is known
pub joined_known : (p q : trails.Position) (s : Position) (v : ℕ) → s.valof ≡ Some v → s ≡ saturated p → s ≡ saturated (joined p q)
joined_known p q s v known is = is ∙ by_valof p.valof p.following (sym (ap (λ (x : Position). x.valof) is) ∙ known) where
  by_valof : (w : Option ℕ) (n : ℕ) → w ≡ Some v → record { valof = w; following = u64_saturate n } ≡ saturated (within w n q)
  by_valof None n e = absurd (differ v e)
  by_valof (Some u) n e = refl

saturated_sum : (a b n m sum : ℕ) → sum ≡ u64_saturate (a + b) → a ≡ u64_saturate n → b ≡ u64_saturate m → sum ≡ u64_saturate (n + m)
saturated_sum a b n m sum e f g = omega arith

-- and where none is
pub joined_open : (p q : trails.Position) (s outer : Position) (sum : ℕ) → s.valof ≡ None → sum ≡ u64_saturate (s.following + outer.following) → s ≡ saturated p → outer ≡ saturated q → record { valof = outer.valof; following = sum } ≡ saturated (joined p q)
joined_open p q s outer sum none added is beyond =
    by_valof p.valof p.following (sym (ap (λ (x : Position). x.valof) is) ∙ none) (ap (λ (x : Position). x.following) is) where
      by_valof : (w : Option ℕ) (n : ℕ) → w ≡ None → s.following ≡ u64_saturate n → record { valof = outer.valof; following = sum } ≡ saturated (within w n q)
      by_valof None n e counted =
          let further : outer.following ≡ u64_saturate q.following = ap (λ (x : Position). x.following) beyond in
          let both = saturated_sum s.following outer.following n q.following sum added counted further in
          ap (λ k. record { valof = outer.valof; following = k }) both ∙ ap (λ v. record { valof = v; following = u64_saturate (n + q.following) }) (ap (λ (x : Position). x.valof) beyond)
      by_valof (Some u) n e counted = absurd (differ u (sym e))

joined_assoc : (p q r : trails.Position) → joined (joined p q) r ≡ joined p (joined q r)
joined_assoc p q r = by_valofs p.valof p.following q.valof q.following where
  by_valofs : (v : Option ℕ) (n : ℕ) (w : Option ℕ) (m : ℕ) → joined (within v n (record { valof = w; following = m })) r ≡ within v n (within w m r)
  by_valofs None n None m = ap (λ k. record { valof = r.valof; following = k }) (add_assoc n m r.following)
  by_valofs None n (Some w) m = refl
  by_valofs (Some v) n w m = refl

same : (p : trails.Position) → p ≡ joined nowhere p
same p = ap (λ n. record { valof = p.valof; following = n }) (sym (zero-add p.following))

more : (n : ℕ) (p : trails.Position) → before n p ≡ joined (before n nowhere) p
more n p = ap (λ m. before m p) (sym (add-zero n))

-- What a continuation alone tells is what it adds. It ends no call.
abbrev Adds : (alone within : machine.Rest) → Type 0
Adds alone r = (rs : List machine.Rest) → (position_in (r ∷ rs) ≡ joined (position_in (alone ∷ [])) (position_in rs)) × ((p : trails.Position) → trail_from p (r ∷ rs) ≡ trail_from p rs)

number_adds : (vs : List ℕ) (r : NumberRest) → Adds (number_rest [] r) (number_rest vs r)
number_adds vs number_rests.Loads rs = (same (position_in rs), λ p. refl)
number_adds vs number_rests.Negates rs = (same (position_in rs), λ p. refl)
number_adds vs number_rests.Complements rs = (same (position_in rs), λ p. refl)
number_adds vs number_rests.Tests rs = (same (position_in rs), λ p. refl)
number_adds vs (number_rests.Operates E op e) rs = (same (position_in rs), λ p. refl)
number_adds vs (number_rests.Operated op x) rs = (same (position_in rs), λ p. refl)
number_adds vs (number_rests.Argues a) rs = (same (position_in rs), λ p. refl)

value_adds : (r : ValueRest) → Adds (value_rest r) (value_rest r)
value_adds (value_rests.Stores E x) rs = (same (position_in rs), λ p. refl)
value_adds (value_rests.Stored w) rs = (same (position_in rs), λ p. refl)
value_adds (value_rests.StoresAt x) rs = (same (position_in rs), λ p. refl)
value_adds value_rests.Drops rs = (same (position_in rs), λ p. refl)
value_adds (value_rests.Fors E by b) rs = (more (roots_of_block (block_of b.now)) (position_in rs), λ p. refl)
value_adds (value_rests.Switches E is) rs = (more (roots_of_items (items is.now)) (position_in rs), λ p. refl)
value_adds value_rests.Leaves rs = (same (position_in rs), λ p. refl)

truth_adds : (r : TruthRest) → Adds (truth_rest r) (truth_rest r)
truth_adds truth_rests.Opposes rs = (same (position_in rs), λ p. refl)
truth_adds (truth_rests.Conjoins E x) rs = (same (position_in rs), λ p. refl)
truth_adds (truth_rests.Disjoins E x) rs = (same (position_in rs), λ p. refl)
truth_adds (truth_rests.Selects E x y) rs = (same (position_in rs), λ p. refl)
truth_adds (truth_rests.Ifs E t b) rs = (more (roots_of_block (block_of b.now)) (position_in rs), λ p. refl)
truth_adds (truth_rests.Chooses E b d) rs = (more (roots_of_block (block_of b.now) + roots_of_block (block_of d.now)) (position_in rs), λ p. refl)
truth_adds (truth_rests.Whiles E c b) rs = (more (roots_of_block (block_of b.now)) (position_in rs), λ p. refl)
truth_adds (truth_rests.RepeatWhiles E b c) rs = (same (position_in rs), λ p. refl)

nothing_adds : (r : NothingRest) → Adds (nothing_rest r) (nothing_rest r)
nothing_adds nothing_rests.Passes rs = (same (position_in rs), λ p. refl)
nothing_adds (nothing_rests.Limits E x by b) rs = (more (1 + roots_of_block (block_of b.now)) (position_in rs), λ p. refl)
nothing_adds (nothing_rests.Declares E ds is n) rs = (more (roots_of_declarations (declarations ds.now) + roots_of_items (items is.now)) (position_in rs), λ p. refl)
nothing_adds (nothing_rests.Initialises E vs k) rs = (more (sum_by roots_of_variable (map variable vs.now)) (position_in rs), λ p. refl)

exit_adds : (r : ExitRest) → Adds (exit_rest r) (exit_rest r)
exit_adds exit_rests.Returns rs = (same (position_in rs), λ p. refl)
exit_adds (exit_rests.Results n) rs = (refl, λ p. refl)
exit_adds (exit_rests.Skips that) rs = (more (roots_of_block (block_of that.now)) (position_in rs), λ p. refl)
exit_adds (exit_rests.WhileBody E c b) rs = (same (position_in rs), λ p. refl)
exit_adds (exit_rests.RepeatBody E b) rs = (same (position_in rs), λ p. refl)
exit_adds (exit_rests.RepeatWhileBody E b c) rs = (more 1 (position_in rs), λ p. refl)
exit_adds (exit_rests.ForBody E r) rs = (same (position_in rs), λ p. refl)
exit_adds exit_rests.Cases rs = (same (position_in rs), λ p. refl)
exit_adds (exit_rests.Follows E is) rs = (more (roots_of_items (items is.now)) (position_in rs), λ p. refl)
exit_adds (exit_rests.Listed E is) rs = (same (position_in rs), λ p. refl)

rest_adds : (r : Rest) (rs : List machine.Rest) (vs : List ℕ) → opened r ≡ None → (position_in (stacked rs vs r) ≡ joined (position_in (stacked [] [] r)) (position_in rs)) × ((p : trails.Position) → trail_from p (stacked rs vs r) ≡ trail_from p rs)
rest_adds (rests.Number r) rs vs none = number_adds vs r rs
rest_adds (rests.Value r) rs vs none = value_adds r rs
rest_adds (rests.Calls fresh f) rs vs none = (same (position_in rs), λ p. refl)
rest_adds (rests.Truth r) rs vs none = truth_adds r rs
rest_adds (rests.Nothing r) rs vs none = nothing_adds r rs
rest_adds (rests.Exit r) rs vs none = exit_adds r rs
rest_adds (rests.Closes None n a) rs vs none = (same (position_in rs), λ p. refl)
rest_adds (rests.Closes (Some call) n a) rs vs none = absurd (differ call (sym none))
rest_adds (rests.Given v first) rs vs none = (same (position_in rs), λ p. refl)

-- a standing in this call, at this position
abbrev at : OpenCall → trails.Position → trails.Standing
at call p = record { call = open_call call; position = p }

call_ends : (r : Rest) (call : OpenCall) (rs : List machine.Rest) (vs : List ℕ) → opened r ≡ Some call → (position_in (stacked rs vs r) ≡ nowhere) × ((p : trails.Position) → trail_from p (stacked rs vs r) ≡ at call p ∷ trail_in rs)
call_ends (rests.Number r) call rs vs some = absurd (differ call some)
call_ends (rests.Value r) call rs vs some = absurd (differ call some)
call_ends (rests.Calls fresh f) call rs vs some = absurd (differ call some)
call_ends (rests.Truth r) call rs vs some = absurd (differ call some)
call_ends (rests.Nothing r) call rs vs some = absurd (differ call some)
call_ends (rests.Exit r) call rs vs some = absurd (differ call some)
call_ends (rests.Closes None n a) call rs vs some = absurd (differ call some)
call_ends (rests.Closes (Some it) n a) call rs vs some =
    let same : it ≡ call = (cc) in
    (refl, λ p. ap (λ c. at c p ∷ trail_in rs) same)
call_ends (rests.Given v first) call rs vs some = absurd (differ call some)

-- The lines found so far, and those of the continuations that are left, are all. The position is that by the continuations of a body that
-- have been read.
pub record Reached (all left : List Rest) (found : List Standing) (place : Position) : Type 0 where
  pub exact : trails.Position
  pub is : place ≡ saturated exact
  pub whole : map shown (trail_in (stack all)) ≡ found ++ map shown (trail_from (joined exact (position_in (stack left))) (stack left))

pub reached_first : (all : List Rest) (n : ℕ) (place : Position) → n ≡ length all → place ≡ saturated nowhere → Reached all (take n all) [] place
reached_first all n place whole new =
    record {
      exact = nowhere;
      is = new;
      whole =
          ap (λ xs. map shown (trail_in (stack xs))) (sym (take_all n all (omega (arith, whole))))
          ∙ ap (λ p. map shown (trail_from p (stack (take n all)))) (same (position_in (stack (take n all))));
    }

reached_call : (all left others : List Rest) (r : Rest) (call : OpenCall) (found : List Standing) (place next : Position) (one : Standing) → left ≡ others ++ r ∷ [] → opened r ≡ Some call → ((p : trails.Position) → place ≡ saturated p → one ≡ shown (at call p)) → next ≡ saturated nowhere → Reached all left found place → Reached all others (found ++ one ∷ []) next
reached_call all left others r call found place next one split ends line new h =
    record {
      exact = nowhere;
      is = new;
      whole =
          let e = call_ends r call (stack others) (given others) ends in
          let under = stacked (stack others) (given others) r in
          let here : trail_from (joined h.exact (position_in (stack left))) (stack left) ≡ at call h.exact ∷ trail_in (stack others) =
          ap (λ rs. trail_from (joined h.exact (position_in rs)) rs) (ap stack split ∙ stack_more others r)
          ∙ (ap (λ q. trail_from q under) (ap (joined h.exact) e.0 ∙ joined_nowhere h.exact) ∙ e.1 h.exact) in
          h.whole
          ∙ (ap (λ ss. found ++ map shown ss) here
          ∙ (ap (λ s. found ++ s ∷ map shown (trail_in (stack others))) (sym (line h.exact h.is))
          ∙ (sym (append_assoc found (one ∷ []) (map shown (trail_in (stack others))))
          ∙ ap (λ p. (found ++ one ∷ []) ++ map shown (trail_from p (stack others))) (same (position_in (stack others))))));
    }

reached_other : (all left others : List Rest) (r : Rest) (found : List Standing) (place told next : Position) → left ≡ others ++ r ∷ [] → opened r ≡ None → told ≡ saturated (position_in (stacked [] [] r)) → ((p q : trails.Position) → place ≡ saturated p → told ≡ saturated q → next ≡ saturated (joined p q)) → Reached all left found place → Reached all others found next
reached_other all left others r found place told next split none tells joins h =
    record {
      exact = joined h.exact (position_in (stacked [] [] r));
      is = joins h.exact (position_in (stacked [] [] r)) h.is tells;
      whole =
          let e = rest_adds r (stack others) (given others) none in
          let under = stacked (stack others) (given others) r in
          let here : trail_from (joined h.exact (position_in (stack left))) (stack left) ≡ trail_from (joined (joined h.exact (position_in (stacked [] [] r))) (position_in (stack others))) (stack others) =
          ap (λ rs. trail_from (joined h.exact (position_in rs)) rs) (ap stack split ∙ stack_more others r)
          ∙ (e.1 (joined h.exact (position_in under))
          ∙ ap (λ q. trail_from q (stack others)) (ap (joined h.exact) e.0 ∙ sym (joined_assoc h.exact (position_in (stacked [] [] r)) (position_in (stack others))))) in
          h.whole ∙ ap (λ ss. found ++ map shown ss) here;
    }

split_at : (all : List Rest) (n left : ℕ) (r : Rest) → left + 1 ≡ n → left < length all → r ≡ get_or all left r → take n all ≡ take left all ++ r ∷ []
split_at all n left r next inside read =
    sym (ap (λ m. take m all) next) ∙ (take_more all left r inside ∙ ap (λ x. take left all ++ x ∷ []) (sym read))

pub call_read : (all : List Rest) (n left : ℕ) (r : Rest) (found after : List Standing) (place next : Position) (o : Option OpenCall) (call : OpenCall) (one : Standing) → left + 1 ≡ n → left < length all → r ≡ get_or all left r → o ≡ opened r → o ≡ Some call → after ≡ found ++ one ∷ [] → ((p : trails.Position) → place ≡ saturated p → one ≡ shown (at call p)) → next ≡ saturated nowhere → Reached all (take n all) found place → Reached all (take left all) after next
call_read all n left r found after place next o call one down inside read is some pushed line new h =
    subst (λ ss. Reached all (take left all) ss next) (sym pushed)
    (reached_call all (take n all) (take left all) r call found place next one (split_at all n left r down inside read) (sym is ∙ some) line new h)

pub other_read : (all : List Rest) (n left : ℕ) (r : Rest) (found : List Standing) (place told next : Position) (o : Option OpenCall) → left + 1 ≡ n → left < length all → r ≡ get_or all left r → o ≡ opened r → o ≡ None → told ≡ saturated (position_in (stacked [] [] r)) → ((p q : trails.Position) → place ≡ saturated p → told ≡ saturated q → next ≡ saturated (joined p q)) → Reached all (take n all) found place → Reached all (take left all) found next
other_read all n left r found place told next o down inside read is none tells joins h =
    reached_other all (take n all) (take left all) r found place told next (split_at all n left r down inside read) (sym is ∙ none) tells joins h

-- all lines are found, or ten are
pub all_read : (all left : List Rest) (found : List Standing) (place : Position) → left ≡ [] → length found ≤ 10 → Reached all left found place → found ≡ map shown (take 10 (trail_in (stack all)))
all_read all left found place none few h =
    let e : map shown (trail_in (stack all)) ≡ found = h.whole ∙ (ap (λ xs. found ++ map shown (trail_from (joined h.exact (position_in (stack xs))) (stack xs))) none ∙ append-nil found) in
    sym (sym (take-map shown 10 (trail_in (stack all))) ∙ (ap (take 10) e ∙ take_all 10 found few))

pub ten_read : (all left : List Rest) (found : List Standing) (place : Position) → length found ≡ 10 → Reached all left found place → found ≡ map shown (take 10 (trail_in (stack all)))
ten_read all left found place ten h =
    let others = map shown (trail_from (joined h.exact (position_in (stack left))) (stack left)) in
    sym (sym (take-map shown 10 (trail_in (stack all))) ∙ (ap (take 10) h.whole ∙ (take-append-le 10 found others (omega (arith, ten)) ∙ take_all 10 found (omega (arith, ten)))))

-- so many calls end among these continuations
abbrev Ending : List machine.Rest → ℕ → Type 0
Ending rs n = (p : trails.Position) → length (trail_from p rs) ≡ n

-- whether a call ends with this continuation
abbrev ends : Rest → Bool
ends r = is_some (opened r)

rest_ends : (r : Rest) (rs : List machine.Rest) (vs : List ℕ) (n : ℕ) → Ending rs n → Ending (stacked rs vs r) (cond (ends r) 1 0 + n)
rest_ends r rs vs n h = by_call (opened r) refl where
  by_call : (o : Option OpenCall) → opened r ≡ o → Ending (stacked rs vs r) (cond (ends r) 1 0 + n)
  by_call None is p = ap length ((rest_adds r rs vs is).1 p) ∙ (h p ∙ (sym (zero-add n) ∙ ap (λ o. cond (is_some o) 1 0 + n) (sym is)))
  by_call (Some call) is p =
      let e : length (at call p ∷ trail_in rs) ≡ 1 + n = omega (arith, h (position_in rs)) in
      ap length ((call_ends r call rs vs is).1 p) ∙ (e ∙ ap (λ o. cond (is_some o) 1 0 + n) (sym is))

ends_on : (xs : List Rest) (rs : List machine.Rest) (vs : List ℕ) (n : ℕ) → Ending rs n → Ending (stack_on rs vs xs) (count_by ends xs + n)
ends_on [] rs vs n h = λ p. h p ∙ sym (zero-add n)
ends_on (x ∷ xs) rs vs n h =
    let e : count_by ends (x ∷ xs) ≡ cond (ends x) 1 0 + count_by ends xs = sum_by-cons (λ y. cond (ends y) 1 0) x xs in
    λ p. ends_on xs (stacked rs vs x) (then_given vs x) (cond (ends x) 1 0 + n) (rest_ends x rs vs n h) p ∙ omega (arith, e)

pub calls_counted : (xs : List Rest) → count_by (λ r. is_some (opened r)) xs ≡ length (trail_in (stack xs))
calls_counted xs = sym (ends_on xs [] [] 0 (λ p. refl) (position_in (stack xs)) ∙ add-zero (count_by ends xs))
