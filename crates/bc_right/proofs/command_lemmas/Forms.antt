-- The forms of commands, each from what its parts do.
use Rattle.std.proofs.Common.{◌≡◌, ℕ, ◌+◌, ◌<◌, ◌≤◌, ◌==◌, ◌||◌, Bool, true, false, not, List, [], ◌∷◌, refl, sym, ap, ◌∙◌, subst, arith}
use Rattle.std.specs.Prelude.{cond}
use Rattle.bc_text_items.specs.declared.item.Base.TheVariants as bases
use Rattle.bc_text_items.specs.declared.item.Function.TheVariants as functions
use Rattle.bc_machine_defs.specs.declared.state.End.TheVariants as machine_ends
use Rattle.bc_machine_defs.specs.State.{State}
use Rattle.bc_word.specs.Words.{holds}
use Rattle.bc_core.specs.Commands.{Items, no_item, command, case, default, label}
use Rattle.bc_core.specs.Outcome as outcomes
use Rattle.bc_core.specs.Outcome.{Done, Run, Finished, then_do, choose, ends, Round, Again, Leave, repeated}
use Rattle.bc_core.specs.Exit.{Exit, Past, Broke, Looped, LeftCases, Returned, Resulted, Jumped, past, onward}
use Rattle.bc_core.specs.Loop.{LoopRound, end_relation, back, leave, after_body, agrees, while_loop, repeat_loop, repeat_while_loop}
use Rattle.bc_core.specs.Lists.{Entry, Beginning, AtCase, AtDefault, AtLabel, has_case, has_label, after_list, listed}
use Rattle.bc_right.specs.steps.Leads.{machine}
use Rattle.bc_right.proofs.step_lemmas.Steps.{step_stops, stops_from}
use Rattle.bc_gen_defs.specs.Emit.{Exits, execute, labelled, defaulted}
use Rattle.bc_right.specs.steps.Landing.{Moment, Later, Stands, Reached, Goal, Lands, Does}
use Rattle.bc_right.specs.steps.Goals.{value_goal, jumps_to, test_goal, end_goal}
use Rattle.bc_right.specs.steps.Items.{JumpAt}
use Rattle.bc_right.specs.commands.Exits.{exit_goal}
use Rattle.bc_right.proofs.step_lemmas.Steps.{plain, at_place, jumped, lands_done, Onward, does_done, does_then, then_raw, does_onto, does_choose, does_at, does_jump, does_turn, turn, acts}
use Rattle.bc_right.proofs.command_lemmas.Rounds.{round_goal, Raises, does_repeated}

-- the test of a FOR, which compares its variable with the stored limit n
abbrev pub for_goal : (by n target end : ℕ) → Goal ℕ
for_goal by n target end i a b c gain turns = jumps_to (holds (end_relation by) i n) target end c gain

-- for a test whose sense is the opposite of a condition's
abbrev pub Sides : (holds : Bool) → (target mid c : ℕ) → Type 0
Sides holds target mid c = (holds ≡ true → c ≡ mid) × (holds ≡ false → c ≡ target)

other_sense : (sense t : Bool) (target mid c g : ℕ) → jumps_to (agrees (not sense) t) target mid c g → Sides (agrees sense t) target mid c
other_sense true true target mid c g h = (λ e. h, λ e. cc)
other_sense true false target mid c g h = (λ e. cc, λ e. h.0)
other_sense false true target mid c g h = (λ e. cc, λ e. h.0)
other_sense false false target mid c g h = (λ e. h, λ e. cc)

abbrev pub has_default : Items → Bool
has_default no_item = false
has_default (command c is) = has_default is
has_default (case k is) = has_default is
has_default (default is) = true
has_default (label l is) = has_default is

-- the list has this point of entry
abbrev pub Entered : Entry → Items → Type 0
Entered Beginning is = Unit {0}
Entered (AtCase v) is = has_case is v ≡ true
Entered AtDefault is = has_default is ≡ true
Entered (AtLabel l) is = has_label is l ≡ true

-- the label of the first CASE with this value, where the list's first CASE or DEFAULT has label f
abbrev pub cased : Items → (f : ℕ) → ℕ → ℕ
cased no_item f v = 0
cased (command c is) f v = cased is f v
cased (case k is) f v = cond (k == v) f (cased is (f + 1) v)
cased (default is) f v = cased is (f + 1) v
cased (label k is) f v = cased is f v

-- the address at which the code of a list that begins at c is entered
abbrev pub starts_at : (ℕ → ℕ) → Exits → Items → (first : ℕ) → ℕ → Entry → ℕ
starts_at address E is first c Beginning = c
starts_at address E is first c (AtCase v) = address (cased is first v)
starts_at address E is first c AtDefault = address (defaulted is first 0)
starts_at address E is first c (AtLabel l) = address (E.labels l)

-- the exits in a list whose labels are numbered from f on
abbrev pub in_list : Exits → Items → ℕ → Exits
in_list E is f = record E { labels = labelled is f E.labels }

-- loops: E are the exits around the loop; l, l2, l3 are the labels of the beginning, of BREAK and of LOOP
abbrev pub in_loop : Exits → (l2 l3 : ℕ) → Exits
in_loop E l2 l3 = record E { broken = l2; looped = l3 }

not_here : (is_here rest : Bool) → (is_here || rest) ≡ false → (is_here ≡ false) × (rest ≡ false)
not_here true true e = absurd (let f : true ≡ false = e in cc)
not_here true false e = absurd (let f : true ≡ false = e in cc)
not_here false rest e = (refl, e)

pub labelled_outer : (is : Items) (f : ℕ) (outer : ℕ → ℕ) (l : ℕ) → has_label is l ≡ false → labelled is f outer l ≡ outer l
labelled_outer no_item f outer l e = refl
labelled_outer (command c is) f outer l e = labelled_outer is f outer l e
labelled_outer (case k is) f outer l e = labelled_outer is f outer l e
labelled_outer (default is) f outer l e = labelled_outer is f outer l e
labelled_outer (label k is) f outer l e =
    let h = not_here (k == l) (has_label is l) e in
    ap (λ z. cond z f (labelled is (f + 1) outer l)) h.0 ∙ labelled_outer is (f + 1) outer l h.1

module _ (address : ℕ → ℕ) (S K : Moment) (old : Later S K) (most : ℕ) where
  pub raise_exit : (E : Exits) (end : ℕ) → Raises (λ limit. exit_goal address S E end limit)
  raise_exit E end low high le Past a b c g turns h = h
  raise_exit E end low high le Broke a b c g turns h = h
  raise_exit E end low high le Looped a b c g turns h = h
  raise_exit E end low high le LeftCases a b c g turns h = h
  raise_exit E end low high le Returned a b c g turns h = h
  raise_exit E end low high le (Resulted v) a b c g turns h = h
  raise_exit E end low high le (Jumped l) a b c g turns h = (h.0, omega (arith, h.1))

  -- code that continues elsewhere
  pub goes_to : {top p limit a c : ℕ} (E : Exits) (mid end : ℕ) (r : Run Exit) → ((O : Moment) (x : State) (t a1 b1 c1 g : ℕ) (m : List ℕ) (st : outcomes.State) → c1 ≡ mid → Reached K most O x t top p a1 b1 c1 g m st → st.turns ≤ limit → Lands K most O x t top p limit (exit_goal address S E end limit) (Done Past st))
      → Does K most top p limit a c (exit_goal address S E mid limit) r → Does K most top p limit a c (exit_goal address S E end limit) r
  goes_to {top = top} {p = p} {limit = limit} E mid end r k d = does_onto (exit_goal address S E mid limit) (exit_goal address S E end limit) r d (λ O x t. on O x t) where
    on : (O : Moment) (x : State) (t : ℕ) → Onward K most O x t top p limit (exit_goal address S E mid limit) (exit_goal address S E end limit) Done
    on O x t Past a b c g m st r le h = k O x t a b c g m st h r le
    on O x t Broke a b c g m st r le h = lands_done limit (exit_goal address S E end limit) Broke r le h
    on O x t Looped a b c g m st r le h = lands_done limit (exit_goal address S E end limit) Looped r le h
    on O x t LeftCases a b c g m st r le h = lands_done limit (exit_goal address S E end limit) LeftCases r le h
    on O x t Returned a b c g m st r le h = lands_done limit (exit_goal address S E end limit) Returned r le h
    on O x t (Resulted v) a b c g m st r le h = lands_done limit (exit_goal address S E end limit) (Resulted v) r le h
    on O x t (Jumped l) a b c g m st r le h = lands_done limit (exit_goal address S E end limit) (Jumped l) r le h

  pub ends_at : {top p limit a c : ℕ} (E : Exits) (mid end : ℕ) (r : Run Exit) → mid ≡ end → Does K most top p limit a c (exit_goal address S E mid limit) r → Does K most top p limit a c (exit_goal address S E end limit) r
  ends_at {top = top} {p = p} {limit = limit} {a = a} {c = c} E mid end r e d = subst (λ z. Does K most top p limit a c (exit_goal address S E z limit) r) e d

  -- a command and those after it
  pub in_order : {top p limit a c : ℕ} (E : Exits) (mid end : ℕ) (r rest : Run Exit) → Does K most top p limit a c (exit_goal address S E mid limit) r → ((a1 : ℕ) → Does K most top p limit a1 mid (exit_goal address S E end limit) rest) → Does K most top p limit a c (exit_goal address S E end limit) (then_do r (onward rest))
  in_order {top = top} {p = p} {limit = limit} E mid end r rest d k = then_raw (exit_goal address S E mid limit) (exit_goal address S E end limit) r (onward rest) d (λ O x t. on O x t) where
    on : (O : Moment) (x : State) (t : ℕ) → Onward K most O x t top p limit (exit_goal address S E mid limit) (exit_goal address S E end limit) (onward rest)
    on O x t Past a b c g m st r le h = (k a).from O x t b m st le (plain (at_place h r))
    on O x t Broke a b c g m st r le h = lands_done limit (exit_goal address S E end limit) Broke r le h
    on O x t Looped a b c g m st r le h = lands_done limit (exit_goal address S E end limit) Looped r le h
    on O x t LeftCases a b c g m st r le h = lands_done limit (exit_goal address S E end limit) LeftCases r le h
    on O x t Returned a b c g m st r le h = lands_done limit (exit_goal address S E end limit) Returned r le h
    on O x t (Resulted v) a b c g m st r le h = lands_done limit (exit_goal address S E end limit) (Resulted v) r le h
    on O x t (Jumped l) a b c g m st r le h = lands_done limit (exit_goal address S E end limit) (Jumped l) r le h

  pub assign_lands : {top p limit a c : ℕ} (E : Exits) (end : ℕ) (r : Run (Unit {0})) → Does K most top p limit a c (end_goal end) r → Does K most top p limit a c (exit_goal address S E end limit) (then_do r past)
  assign_lands {limit = limit} E end r d = does_then (end_goal end) (exit_goal address S E end limit) r past d (λ u a1 b1 c1 g turns h. does_done (exit_goal address S E end limit) Past (λ b2 n le. h))

  pub call_lands : {top p limit a c : ℕ} (E : Exits) (end : ℕ) (r : Run ℕ) → Does K most top p limit a c (value_goal end) r → Does K most top p limit a c (exit_goal address S E end limit) (then_do r (λ v. Done Past))
  call_lands {limit = limit} E end r d = does_then (value_goal end) (exit_goal address S E end limit) r (λ v. Done Past) d (λ v a1 b1 c1 g turns h. does_done (exit_goal address S E end limit) Past (λ b2 n le. h.1))

  pub resultis_lands : {top p limit a c : ℕ} (E : Exits) (mid end : ℕ) (r : Run ℕ) → Does K most top p limit a c (value_goal mid) r → JumpAt address S mid E.result → Does K most top p limit a c (exit_goal address S E end limit) (then_do r (λ v. Done (Resulted v)))
  resultis_lands {limit = limit} E mid end r d j = does_then (value_goal mid) (exit_goal address S E end limit) r (λ v. Done (Resulted v)) d
      (λ v a1 b1 c1 g turns h. does_done (exit_goal address S E end limit) (Resulted v) (λ b2 n le. (h.0, subst (λ z. JumpAt address S z E.result) (sym h.1) j)))

  pub finish_lands : {top p limit a c end : ℕ} (goal : Goal Exit) → Stands address S c (execute 22 ∷ []) end → Does K most top p limit a c goal (ends Finished)
  finish_lands {p = p} {a = a} {c = c} goal s = record {
    from = λ O x t b m st le here.
        let y = machine a b c p m st.streams in
        let h = here.leads.by 1 in
        (h.0, stops_from x y h.0 1 machine_ends.Finished st.streams h.2 (step_stops y y machine_ends.Finished (acts old functions.Execute false bases.Number 22 [] s here)));
  }

  pub if_lands : {top p limit a c : ℕ} (E : Exits) (l mid end : ℕ) (sense : Bool) (test : Run Bool) (body : Run Exit) → Does K most top p limit a c (test_goal (not sense) (address l) mid) test → ((a1 : ℕ) → Does K most top p limit a1 mid (exit_goal address S E end limit) body) → address l ≡ end
      → Does K most top p limit a c (exit_goal address S E end limit) (then_do test (λ t. choose (agrees sense t) body (Done Past)))
  if_lands {limit = limit} E l mid end sense test body ht hb e =
      let goal = exit_goal address S E end limit in
      does_then (test_goal (not sense) (address l) mid) goal test (λ t. choose (agrees sense t) body (Done Past)) ht
      (λ t a1 b1 c1 g turns w. let sides = other_sense sense t (address l) mid c1 g w in
      does_choose goal (agrees sense t) body (Done Past) (λ h. does_at goal body (sides.0 h) (hb a1)) (λ h. does_done goal Past (λ b2 n le. sides.1 h ∙ e)))

  pub test_lands : {top p limit a c : ℕ} (E : Exits) (l mid end : ℕ) (test : Run Bool) (this that : Run Exit) → Does K most top p limit a c (test_goal false (address l) mid) test → ((a1 : ℕ) → Does K most top p limit a1 mid (exit_goal address S E end limit) this) → ((a1 : ℕ) → Does K most top p limit a1 (address l) (exit_goal address S E end limit) that)
      → Does K most top p limit a c (exit_goal address S E end limit) (then_do test (λ t. choose t this that))
  test_lands {limit = limit} E l mid end test this that ht hb hc =
      let goal = exit_goal address S E end limit in
      does_then (test_goal false (address l) mid) goal test (λ t. choose t this that) ht
      (λ t a1 b1 c1 g turns w. let sides = other_sense true t (address l) mid c1 g w in
      does_choose goal t this that (λ h. does_at goal this (sides.0 h) (hb a1)) (λ h. does_at goal that (sides.1 h) (hc a1)))

  abbrev pub loop_goal : Exits → (l end limit : ℕ) → Goal (Round (Unit {0}) Exit)
  loop_goal E l end limit = round_goal (λ u. address l) (λ u. Unit {0}) limit (exit_goal address S E end limit)

  body_lands : {top p limit a c : ℕ} (E : Exits) (l l2 l3 mid end : ℕ) (body : Run Exit) (rest : LoopRound) → Does K most top p limit a c (exit_goal address S (in_loop E l2 l3) mid limit) body → address l2 ≡ end
      → ((a1 : ℕ) → Does K most top p limit a1 mid (loop_goal E l end limit) rest) → ((a1 c1 : ℕ) → JumpAt address S c1 l3 → Does K most top p limit a1 c1 (loop_goal E l end limit) rest)
      → Does K most top p limit a c (loop_goal E l end limit) (then_do body (after_body rest))
  body_lands {top = top} {p = p} {limit = limit} E l l2 l3 mid end body rest d e k j = then_raw (exit_goal address S (in_loop E l2 l3) mid limit) (loop_goal E l end limit) body (after_body rest) d (λ O x t. on O x t) where
    goal : Goal (Round (Unit {0}) Exit)
    goal = loop_goal E l end limit

    on : (O : Moment) (x : State) (t : ℕ) → Onward K most O x t top p limit (exit_goal address S (in_loop E l2 l3) mid limit) (loop_goal E l end limit) (after_body rest)
    on O x t Past a b c g m st r le h = (k a).from O x t b m st le (plain (at_place h r))
    on O x t Looped a b c g m st r le h = (j a c h).from O x t b m st le (plain r)
    on O x t Broke a b c g m st r le h = lands_done limit goal (Leave Past) (jumped old h r) le e
    on O x t LeftCases a b c g m st r le h = lands_done limit goal (Leave LeftCases) r le h
    on O x t Returned a b c g m st r le h = lands_done limit goal (Leave Returned) r le h
    on O x t (Resulted v) a b c g m st r le h = lands_done limit goal (Leave (Resulted v)) r le h
    on O x t (Jumped n) a b c g m st r le h = lands_done limit goal (Leave (Jumped n)) r le h

  back_lands : {top p limit a c : ℕ} (E : Exits) (l end : ℕ) → JumpAt address S c l → Does K most top p limit a c (loop_goal E l end limit) back
  back_lands {limit = limit} E l end j = does_turn old (loop_goal E l end limit) (Again tt) j (λ b2 n lt. (refl, tt, lt))

  -- a loop, from one iteration of it
  loop_lands : {top p limit a : ℕ} (E : Exits) (l end : ℕ) (round : LoopRound) → ((limit a : ℕ) → Does K most top p limit a (address l) (loop_goal E l end limit) round) → Does K most top p limit a (address l) (exit_goal address S E end limit) (repeated (λ u. round) tt)
  loop_lands E l end round h = does_repeated (λ u. round) (λ u. address l) (λ u. Unit {0}) (λ limit. exit_goal address S E end limit) (raise_exit E end) (λ u is limit a. h limit a) tt tt

  pub repeat_lands : {top p limit a : ℕ} (E : Exits) (l l2 mid end : ℕ) (body : Run Exit) → ((limit a : ℕ) → Does K most top p limit a (address l) (exit_goal address S (in_loop E l2 l) mid limit) body) → JumpAt address S mid l → address l2 ≡ end
      → Does K most top p limit a (address l) (exit_goal address S E end limit) (repeat_loop body)
  repeat_lands E l l2 mid end body d j e = loop_lands E l end _ (λ limit a. body_lands E l l2 l mid end body back (d limit a) e (λ a1. back_lands E l end j) (λ a1 c1 j1. back_lands E l end j1))

  pub while_lands : {top p limit a : ℕ} (E : Exits) (l l2 mid last end : ℕ) (sense : Bool) (test : Run Bool) (body : Run Exit) → ((limit a : ℕ) → Does K most top p limit a (address l) (test_goal (not sense) (address l2) mid) test)
      → ((limit a : ℕ) → Does K most top p limit a mid (exit_goal address S (in_loop E l2 l) last limit) body) → JumpAt address S last l → address l2 ≡ end
      → Does K most top p limit a (address l) (exit_goal address S E end limit) (while_loop sense test body)
  while_lands E l l2 mid last end sense test body ht hb j e = loop_lands E l end _ (λ limit a.
      let goal = loop_goal E l end limit in
      let more = then_do body (after_body back) in
      does_then (test_goal (not sense) (address l2) mid) goal test (λ t. choose (agrees sense t) more leave) (ht limit a)
      (λ t a1 b1 c1 g turns w. let sides = other_sense sense t (address l2) mid c1 g w in
      does_choose goal (agrees sense t) more leave (λ h. does_at goal more (sides.0 h) (body_lands E l l2 l last end body back (hb limit a1) e (λ a2. back_lands E l end j) (λ a2 c2 j2. back_lands E l end j2)))
      (λ h. does_done goal (Leave Past) (λ b2 n le. sides.1 h ∙ e))))

  pub repeat_while_lands : {top p limit a : ℕ} (E : Exits) (l l2 l3 mid end : ℕ) (sense : Bool) (test : Run Bool) (body : Run Exit) → ((limit a : ℕ) → Does K most top p limit a (address l) (exit_goal address S (in_loop E l2 l3) mid limit) body)
      → ((limit a : ℕ) → Does K most top p limit a mid (test_goal sense (address l) end) test) → address l3 ≡ mid → address l2 ≡ end
      → Does K most top p limit a (address l) (exit_goal address S E end limit) (repeat_while_loop body sense test)
  repeat_while_lands {top = top} {p = p} E l l2 l3 mid end sense test body hb ht e3 e = loop_lands E l end _ (λ limit a. body_lands E l l2 l3 mid end body rest (hb limit a) e (λ a1. rest_lands limit a1)
      (λ a1 c1 j1. does_jump old (loop_goal E l end limit) rest j1 (does_at (loop_goal E l end limit) rest e3 (rest_lands limit a1)))) where
        rest : LoopRound
        rest = then_do test (λ t. choose (agrees sense t) back leave)

        rest_lands : (limit a : ℕ) → Does K most top p limit a mid (loop_goal E l end limit) rest
        rest_lands limit a = then_raw (test_goal sense (address l) end) goal test (λ t. choose (agrees sense t) back leave) (ht limit a) (λ O x t v a1 b1 c1 g m st r le w. on O x t (agrees sense v) a1 b1 c1 g m st r le w) where
          goal : Goal (Round (Unit {0}) Exit)
          goal = loop_goal E l end limit

          on : (O : Moment) (x : State) (t : ℕ) (holds : Bool) (a b c g : ℕ) (m : List ℕ) (st : outcomes.State) → Reached K most O x t top p a b c g m st → st.turns ≤ limit → jumps_to holds (address l) end c g → Lands K most O x t top p limit goal (choose holds back leave st)
          on O x t true a b c g m st r le w = turn top p limit goal (Done (Again tt)) w.1 r le (λ n lt there. lands_done limit goal (Again tt) there (omega arith) (w.0, tt, lt))
          on O x t false a b c g m st r le w = lands_done limit goal (Leave Past) r le w

  pub for_loop_lands : {top p limit a : ℕ} (E : Exits) (l l2 l3 mid last mid4 end by n : ℕ) (variable : Run ℕ) (step : Run (Unit {0})) (body : Run Exit) → ((limit a : ℕ) → Does K most top p limit a (address l) (for_goal by n (address l2) mid) variable)
      → ((limit a : ℕ) → Does K most top p limit a mid (exit_goal address S (in_loop E l2 l3) last limit) body) → ((limit a : ℕ) → Does K most top p limit a last (end_goal mid4) step)
      → address l3 ≡ last → JumpAt address S mid4 l → address l2 ≡ end
      → Does K most top p limit a (address l) (exit_goal address S E end limit) (repeated (λ u. then_do variable (λ i. choose (holds (end_relation by) i n) leave (then_do body (after_body (then_do step (λ u. back)))))) tt)
  for_loop_lands {top = top} {p = p} E l l2 l3 mid last mid4 end by n variable step body ht hb hs e3 j e = loop_lands E l end _ (λ limit a.
      does_then (for_goal by n (address l2) mid) (loop_goal E l end limit) variable (λ i. choose (holds (end_relation by) i n) leave more) (ht limit a)
      (λ i a1 b1 c1 g turns w. on limit a1 c1 g (holds (end_relation by) i n) w)) where
        rest : LoopRound
        rest = then_do step (λ u. back)

        more : LoopRound
        more = then_do body (after_body rest)

        rest_lands : (limit a : ℕ) → Does K most top p limit a last (loop_goal E l end limit) rest
        rest_lands limit a = does_then (end_goal mid4) (loop_goal E l end limit) step (λ u. back) (hs limit a) (λ u a1 b1 c1 g turns h. does_at (loop_goal E l end limit) back h (back_lands E l end j))

        on : (limit a c g : ℕ) (over : Bool) → jumps_to over (address l2) mid c g → Does K most top p limit a c (loop_goal E l end limit) (choose over leave more)
        on limit a c g true w = record { from = (does_done (loop_goal E l end limit) (Leave Past) (λ b2 k le. w.0 ∙ e)).from }
        on limit a c g false w = record {
          from = (does_at (loop_goal E l end limit) more w (body_lands E l l2 l3 last end body rest (hb limit a) e (λ a1. rest_lands limit a1)
              (λ a1 c1 j1. does_jump old (loop_goal E l end limit) rest j1 (does_at (loop_goal E l end limit) rest e3 (rest_lands limit a1))))).from;
        }

  -- lists
  after_items : {top p limit : ℕ} (E : Exits) (is : Items) (f first c end : ℕ) → (O : Moment) (x : State) (t : ℕ)
      → Onward K most O x t top p limit (exit_goal address S (in_list E is f) end limit) (round_goal (starts_at address (in_list E is f) is first c) (λ at. Entered at is) limit (exit_goal address S E end limit)) (after_list (has_label is))
  after_items {top = top} {p = p} {limit = limit} E is f first c end O x t = on where
    goal : Goal (Round Entry Exit)
    goal = round_goal (starts_at address (in_list E is f) is first c) (λ at. Entered at is) limit (exit_goal address S E end limit)

    to_label : (l : ℕ) (here : Bool) (a b c1 g : ℕ) (m : List ℕ) (st : outcomes.State) → has_label is l ≡ here → Reached K most O x t top p a b c1 g m st → st.turns ≤ limit → (c1 ≡ address (labelled is f E.labels l)) × (st.turns < limit) → Lands K most O x t top p limit goal (Done (cond here (Again (AtLabel l)) (Leave (Jumped l))) st)
    to_label l true a b c1 g m st e r le h = lands_done limit goal (Again (AtLabel l)) r le (h.0, e, h.1)
    to_label l false a b c1 g m st e r le h = lands_done limit goal (Leave (Jumped l)) r le (h.0 ∙ ap address (labelled_outer is f E.labels l e), h.1)

    on : Onward K most O x t top p limit (exit_goal address S (in_list E is f) end limit) (round_goal (starts_at address (in_list E is f) is first c) (λ at. Entered at is) limit (exit_goal address S E end limit)) (after_list (has_label is))
    on Past a b c1 g m st r le h = lands_done limit goal (Leave Past) r le h
    on Broke a b c1 g m st r le h = lands_done limit goal (Leave Broke) r le h
    on Looped a b c1 g m st r le h = lands_done limit goal (Leave Looped) r le h
    on LeftCases a b c1 g m st r le h = lands_done limit goal (Leave LeftCases) r le h
    on Returned a b c1 g m st r le h = lands_done limit goal (Leave Returned) r le h
    on (Resulted v) a b c1 g m st r le h = lands_done limit goal (Leave (Resulted v)) r le h
    on (Jumped l) a b c1 g m st r le h = to_label l (has_label is l) a b c1 g m st refl r le h

  pub list_lands : {top p limit a : ℕ} (E : Exits) (is : Items) (f first c end : ℕ) (items : Entry → Run Exit)
      → ((at : Entry) → Entered at is → (limit a : ℕ) → Does K most top p limit a (starts_at address (in_list E is f) is first c at) (exit_goal address S (in_list E is f) end limit) (items at))
      → (at : Entry) → Entered at is → Does K most top p limit a (starts_at address (in_list E is f) is first c at) (exit_goal address S E end limit) (listed (has_label is) items at)
  list_lands E is f first c end items h at entered =
      does_repeated (λ at1. then_do (items at1) (after_list (has_label is))) (starts_at address (in_list E is f) is first c) (λ at1. Entered at1 is) (λ limit. exit_goal address S E end limit) (raise_exit E end)
      (λ at1 in1 limit a. then_raw (exit_goal address S (in_list E is f) end limit) (round_goal (starts_at address (in_list E is f) is first c) (λ at. Entered at is) limit (exit_goal address S E end limit)) (items at1) (after_list (has_label is)) (h at1 in1 limit a) (λ O x t. after_items E is f first c end O x t))
      at entered
