-- Parts of the machine's run, seen from an earlier moment.
use Rattle.std.proofs.Common.{◌≡◌, ⊎_elim, ℕ, zero, suc, ◌+◌, ◌<◌, ◌≤◌, List, [], ◌∷◌, ◌++◌, Bool, true, false, Some, None, refl, ap, ◌∙◌, subst, arith}
use Rattle.bc_text_items.specs.declared.item.Item.{Item}
use Rattle.bc_text_items.specs.declared.item.Item.TheVariants.{Label, Operation}
use Rattle.bc_text_items.specs.declared.item.Base.{Base}
use Rattle.bc_text_items.specs.declared.item.Base.TheVariants as bases
use Rattle.bc_text_items.specs.declared.item.Function.{Function}
use Rattle.bc_text_items.specs.declared.item.Function.TheVariants as functions
use Rattle.bc_text_items.specs.Sizes.{size, operation_size}
use Rattle.bc_machine_defs.specs.declared.state.End.{End}
use Rattle.bc_machine_defs.specs.declared.state.End.TheVariants.{BudgetSpent}
use Rattle.bc_machine_defs.specs.Streams.{Content}
use Rattle.bc_machine_defs.specs.State.{State}
use Rattle.bc_machine_defs.specs.Effect.{Effect, running}
use Rattle.bc_machine_defs.specs.Step.{step, perform}
use Rattle.bc_machine_defs.specs.Run.{runs, ended}
use Rattle.bc_core.specs.Store.{Dead, cell_at}
use Rattle.std.proofs.lemmas.Bool.{cases_lt}
use Rattle.bc_core.specs.Outcome as outcomes
use Rattle.bc_core.specs.Outcome.{Outcome, Done, Ended, Going, Wild, Run, followed, then_do, choose, taken, in_turn, ends}
use Rattle.bc_right.specs.steps.Leads.{machine, Ahead, StopsAt}
use Rattle.bc_right.specs.steps.CodeAt.{HasItems, words}
use Rattle.bc_right.proofs.step_lemmas.Agreeing.{keeps_then, keeps_down, code_kept}
use Rattle.bc_right.proofs.step_lemmas.Decoding.{machine_function, operand_at, executes}
use Rattle.bc_right.proofs.step_lemmas.Items.{words_append, item_size, has_front, has_back}
use Rattle.bc_right.specs.steps.Items.{jump, JumpAt}
use Rattle.bc_right.specs.steps.Landing.{Moment, Later, Stands, Reached, Goal, Lands, Does}

-- an instruction that ends the run
pub step_stops : (x s : State) (end : End) → step x ≡ (s, Some end) → StopsAt x 1 end s.streams
unfolding runs
step_stops x s end e =
    let all : runs 1 x ≡ (s, end) = ap (λ (z : Effect). elim z.1 [ None ↦ runs 0 z.0 | Some stop ↦ ended z.0 stop ]) e in
    record { end_is = ap (λ (z : State × End). z.1) all; streams_are = ap (λ (z : State × End). z.0.streams) all }

pub stops_from : (x y : State) (i j : ℕ) (end : End) (streams : Content) → runs i x ≡ runs j y → StopsAt y j end streams → StopsAt x i end streams
stops_from x y i j end streams e s = record {
  end_is = ap (λ (z : State × End). z.1) e ∙ s.end_is;
  streams_are = ap (λ (z : State × End). z.0.streams) e ∙ s.streams_are;
}

pub later_then : {L M N : Moment} → Later L M → Later M N → Later L N
later_then {L = L} {M = M} {N = N} k l = record {
  low = omega (arith, k.low, l.low);
  keeps = keeps_then L.top L.cells M.cells N.cells L.store M.store N.store k.keeps (keeps_down L.top M.top M.cells N.cells M.store N.store k.low l.keeps);
}

pub later_refl : (M : Moment) → Later M M
later_refl M = record { low = omega arith; keeps = record { dead = λ a lt d. d; same = λ a lt d. refl; unset = λ a lt u. (u, refl) } }

-- code in the store, split into two parts
pub record Parts (address : ℕ → ℕ) (K : Moment) (c : ℕ) (xs ys : List Item) (end : ℕ) : Type 0 where
  pub middle : ℕ
  pub front : Stands address K c xs middle
  pub back : Stands address K middle ys end

pub parts : {address : ℕ → ℕ} {K : Moment} {c end : ℕ} (xs ys : List Item) → Stands address K c (xs ++ ys) end → Parts address K c xs ys end
parts {address = address} {K = K} {c = c} {end = end} xs ys s =
    let k = s.code in
    let e = words_append xs ys in
    record {
      middle = c + words xs;
      front = record { code = record { has = has_front address K.store c xs ys k.has; dead = λ a lo hi. k.dead a lo (omega (arith, e)); below = omega (arith, e, k.below); fits = omega (arith, e, k.fits) }; ends = refl };
      back = record { code = record { has = has_back address K.store c xs ys k.has; dead = λ a lo hi. k.dead a (omega arith) (omega (arith, e)); below = omega (arith, e, k.below); fits = omega (arith, e, k.fits) }; ends = omega (arith, e, s.ends) };
    }

pub at_end : {address : ℕ → ℕ} {K : Moment} {c end : ℕ} → Stands address K c [] end → c ≡ end
at_end s = omega (arith, s.ends)

pub at_label : {address : ℕ → ℕ} {K : Moment} {c end l : ℕ} {ys : List Item} → Stands address K c (Label l ∷ ys) end → address l ≡ c
at_label s = s.code.has.1

-- after an item
pub after_item : {address : ℕ → ℕ} {K : Moment} {c end : ℕ} {i : Item} {ys : List Item} → Stands address K c (i ∷ ys) end → Stands address K (c + size i) ys end
after_item s = let k = s.code in
    record { code = record { has = k.has.2; dead = λ a lo hi. k.dead a (omega arith) (omega arith); below = omega (arith, k.below); fits = omega (arith, k.fits) }; ends = omega (arith, s.ends) }

pub after_label : {address : ℕ → ℕ} {K : Moment} {c end l : ℕ} {ys : List Item} → Stands address K c (Label l ∷ ys) end → Stands address K c ys end
after_label {address = address} {K = K} {c = c} {end = end} {l = l} {ys = ys} s = let e : c + 0 ≡ c = omega arith in subst (λ z. Stands address K z ys end) e (after_item s)

pub first_item : {address : ℕ → ℕ} {K : Moment} {c end : ℕ} {i : Item} {ys : List Item} → Stands address K c (i ∷ ys) end → Stands address K c (i ∷ []) (c + size i)
first_item s = let k = s.code in
    record { code = record { has = (k.has.0, k.has.1, tt); dead = λ a lo hi. k.dead a lo (omega arith); below = omega (arith, k.below); fits = omega (arith, k.fits) }; ends = omega arith }

pub jump_first : {address : ℕ → ℕ} {K : Moment} {c end l : ℕ} {ys : List Item} → Stands address K c (jump l ∷ ys) end → JumpAt address K c l
jump_first {c = c} s = (c + 2, first_item s)

-- the machine's instruction at a moment
pub acts : {address : ℕ → ℕ} {S K : Moment} {most : ℕ} {O : Moment} {x : State} {t top p a b c g end : ℕ} {m : List ℕ} {st : outcomes.State} → Later S K → (f : Function) (i : Bool) (base : Base) (n : ℕ) (rest : List Item) → Stands address S c (Operation f i base n ∷ rest) end → Reached K most O x t top p a b c g m st
    → step (machine a b c p m st.streams) ≡ perform (machine_function f) (operand_at address i base n p m) (record { a = a; b = b; c = c + operation_size base n; p = p }) (machine a b c p m st.streams)
acts {address = address} {S = S} {O = O} {p = p} {a = a} {b = b} {c = c} {m = m} {st = st} old f i base n rest s r =
    let now = code_kept address S.top c (Operation f i base n ∷ rest) S.cells st.cells S.store m (item_size address) (later_then (later_then old r.since) r.later).keeps s.code in
    executes address f i base n (machine a b c p m st.streams) now.has.0 (omega (arith, s.code.fits))

pub has_now : {address : ℕ → ℕ} {S K : Moment} {most : ℕ} {O : Moment} {x : State} {t top p a b c g end : ℕ} {items : List Item} {m : List ℕ} {st : outcomes.State} → Later S K → Stands address S c items end → Reached K most O x t top p a b c g m st → HasItems address m c items
has_now {address = address} {S = S} {c = c} {items = items} {m = m} {st = st} old s r =
    (code_kept address S.top c items S.cells st.cells S.store m (item_size address) (later_then (later_then old r.since) r.later).keeps s.code).has

-- an instruction that changes only registers
pub went : {K : Moment} {most : ℕ} {O : Moment} {x : State} {t top p a b c g a1 b1 c1 : ℕ} {m : List ℕ} {st : outcomes.State} → Reached K most O x t top p a b c g m st → step (machine a b c p m st.streams) ≡ running (machine a1 b1 c1 p m st.streams) → Reached K most O x t top p a1 b1 c1 (g + 1) m st
unfolding runs
went {x = x} {t = t} {p = p} {a = a} {b = b} {c = c} {g = g} {m = m} {st = st} r e = record {
  leads = record { by = λ k. let h = r.leads.by (suc k) in (h.0, omega (arith, h.1), h.2 ∙ ap (λ (z : Effect). elim z.1 [ None ↦ runs k z.0 | Some end ↦ ended z.0 end ]) e) };
  holds = r.holds;
  few = r.few;
  are_words = r.are_words;
  since = r.since;
  later = r.later;
}

pub plain : {K : Moment} {most : ℕ} {O : Moment} {x : State} {t top p a b c g : ℕ} {m : List ℕ} {st : outcomes.State} → Reached K most O x t top p a b c g m st → Reached K most O x t top p a b c 0 m st
plain r = record { leads = record { by = λ k. let h = r.leads.by k in (h.0, omega (arith, h.1), h.2) }; holds = r.holds; few = r.few; are_words = r.are_words; since = r.since; later = r.later }

pub at_place : {K : Moment} {most : ℕ} {O : Moment} {x : State} {t top p a b c c1 g : ℕ} {m : List ℕ} {st : outcomes.State} → c ≡ c1 → Reached K most O x t top p a b c g m st → Reached K most O x t top p a b c1 g m st
at_place {K = K} {most = most} {O = O} {x = x} {t = t} {top = top} {p = p} {a = a} {b = b} {g = g} {m = m} {st = st} e r = subst (λ z. Reached K most O x t top p a b z g m st) e r

pub jumped : {address : ℕ → ℕ} {S K : Moment} {most : ℕ} {O : Moment} {x : State} {t top p a b c g l : ℕ} {m : List ℕ} {st : outcomes.State} → Later S K → JumpAt address S c l → Reached K most O x t top p a b c g m st → Reached K most O x t top p a b (address l) (g + 1) m st
jumped {l = l} old j r = went r (acts old functions.Jump false bases.Label l [] j.1 r)

-- a run that gives a value at once
pub lands_done : {A : Type 0} {K : Moment} {most : ℕ} {O : Moment} {x : State} {t top p a b c g : ℕ} {m : List ℕ} {st : outcomes.State} (limit : ℕ) (goal : Goal A) (v : A) → Reached K most O x t top p a b c g m st → st.turns ≤ limit → goal v a b c g st.turns → Lands K most O x t top p limit goal (Done v st)
lands_done {a = a} {b = b} {c = c} {g = g} {m = m} limit goal v r le h = (a, b, c, g, m, r, le, h)

-- what is done with a value
abbrev pub Onward : {A B : Type 0} → (K : Moment) → (most : ℕ) → (O : Moment) → State → (t top p limit : ℕ) → Goal A → Goal B → (A → Run B) → Type 0
Onward {A = A} K most O x t top p limit goal1 goal f =
    (v : A) (a b c g : ℕ) (m : List ℕ) (st : outcomes.State) → Reached K most O x t top p a b c g m st → st.turns ≤ limit → goal1 v a b c g st.turns → Lands K most O x t top p limit goal (f v st)

pub bind : {A B : Type 0} {K : Moment} {most : ℕ} {O : Moment} {x : State} {t top p : ℕ} (limit : ℕ) (goal1 : Goal A) (goal : Goal B) (o : Outcome A) (f : A → Run B) → Lands K most O x t top p limit goal1 o → Onward K most O x t top p limit goal1 goal f → Lands K most O x t top p limit goal (followed o f)
bind limit goal1 goal (Done v st) f l k = k v l.0 l.1 l.2 l.3 l.4 st l.5 l.6 l.7
bind limit goal1 goal (Ended e streams) f l k = l
bind limit goal1 goal (Going streams) f l k = l
bind limit goal1 goal Wild f l k = tt

-- the same, where what follows is seen from another moment
pub bind_from : {A B : Type 0} (K1 K O1 O : Moment) (most : ℕ) (x : State) (t top1 top p limit : ℕ) (goal1 : Goal A) (goal : Goal B) (o : Outcome A) (f : A → Run B) → Lands K1 most O1 x t top1 p limit goal1 o
    → ((v : A) (a b c g : ℕ) (m : List ℕ) (st : outcomes.State) → Reached K1 most O1 x t top1 p a b c g m st → st.turns ≤ limit → goal1 v a b c g st.turns → Lands K most O x t top p limit goal (f v st)) → Lands K most O x t top p limit goal (followed o f)
bind_from K1 K O1 O most x t top1 top p limit goal1 goal (Done v st) f l k = k v l.0 l.1 l.2 l.3 l.4 st l.5 l.6 l.7
bind_from K1 K O1 O most x t top1 top p limit goal1 goal (Ended e streams) f l k = l
bind_from K1 K O1 O most x t top1 top p limit goal1 goal (Going streams) f l k = l
bind_from K1 K O1 O most x t top1 top p limit goal1 goal Wild f l k = tt

-- what holds seen from a later moment O1 with a lower top holds seen from O
pub lands_from : {A : Type 0} (K1 K O1 O : Moment) (most : ℕ) (x : State) (t top1 top p limit : ℕ) (goal : Goal A) (o : Outcome A) → Later K O → Later O O1 → O.top ≤ top → top ≤ top1 → top1 ≤ O1.top → ((a : ℕ) → top ≤ a → a < top1 → cell_at O1.cells a ≡ Dead)
    → Lands K1 most O1 x t top1 p limit goal o → Lands K most O x t top p limit goal o
lands_from K1 K O1 O most x t top1 top p limit goal (Done v st) since l low le in1 dead w =
    let r = w.5 in
    let h = r.holds in (
      w.0,
      w.1,
      w.2,
      w.3,
      w.4,
      record {
        few = r.few;
        are_words = r.are_words;
        leads = r.leads;
        holds = record { agrees = h.agrees; above = λ a ge. ⊎_elim (λ lt. r.later.keeps.dead a (omega arith) (dead a ge lt)) (λ high. h.above a high) (cases_lt a top1); whole = h.whole; spans = h.spans };
        since = since;
        later = record { low = low; keeps = (later_then l r.later).keeps };
      },
      w.6,
      w.7,
    )
lands_from K1 K O1 O most x t top1 top p limit goal (Ended e streams) since l low le in1 dead w = w
lands_from K1 K O1 O most x t top1 top p limit goal (Going streams) since l low le in1 dead w = w
lands_from K1 K O1 O most x t top1 top p limit goal Wild since l low le in1 dead w = tt

-- one more instruction
pub leads_more : {x y z : State} {t1 : ℕ} (t g : ℕ) → Ahead x (t + g) y t1 → step y ≡ running z → Ahead x (t + (g + 1)) z t1
unfolding runs
leads_more t g l e = record { by = λ k. let h = l.by (suc k) in (h.0, omega (arith, h.1), h.2 ∙ ap (λ (z : Effect). elim z.1 [ None ↦ runs k z.0 | Some end ↦ ended z.0 end ]) e) }

-- a weaker goal and a higher limit
pub lands_map : {A : Type 0} (K : Moment) (most : ℕ) (O : Moment) (x : State) (t top p limit1 limit : ℕ) (goal1 goal : Goal A) (o : Outcome A) → limit1 ≤ limit → ((v : A) (a b c g turns : ℕ) → goal1 v a b c g turns → goal v a b c g turns) → Lands K most O x t top p limit1 goal1 o → Lands K most O x t top p limit goal o
lands_map K most O x t top p limit1 limit goal1 goal (Done v st) le h l = (l.0, l.1, l.2, l.3, l.4, l.5, omega (arith, l.6), h v l.0 l.1 l.2 l.3 st.turns l.7)
lands_map K most O x t top p limit1 limit goal1 goal (Ended e streams) le h l = l
lands_map K most O x t top p limit1 limit goal1 goal (Going streams) le h l = l
lands_map K most O x t top p limit1 limit goal1 goal Wild le h l = tt

-- composing `Does`
pub does_done : {A : Type 0} {K : Moment} {most : ℕ} {top p limit a c : ℕ} (goal : Goal A) (v : A) → ((b turns : ℕ) → turns ≤ limit → goal v a b c 0 turns) → Does K most top p limit a c goal (Done v)
does_done {limit = limit} goal v h = record { from = λ O x t b m st le r. lands_done limit goal v r le (h b st.turns le) }

pub does_then : {A B : Type 0} {K : Moment} {most : ℕ} {top p limit a c : ℕ} (goal1 : Goal A) (goal : Goal B) (r : Run A) (f : A → Run B) → Does K most top p limit a c goal1 r → ((v : A) (a1 b1 c1 g turns : ℕ) → goal1 v a1 b1 c1 g turns → Does K most top p limit a1 c1 goal (f v)) → Does K most top p limit a c goal (then_do r f)
does_then {limit = limit} goal1 goal r f h k = record {
  from = λ O x t b m st le here. bind limit goal1 goal (r st) f (h.from O x t b m st le here) (λ v a1 b1 c1 g m1 st1 there le1 w. (k v a1 b1 c1 g st1.turns w).from O x t b1 m1 st1 le1 (plain there));
}

-- for a continuation that depends on the moment
pub then_raw : {A B : Type 0} {K : Moment} {most : ℕ} {top p limit a c : ℕ} (goal1 : Goal A) (goal : Goal B) (r : Run A) (f : A → Run B) → Does K most top p limit a c goal1 r → ((O : Moment) (x : State) (t : ℕ) → Onward K most O x t top p limit goal1 goal f) → Does K most top p limit a c goal (then_do r f)
then_raw {limit = limit} goal1 goal r f h k = record { from = λ O x t b m st le here. bind limit goal1 goal (r st) f (h.from O x t b m st le here) (k O x t) }

-- the machine does more, and the source doesn't
pub does_onto : {A : Type 0} {K : Moment} {most : ℕ} {top p limit a c : ℕ} (goal1 goal : Goal A) (r : Run A) → Does K most top p limit a c goal1 r → ((O : Moment) (x : State) (t : ℕ) → Onward K most O x t top p limit goal1 goal Done) → Does K most top p limit a c goal r
does_onto {A = A} {K = K} {most = most} {top = top} {p = p} {limit = limit} goal1 goal r h k = record { from = λ O x t b m st le here. onto O x t (r st) (h.from O x t b m st le here) } where
  onto : (O : Moment) (x : State) (t : ℕ) (o : Outcome A) → Lands K most O x t top p limit goal1 o → Lands K most O x t top p limit goal o
  onto O x t (Done v st) l = k O x t v l.0 l.1 l.2 l.3 l.4 st l.5 l.6 l.7
  onto O x t (Ended e streams) l = l
  onto O x t (Going streams) l = l
  onto O x t Wild l = tt

pub does_choose : {A : Type 0} {K : Moment} {most : ℕ} {top p limit a c : ℕ} (goal : Goal A) (t : Bool) (this that : Run A) → (t ≡ true → Does K most top p limit a c goal this) → (t ≡ false → Does K most top p limit a c goal that) → Does K most top p limit a c goal (choose t this that)
does_choose goal true this that h k = record { from = (h refl).from }
does_choose goal false this that h k = record { from = (k refl).from }

pub does_at : {A : Type 0} {K : Moment} {most : ℕ} {top p limit a c c1 : ℕ} (goal : Goal A) (r : Run A) → c1 ≡ c → Does K most top p limit a c goal r → Does K most top p limit a c1 goal r
does_at goal r e d = record { from = λ O x t b m st le here. d.from O x t b m st le (at_place e here) }

pub does_map : {A : Type 0} {K : Moment} {most : ℕ} {top p limit a c : ℕ} (goal1 goal : Goal A) (r : Run A) → ((v : A) (a1 b1 c1 g turns : ℕ) → goal1 v a1 b1 c1 g turns → goal v a1 b1 c1 g turns) → Does K most top p limit a c goal1 r → Does K most top p limit a c goal r
does_map {K = K} {most = most} {top = top} {p = p} {limit = limit} goal1 goal r h d = record { from = λ O x t b m st le here. let same : limit ≤ limit = omega arith in lands_map K most O x t top p limit limit goal1 goal (r st) same h (d.from O x t b m st le here) }

-- a jump and what follows
pub does_jump : {A : Type 0} {address : ℕ → ℕ} {S K : Moment} {most : ℕ} {top p limit a c l : ℕ} → Later S K → (goal : Goal A) (r : Run A) → JumpAt address S c l → Does K most top p limit a (address l) goal r → Does K most top p limit a c goal r
does_jump old goal r j d = record { from = λ O x t b m st le here. d.from O x t b m st le (plain (jumped old j here)) }

-- a turn, paid for by an instruction
pub turn : {A : Type 0} {K : Moment} {most : ℕ} {O : Moment} {x : State} {t top p a b c g : ℕ} {m : List ℕ} {st : outcomes.State} (top1 p1 limit : ℕ) (goal : Goal A) (r : Run A) → 1 ≤ g → Reached K most O x t top p a b c g m st → st.turns ≤ limit
    → ((n : ℕ) → n < limit → Reached K most O x t top p a b c 0 m (record st { turns = n }) → Lands K most O x t top1 p1 limit goal (r (record st { turns = n })))
    → Lands K most O x t top1 p1 limit goal (in_turn r st)
unfolding runs
turn {A = A} {K = K} {most = most} {O = O} {x = x} {t = t} {top = top} {p = p} {a = a} {b = b} {c = c} {g = g} {m = m} {st = st} top1 p1 limit goal r gain here le k = by_turns st.turns refl where
  by_turns : (n : ℕ) → st.turns ≡ n → Lands K most O x t top1 p1 limit goal (taken n r st)
  by_turns zero e =
      let h = here.leads.by 0 in
      let y = machine a b c p m st.streams in
      (h.0, omega (arith, h.1), stops_from x y h.0 0 BudgetSpent st.streams h.2 (record { end_is = refl; streams_are = refl }))
  by_turns (suc n) e = k n (omega arith) (record {
    leads = record { by = λ i. let h = here.leads.by i in (h.0, omega (arith, h.1), h.2) };
    holds = here.holds;
    few = omega (arith, here.few);
    are_words = here.are_words;
    since = here.since;
    later = here.later;
  })

-- a jump that takes a turn
pub does_turn : {A : Type 0} {address : ℕ → ℕ} {S K : Moment} {most : ℕ} {top p limit a c l : ℕ} → Later S K → (goal : Goal A) (v : A) → JumpAt address S c l → ((b turns : ℕ) → turns < limit → goal v a b (address l) 0 turns) → Does K most top p limit a c goal (in_turn (Done v))
does_turn {top = top} {p = p} {limit = limit} old goal v j h = record {
  from = λ O x t b m st le here. let one : 1 ≤ 0 + 1 = omega arith in
      turn top p limit goal (Done v) one (jumped old j here) le (λ n lt there. lands_done limit goal v there (omega arith) (h b n lt));
}
