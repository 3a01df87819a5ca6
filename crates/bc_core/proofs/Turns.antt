-- With more turns a run does the same, and if it ran out of turns, it goes on from there.
use Rattle.std.proofs.Common.{◌≡◌, ℕ, zero, suc, ◌+◌, ◌%◌, ◌≤◌, ◌==◌, ◌||◌, List, [], ◌∷◌, Bool, true, false, Option, Some, None, refl, sym, ap, subst, arith}
use Rattle.std.specs.Prelude.{nat_le}
use Rattle.bc_word.specs.declared.operator.Op.{Op}
use Rattle.bc_word.specs.declared.operator.Op.TheVariants as operators
use Rattle.bc_word.specs.Words.{value_of, holds}
use Rattle.bc_machine_defs.specs.Streams.{Content}
use Rattle.bc_machine_defs.specs.StreamCalls.{output_of}
use Rattle.bc_core.specs.Tree.{Exp, Num, Frame, Glob, Place, Load, Neg, Not, Bin, Cond, Call, Valof, Args, no_argument, argument, count}
use Rattle.bc_core.specs.Commands.{Variable, Initial, Vector, Command, Block, block, Items, no_item, command, case, default, label, Routine, Body, Gives, Does}
use Rattle.bc_core.specs.Commands as commands
use Rattle.bc_core.specs.Level.{side_level, cells_of, cells_of_all, cells_declared}
use Rattle.bc_core.specs.Layout.{frame_size}
use Rattle.bc_core.specs.Store.{Cell, Dead, Unset, Set, cell_at, opened}
use Rattle.bc_core.specs.Outcome.{State, Outcome, Done, Ended, Going, Wild, Ending, ZeroDivide, Run, wild, ends, followed, then_do, choose, taken, in_turn, content_of_cell, read, written, write, left, with_cells, outweighed, second_side, both, Round, Again, Leave, next_round, rounds, repeated}
use Rattle.bc_core.specs.Value.{Context, Sense, has_call, truth_of_value, given, operator_truth, sense, values, assign}
use Rattle.bc_core.specs.Exit.{Exit, Past, Broke, Looped, LeftCases, Returned, Resulted, Jumped, onward}
use Rattle.bc_core.specs.Lists.{Entry, Beginning, AtCase, AtDefault, AtLabel, from_entry, after_list, listed, after_cases, switched, met, meets_case, meets_default, meets_label, entry_of}
use Rattle.bc_core.specs.Loop.{LoopRound, back, leave, after_body, while_loop, repeat_loop, repeat_while_loop, for_loop, agrees, end_relation}
use Rattle.bc_core.specs.Command.{initialise_one, initialise, declare, perform, perform_block, perform_items, step_of_for}
use Rattle.bc_core.specs.Primitive.{Primitive, primitive_work, primitive_frame, Select, ReadByte, WriteByte, Find, EndStream, byte_of_string, bytes_of_string, string_of, on_streams}
use Rattle.bc_core.specs.Map.{Placed, placed, standing}
use Rattle.bc_core.specs.Start.{start_cells}
use Rattle.bc_core.specs.Meaning.{Call as Calling, routine_value, valof_value, valofs_from, context_in, body_value, passed, Callee, OfSection, OfLibrary, callee, entered, entered_of, entered_at, calls, result_of, run_of}
use Rattle.bc_core.specs.Laws.{IsCalm, Longer, Tidy, Further, MoreTurnsGoFurther}
use Rattle.bc_core.proofs.Outputs.{longer_refl, longer_then, select_longer, read_longer, write_longer, end_longer}
use Rattle.bc_core.proofs.Calm.{CalmRun, calm, no_right}
use Rattle.bc_core.proofs.Tidiness.{TidyRun, tidy_done, tidy_ends, tidy_wild, tidy_read, tidy_write, tidy_calls}

-- the same state with d more turns
abbrev pub later : ℕ → State → State
later d st = record st { turns = st.turns + d }

-- what may follow from a run whose output was this when it ran out of turns
abbrev pub Beyond : {A : Type 0} → Content → Outcome A → Type 0
Beyond streams (Done x st) = Longer (output_of streams) (output_of st.streams)
Beyond streams (Ended e streams1) = Longer (output_of streams) (output_of streams1)
Beyond streams (Going streams1) = Longer (output_of streams) (output_of streams1)
Beyond streams Wild = Unit {0}

abbrev pub Goes : {A : Type 0} → ℕ → Outcome A → Outcome A → Type 0
Goes d (Done x st) o = o ≡ Done x (later d st)
Goes d (Ended e streams) o = o ≡ Ended e streams
Goes d (Going streams) o = Beyond streams o
Goes d Wild o = o ≡ Wild

beyond : {A : Type 0} (streams streams1 : Content) (o : Outcome A) → Longer (output_of streams) (output_of streams1) → Beyond streams1 o → Beyond streams o
beyond streams streams1 (Done x st) l t = longer_then _ _ _ l t
beyond streams streams1 (Ended e streams2) l t = longer_then _ _ _ l t
beyond streams streams1 (Going streams2) l t = longer_then _ _ _ l t
beyond streams streams1 Wild l t = tt

-- a run whose outputs only grow
pub record GrowingRun {A : Type 0} (r : Run A) : Type 0 where
  pub from : (st : State) → Beyond st.streams (r st)

of_tidy : {A : Type 0} (top : ℕ) (r : Run A) → TidyRun top r → GrowingRun r
of_tidy {A = A} top r h = record { from = λ st. outputs st (r st) (h.from st) } where
  outputs : (st : State) (o : Outcome A) → Tidy top st.cells st.streams o → Beyond st.streams o
  outputs st (Done x st1) t = t.0
  outputs st (Ended e streams) t = t
  outputs st (Going streams) t = t
  outputs st Wild t = tt

beyond_followed : {A B : Type 0} (streams : Content) (o : Outcome A) (f : A → Run B) → Beyond streams o → ((x : A) → GrowingRun (f x)) → Beyond streams (followed o f)
beyond_followed streams (Done x st) f b t = beyond streams st.streams (f x st) b ((t x).from st)
beyond_followed streams (Ended e streams1) f b t = b
beyond_followed streams (Going streams1) f b t = b
beyond_followed streams Wild f b t = tt

grow_then : {A B : Type 0} (r : Run A) (f : A → Run B) → GrowingRun r → ((x : A) → GrowingRun (f x)) → GrowingRun (then_do r f)
grow_then r f h k = record { from = λ st. beyond_followed st.streams (r st) f (h.from st) k }

grow_turn : {A : Type 0} (r : Run A) → GrowingRun r → GrowingRun (in_turn r)
grow_turn r h = record { from = λ st. turns st st.turns } where
  turns : (st : State) (n : ℕ) → Beyond st.streams (taken n r st)
  turns st zero = longer_refl (output_of st.streams)
  turns st (suc n) = h.from (record st { turns = n })

grow_left : {A : Type 0} (n a : ℕ) (streams : Content) (o : Outcome A) → Beyond streams o → Beyond streams (left n a o)
grow_left n a streams (Done x st) b = b
grow_left n a streams (Ended e streams1) b = b
grow_left n a streams (Going streams1) b = b
grow_left n a streams Wild b = tt

grow_rounds : {A B : Type 0} (n : ℕ) (f : A → Run (Round A B)) (x : A) → ((y : A) → GrowingRun (f y)) → GrowingRun (rounds n f x)
grow_rounds zero f x h = record { from = λ st. longer_refl (output_of st.streams) }
grow_rounds {A = A} {B = B} (suc n) f x h = grow_then (f x) (next_round (rounds n f)) (h x) (onwards (λ y. grow_rounds n f y h)) where
  onwards : ((y : A) → GrowingRun (rounds n f y)) → (r : Round A B) → GrowingRun (next_round (rounds n f) r)
  onwards again (Again y) = again y
  onwards again (Leave y) = record { from = λ st. longer_refl (output_of st.streams) }

-- the run r with d more turns is q
pub record MoreRun {A : Type 0} (d : ℕ) (r q : Run A) : Type 0 where
  pub from : (st : State) → Goes d (r st) (q (later d st))
  pub grows : GrowingRun q

more_done : {A : Type 0} (d : ℕ) (x : A) → MoreRun d (Done x) (Done x)
more_done d x = record { from = λ st. refl; grows = of_tidy 0 _ (tidy_done 0 x) }

more_ends : (A : Type 0) (d : ℕ) (e : Ending) → MoreRun d (ends {A = A} e) (ends {A = A} e)
more_ends A d e = record { from = λ st. refl; grows = of_tidy 0 _ (tidy_ends A 0 e) }

more_wild : (A : Type 0) (d : ℕ) → MoreRun d (wild {A = A}) (wild {A = A})
more_wild A d = record { from = λ st. refl; grows = of_tidy 0 _ (tidy_wild A 0) }

more_followed : {A B : Type 0} (d : ℕ) (o o1 : Outcome A) (f g : A → Run B) → Goes d o o1 → ((x : A) → MoreRun d (f x) (g x)) → Goes d (followed o f) (followed o1 g)
more_followed d (Done x st) o1 f g e k = subst (λ z. Goes d (f x st) (followed z g)) (sym e) ((k x).from st)
more_followed d (Ended e streams) o1 f g h k = ap (λ z. followed z g) h
more_followed d (Going streams) o1 f g b k = beyond_followed streams o1 g b (λ x. (k x).grows)
more_followed d Wild o1 f g h k = ap (λ z. followed z g) h

more_then : {A B : Type 0} (d : ℕ) (r q : Run A) (f g : A → Run B) → MoreRun d r q → ((x : A) → MoreRun d (f x) (g x)) → MoreRun d (then_do r f) (then_do q g)
more_then d r q f g h k = record {
  from = λ st. more_followed d (r st) (q (later d st)) f g (h.from st) k;
  grows = grow_then q g h.grows (λ x. (k x).grows);
}

more_choose : {A : Type 0} (d : ℕ) (t : Bool) (r1 r2 q1 q2 : Run A) → MoreRun d r1 q1 → MoreRun d r2 q2 → MoreRun d (choose t r1 r2) (choose t q1 q2)
more_choose d true r1 r2 q1 q2 h k = h
more_choose d false r1 r2 q1 q2 h k = k

more_turn : {A : Type 0} (d : ℕ) (r q : Run A) → MoreRun d r q → MoreRun d (in_turn r) (in_turn q)
more_turn d r q h = record { from = λ st. counted st st.turns; grows = grow_turn q h.grows } where
  spent : (st : State) (m : ℕ) → Beyond st.streams (taken m q (later d st))
  spent st zero = longer_refl (output_of st.streams)
  spent st (suc m) = h.grows.from (record st { turns = m })

  counted : (st : State) (n : ℕ) → Goes d (taken n r st) (taken (n + d) q (later d st))
  counted st zero = spent st (0 + d)
  counted st (suc n) =
      let e : suc n + d ≡ suc (n + d) = omega arith in
      subst (λ m. Goes d (r (record st { turns = n })) (taken m q (later d st))) (sym e) (h.from (record st { turns = n }))

more_read : (d a : ℕ) → MoreRun d (read a) (read a)
more_read d a = record { from = λ st. of_cell st (cell_at st.cells a); grows = of_tidy 0 _ (tidy_read 0 a) } where
  of_cell : (st : State) (c : Cell) → Goes d (content_of_cell c st) (content_of_cell c (later d st))
  of_cell st Dead = refl
  of_cell st Unset = refl
  of_cell st (Set w) = refl

more_write : (d a w : ℕ) → MoreRun d (write a w) (write a w)
more_write d a w = record { from = λ st. of_cell st (cell_at st.cells a); grows = of_tidy 0 _ (tidy_write 0 a w) } where
  of_cell : (st : State) (c : Cell) → Goes d (written c a w st) (written c a w (later d st))
  of_cell st Dead = refl
  of_cell st Unset = refl
  of_cell st (Set old) = refl

-- if the second side has no call and no VALOF, it never runs out of turns
more_both : {A B C : Type 0} (d : ℕ) (calls : Bool) (r1 q1 : Run A) (r2 q2 : Run B) (f g : A → B → Run C) → MoreRun d r1 q1 → MoreRun d r2 q2 → (calls ≡ false → CalmRun r2) → ((x : A) (y : B) → MoreRun d (f x y) (g x y)) → MoreRun d (both calls r1 r2 f) (both calls q1 q2 g)
more_both {A = A} {B = B} {C = C} d calls r1 q1 r2 q2 f g h k quiet w = record {
  from = λ st. sides st calls quiet (r1 st) (q1 (later d st)) (h.from st);
  grows = record { from = λ st. late st calls st.streams (q1 st) (h.grows.from st) };
} where
  weighed : (st : State) (e : Ending) (streams : Content) (o o1 : Outcome B) → IsCalm st o → Goes d o o1 → Goes {A = C} d (outweighed e streams o) (outweighed e streams o1)
  weighed st e streams (Done y st2) o1 c z = ap (outweighed e streams) z
  weighed st e streams (Ended e2 streams2) o1 c z = ap (outweighed e streams) z
  weighed st e streams (Going streams2) o1 c z = absurd c
  weighed st e streams Wild o1 c z = ap (outweighed e streams) z

  at_end : (streams : Content) (e : Ending) (streams1 : Content) (o : Outcome B) → Longer (output_of streams) (output_of streams1) → Beyond {A = C} streams (outweighed e streams1 o)
  at_end streams e streams1 (Done y st2) b = b
  at_end streams e streams1 (Ended e2 streams2) b = b
  at_end streams e streams1 (Going streams2) b = b
  at_end streams e streams1 Wild b = tt

  late : (st : State) (calls : Bool) (streams : Content) (o1 : Outcome A) → Beyond streams o1 → Beyond streams (second_side calls o1 q2 g st)
  late st calls streams (Done x st1) b = beyond_followed streams (Done x st1) (λ z. then_do q2 (g z)) b (λ z. grow_then q2 (g z) k.grows (λ y. (w z y).grows))
  late st true streams (Ended e streams1) b = b
  late st false streams (Ended e streams1) b = at_end streams e streams1 (q2 st) b
  late st calls streams (Going streams1) b = b
  late st calls streams Wild b = tt

  sides : (st : State) (calls : Bool) → (calls ≡ false → CalmRun r2) → (o o1 : Outcome A) → Goes d o o1 → Goes d (second_side calls o r2 f st) (second_side calls o1 q2 g (later d st))
  sides st calls quiet (Done x st1) o1 z = subst (λ v. Goes d (followed (r2 st1) (f x)) (second_side calls v q2 g (later d st))) (sym z) ((more_then d r2 q2 (f x) (g x) k (w x)).from st1)
  sides st false quiet (Ended e streams) o1 z = subst (λ v. Goes d (outweighed e streams (r2 st)) (second_side false v q2 g (later d st))) (sym z) (weighed st e streams (r2 st) (q2 (later d st)) ((quiet refl).from st) (k.from st))
  sides st true quiet (Ended e streams) o1 z = ap (λ v. second_side true v q2 g (later d st)) z
  sides st calls quiet (Going streams) o1 b = late (later d st) calls streams o1 b
  sides st calls quiet Wild o1 z = ap (λ v. second_side calls v q2 g (later d st)) z

more_left : {A : Type 0} (d n a : ℕ) (o o1 : Outcome A) → Goes d o o1 → Goes d (left n a o) (left n a o1)
more_left d n a (Done x st) o1 e = ap (left n a) e
more_left d n a (Ended e streams) o1 h = ap (left n a) h
more_left d n a (Going streams) (Done x st1) b = b
more_left d n a (Going streams) (Ended e streams1) b = b
more_left d n a (Going streams) (Going streams1) b = b
more_left d n a (Going streams) Wild b = tt
more_left d n a Wild o1 h = ap (left n a) h

more_opened : {A : Type 0} (d n a : ℕ) (change : List Cell → List Cell) (r q : Run A) → MoreRun d r q → MoreRun d (λ st. left n a (r (record st { cells = change st.cells }))) (λ st. left n a (q (record st { cells = change st.cells })))
more_opened d n a change r q h = record {
  from = λ st. more_left d n a (r (record st { cells = change st.cells })) (q (later d (record st { cells = change st.cells }))) (h.from (record st { cells = change st.cells }));
  grows = record { from = λ st. grow_left n a st.streams (q (record st { cells = change st.cells })) (h.grows.from (record st { cells = change st.cells })) };
}

more_rounds : {A B : Type 0} (d n m : ℕ) (f g : A → Run (Round A B)) (x : A) → n ≤ m → ((y : A) → MoreRun d (f y) (g y)) → MoreRun d (rounds n f x) (rounds m g x)
more_rounds d zero m f g x le h =
    let t = grow_rounds m g x (λ y. (h y).grows) in
    record { from = λ st. t.from (later d st); grows = t }
more_rounds d (suc n) zero f g x le h = absurd (omega arith)
more_rounds {A = A} {B = B} d (suc n) (suc m) f g x le h =
    let le1 : n ≤ m = omega arith in
    more_then d (f x) (g x) (next_round (rounds n f)) (next_round (rounds m g)) (h x) (onwards (λ y. more_rounds d n m f g y le1 h)) where
      onwards : ((y : A) → MoreRun d (rounds n f y) (rounds m g y)) → (r : Round A B) → MoreRun d (next_round (rounds n f) r) (next_round (rounds m g) r)
      onwards again (Again y) = again y
      onwards again (Leave y) = more_done d y

more_repeated : {A B : Type 0} (d : ℕ) (f g : A → Run (Round A B)) (x : A) → ((y : A) → MoreRun d (f y) (g y)) → MoreRun d (repeated f x) (repeated g x)
more_repeated d f g x h = record {
  from = λ st. let le : suc st.turns ≤ suc (st.turns + d) = omega arith in (more_rounds d (suc st.turns) (suc (st.turns + d)) f g x le h).from st;
  grows = record { from = λ st. (grow_rounds (suc st.turns) g x (λ y. (h y).grows)).from st };
}

record MoreContext (d : ℕ) (C D : Context) : Type 0 where
  place : (m : ℕ) → C.place m ≡ D.place m
  call : (r : ℕ) (vs : List ℕ) (f : ℕ) → MoreRun d (C.call r vs f) (D.call r vs f)
  valof : (n p s : ℕ) → MoreRun d (C.valof n p s) (D.valof n p s)

more_by_value : (d : ℕ) (r q : Run ℕ) → MoreRun d r q → MoreRun d r q × MoreRun d (truth_of_value r) (truth_of_value q)
more_by_value d r q h = (h, more_then d r q _ _ h (λ v. more_done d _))

more_given : (d : ℕ) (v : Option ℕ) → MoreRun d (given v) (given v)
more_given d None = more_ends ℕ d ZeroDivide
more_given d (Some v) = more_done d v

more_truth : (d : ℕ) (op : Op) (a b a1 b1 : Sense) (v v1 : Run ℕ) → MoreRun d a.truth a1.truth → MoreRun d b.truth b1.truth → MoreRun d v v1 → MoreRun d (operator_truth op a b v) (operator_truth op a1 b1 v1)
more_truth d operators.And a b a1 b1 v v1 h k g = more_then d a.truth a1.truth _ _ h (λ t. more_choose d t b.truth _ b1.truth _ k (more_done d false))
more_truth d operators.Or a b a1 b1 v v1 h k g = more_then d a.truth a1.truth _ _ h (λ t. more_choose d t _ b.truth _ b1.truth (more_done d true) k)
more_truth d _ a b a1 b1 v v1 h k g = (more_by_value d v v1 g).1

mutual
  more_sense : (d : ℕ) (C D : Context) → MoreContext d C D → (e : Exp) (p s : ℕ) → MoreRun d (sense C e p s).value (sense D e p s).value × MoreRun d (sense C e p s).truth (sense D e p s).truth
  more_sense d C D t (Num n) p s = more_by_value d _ _ (more_done d _)
  more_sense d C D t (Frame k) p s = more_by_value d _ _ (more_done d _)
  more_sense d C D t (Glob n) p s = more_by_value d _ _ (more_done d _)
  more_sense d C D t (Place m) p s =
      more_by_value d (Done (C.place m)) (Done (D.place m)) (subst (λ a. MoreRun d (Done (C.place m)) (Done a)) (t.place m) (more_done d (C.place m)))
  more_sense d C D t (Load e) p s = more_by_value d _ _ (more_then d _ _ _ _ (more_sense d C D t e p s).0 (λ a. more_read d a))
  more_sense d C D t (Neg e) p s = more_by_value d _ _ (more_then d _ _ _ _ (more_sense d C D t e p s).0 (λ v. more_done d _))
  more_sense d C D t (Not e) p s =
      let h = more_sense d C D t e p s in (more_then d _ _ _ _ h.0 (λ v. more_done d _), more_then d _ _ _ _ h.1 (λ v. more_done d _))
  more_sense d C D t (Bin op a b) p s =
      let h = more_sense d C D t a p (s + 1) in
      let k = more_sense d C D t b p (s + 1) in
      let v : MoreRun d (sense C (Bin op a b) p s).value (sense D (Bin op a b) p s).value =
      more_both d (has_call a || has_call b) _ _ _ _ _ _ h.0 k.0 (λ quiet. (calm C b (no_right _ _ quiet) p (s + 1)).0) (λ x y. more_given d (value_of op x y)) in
      (v, more_truth d op (sense C a p (s + 1)) (sense C b p (s + 1)) (sense D a p (s + 1)) (sense D b p (s + 1)) _ _ h.1 k.1 v)
  more_sense d C D t (Cond c x y) p s =
      more_by_value d _ _ (more_then d _ _ _ _ (more_sense d C D t c p s).1 (λ b. more_choose d b _ _ _ _ (more_sense d C D t x p s).0 (more_sense d C D t y p s).0))
  more_sense d C D t (Call es f) p s =
      more_by_value d _ _ (more_then d _ _ _ _ (more_values d C D t es p (s + 2)) (λ vs. more_then d _ _ _ _ (more_sense d C D t f p (s + 2 + count es)).0 (λ r. t.call r vs (p + s))))
  more_sense d C D t (Valof n) p s = more_by_value d _ _ (t.valof n p s)

  more_values : (d : ℕ) (C D : Context) → MoreContext d C D → (es : Args) (p s : ℕ) → MoreRun d (values C es p s) (values D es p s)
  more_values d C D t no_argument p s = more_done d _
  more_values d C D t (argument e es) p s =
      more_then d _ _ _ _ (more_sense d C D t e p s).0 (λ v. more_then d _ _ _ _ (more_values d C D t es p (s + 1)) (λ vs. more_done d _))

more_assign : (d : ℕ) (C D : Context) → MoreContext d C D → (v a : Exp) (p s : ℕ) → MoreRun d (assign C v a p s) (assign D v a p s)
more_assign d C D t v a p s =
    let s1 = side_level a s in
    more_both d (has_call v || has_call a) _ _ _ _ _ _ (more_sense d C D t v p s1).0 (more_sense d C D t a p s1).0 (λ quiet. (calm C a (no_right _ _ quiet) p s1).0) (λ w x. more_write d x w)

more_initialise_one : (d : ℕ) (C D : Context) → MoreContext d C D → (v : Variable) (p k s : ℕ) → MoreRun d (initialise_one C v p k s) (initialise_one D v p k s)
more_initialise_one d C D t (Initial e) p k s = more_assign d C D t e (Frame k) p s
more_initialise_one d C D t (Vector n) p k s = more_assign d C D t (Frame (k + 1)) (Frame k) p s

more_initialise : (d : ℕ) (C D : Context) → MoreContext d C D → (vs : List Variable) (p k s : ℕ) → MoreRun d (initialise C vs p k s) (initialise D vs p k s)
more_initialise d C D t [] p k s = more_done {A = Unit {0}} d tt
more_initialise d C D t (v ∷ vs) p k s =
    more_then d _ _ _ _ (more_initialise_one d C D t v p k s) (λ u. more_initialise d C D t vs p (k + cells_of v) s)

more_with_cells : {A : Type 0} (d n a : ℕ) (r q : Run A) → MoreRun d r q → MoreRun d (with_cells n a r) (with_cells n a q)
more_with_cells d n a r q h = more_opened d n a (opened n a) r q h

more_declare : (d : ℕ) (C D : Context) → MoreContext d C D → (ds : List (List Variable)) (p s : ℕ) (r q : Run Exit) → MoreRun d r q → MoreRun d (declare C ds p s r) (declare D ds p s q)
more_declare d C D t [] p s r q h = h
more_declare d C D t (vs ∷ ds) p s r q h =
    let n = cells_of_all vs in
    more_with_cells d n (p + s) _ _ (more_then d _ _ _ _ (more_initialise d C D t vs p s (s + n)) (λ u. more_declare d C D t ds p (s + n) r q h))

more_from_entry : (d : ℕ) (at : Entry) (r q : Run Exit) → MoreRun d r q → MoreRun d (from_entry at r) (from_entry at q)
more_from_entry d Beginning r q h = h
more_from_entry d (AtCase v) r q h = more_done d Past
more_from_entry d AtDefault r q h = more_done d Past
more_from_entry d (AtLabel l) r q h = more_done d Past

more_onward : (d : ℕ) (r q : Run Exit) (x : Exit) → MoreRun d r q → MoreRun d (onward r x) (onward q x)
more_onward d r q Past h = h
more_onward d r q Broke h = more_done d _
more_onward d r q Looped h = more_done d _
more_onward d r q LeftCases h = more_done d _
more_onward d r q Returned h = more_done d _
more_onward d r q (Resulted v) h = more_done d _
more_onward d r q (Jumped l) h = more_done d _

more_after_list : (d : ℕ) (is : ℕ → Bool) (x : Exit) → MoreRun d (after_list is x) (after_list is x)
more_after_list d is Past = more_done d _
more_after_list d is Broke = more_done d _
more_after_list d is Looped = more_done d _
more_after_list d is LeftCases = more_done d _
more_after_list d is Returned = more_done d _
more_after_list d is (Resulted v) = more_done d _
more_after_list d is (Jumped l) = more_done d _

more_listed : (d : ℕ) (is : ℕ → Bool) (items items1 : Entry → Run Exit) (at : Entry) → ((at1 : Entry) → MoreRun d (items at1) (items1 at1)) → MoreRun d (listed is items at) (listed is items1 at)
more_listed d is items items1 at h = more_repeated d _ _ at (λ at1. more_then d _ _ _ _ (h at1) (λ x. more_after_list d is x))

more_after_cases : (d : ℕ) (x : Exit) → MoreRun d (after_cases x) (after_cases x)
more_after_cases d Past = more_done d _
more_after_cases d Broke = more_done d _
more_after_cases d Looped = more_done d _
more_after_cases d LeftCases = more_done d _
more_after_cases d Returned = more_done d _
more_after_cases d (Resulted v) = more_done d _
more_after_cases d (Jumped l) = more_done d _

more_switched : (d : ℕ) (v v1 : Run ℕ) (cases is : ℕ → Bool) (items items1 : Entry → Run Exit) → MoreRun d v v1 → ((at : Entry) → MoreRun d (items at) (items1 at)) → MoreRun d (switched v cases is items) (switched v1 cases is items1)
more_switched d v v1 cases is items items1 h k =
    more_then d v v1 _ _ h (λ w. more_then d _ _ after_cases after_cases (more_listed d is items items1 (entry_of cases w) k) (λ x. more_after_cases d x))

more_back : (d : ℕ) → MoreRun d back back
more_back d = more_turn d _ _ (more_done d _)

more_after_body : (d : ℕ) (r q : LoopRound) (x : Exit) → MoreRun d r q → MoreRun d (after_body r x) (after_body q x)
more_after_body d r q Past h = h
more_after_body d r q Looped h = h
more_after_body d r q Broke h = more_done d _
more_after_body d r q LeftCases h = more_done d _
more_after_body d r q Returned h = more_done d _
more_after_body d r q (Resulted v) h = more_done d _
more_after_body d r q (Jumped l) h = more_done d _

more_round : (d : ℕ) (body body1 : Run Exit) (r q : LoopRound) → MoreRun d body body1 → MoreRun d r q → MoreRun d (then_do body (after_body r)) (then_do body1 (after_body q))
more_round d body body1 r q h k = more_then d body body1 (after_body r) (after_body q) h (λ x. more_after_body d r q x k)

more_while : (d : ℕ) (sense : Bool) (test test1 : Run Bool) (body body1 : Run Exit) → MoreRun d test test1 → MoreRun d body body1 → MoreRun d (while_loop sense test body) (while_loop sense test1 body1)
more_while d sense test test1 body body1 h k =
    more_repeated d _ _ tt (λ u. more_then d test test1 _ _ h (λ t. more_choose d (agrees sense t) _ leave _ leave (more_round d body body1 back back k (more_back d)) (more_done d (Leave Past))))

more_repeat : (d : ℕ) (body body1 : Run Exit) → MoreRun d body body1 → MoreRun d (repeat_loop body) (repeat_loop body1)
more_repeat d body body1 k = more_repeated d _ _ tt (λ u. more_round d body body1 back back k (more_back d))

more_repeat_while : (d : ℕ) (body body1 : Run Exit) (sense : Bool) (test test1 : Run Bool) → MoreRun d body body1 → MoreRun d test test1 → MoreRun d (repeat_while_loop body sense test) (repeat_while_loop body1 sense test1)
more_repeat_while d body body1 sense test test1 k h =
    more_repeated d _ _ tt (λ u. more_round d body body1 _ _ k (more_then d test test1 _ _ h (λ t. more_choose d (agrees sense t) back leave back leave (more_back d) (more_done d (Leave Past)))))

more_for : (d by : ℕ) (start start1 : Run (Unit {0})) (limit limit1 variable variable1 : Run ℕ) (step step1 : Run (Unit {0})) (body body1 : Run Exit) → MoreRun d start start1 → MoreRun d limit limit1 → MoreRun d variable variable1 → MoreRun d step step1 → MoreRun d body body1 → MoreRun d (for_loop by start limit variable step body) (for_loop by start1 limit1 variable1 step1 body1)
more_for d by start start1 limit limit1 variable variable1 step step1 body body1 hs hl hv ht hb =
    more_then d start start1 _ _ hs (λ u. more_then d limit limit1 _ _ hl (λ n.
    more_repeated d _ _ tt (λ u. more_then d variable variable1 _ _ hv (λ i. more_choose d (holds (end_relation by) i n) leave _ leave _ (more_done d (Leave Past))
    (more_round d body body1 _ _ hb (more_then d step step1 _ _ ht (λ u. more_back d)))))))

mutual
  more_perform : (d : ℕ) (C D : Context) → MoreContext d C D → (c : Command) (p s : ℕ) → MoreRun d (perform C c p s) (perform D c p s)
  more_perform d C D t (commands.Call e) p s = more_then d _ _ _ _ (more_sense d C D t e p s).0 (λ v. more_done d _)
  more_perform d C D t (commands.Assign v a) p s = more_then d _ _ _ _ (more_assign d C D t v a p s) (λ u. more_done d _)
  more_perform d C D t (commands.If sense e b) p s =
      more_then d _ _ _ _ (more_sense d C D t e p s).1 (λ v. more_choose d (agrees sense v) _ _ _ _ (more_block d C D t b p s) (more_done d Past))
  more_perform d C D t (commands.Test e b c) p s =
      more_then d _ _ _ _ (more_sense d C D t e p s).1 (λ v. more_choose d v _ _ _ _ (more_block d C D t b p s) (more_block d C D t c p s))
  more_perform d C D t (commands.While sense e b) p s = more_while d sense _ _ _ _ (more_sense d C D t e p s).1 (more_block d C D t b p s)
  more_perform d C D t (commands.Repeat b) p s = more_repeat d _ _ (more_block d C D t b p s)
  more_perform d C D t (commands.RepeatWhile b sense e) p s = more_repeat_while d _ _ sense _ _ (more_block d C D t b p s) (more_sense d C D t e p s).1
  more_perform d C D t (commands.For start limit by b) p s =
      more_with_cells d 1 (p + s) _ _ (more_for d by _ _ _ _ _ _ _ _ _ _ (more_assign d C D t start (Frame s) p (s + 2)) (more_sense d C D t limit p (s + 2)).0
      (more_sense d C D t (Load (Frame s)) p (s + 2)).0 (more_assign d C D t (step_of_for by s) (Frame s) p (s + 2)) (more_block d C D t b p (s + 2)))
  more_perform d C D t (commands.SwitchOn e is) p s = more_switched d _ _ _ _ _ _ (more_sense d C D t e p s).0 (λ at. more_items d C D t is p s at)
  more_perform d C D t commands.Break p s = more_done d _
  more_perform d C D t commands.Loop p s = more_done d _
  more_perform d C D t commands.EndCase p s = more_done d _
  more_perform d C D t commands.Return p s = more_done d _
  more_perform d C D t (commands.ResultIs e) p s = more_then d _ _ _ _ (more_sense d C D t e p s).0 (λ v. more_done d _)
  more_perform d C D t commands.Finish p s = more_ends Exit d _
  more_perform d C D t (commands.Goto l) p s = more_turn d _ _ (more_done d _)
  more_perform d C D t (commands.Nested b) p s = more_block d C D t b p s

  more_block : (d : ℕ) (C D : Context) → MoreContext d C D → (b : Block) (p s : ℕ) → MoreRun d (perform_block C b p s) (perform_block D b p s)
  more_block d C D t (block ds is) p s =
      more_declare d C D t ds p s _ _ (more_listed d _ _ _ Beginning (λ at. more_items d C D t is p (s + cells_declared ds) at))

  more_items : (d : ℕ) (C D : Context) → MoreContext d C D → (is : Items) (p s : ℕ) (at : Entry) → MoreRun d (perform_items C is p s at) (perform_items D is p s at)
  more_items d C D t no_item p s at = more_done d _
  more_items d C D t (command c is) p s at =
      more_then d _ _ _ _ (more_from_entry d at _ _ (more_perform d C D t c p s)) (λ x. more_onward d _ _ x (more_items d C D t is p s at))
  more_items d C D t (case k is) p s at = more_items d C D t is p s (met (meets_case k at) at)
  more_items d C D t (default is) p s at = more_items d C D t is p s (met (meets_default at) at)
  more_items d C D t (label l is) p s at = more_items d C D t is p s (met (meets_label l at) at)

-- primitives
more_byte : (d address k : ℕ) → MoreRun d (byte_of_string address k) (byte_of_string address k)
more_byte d address k = more_then d _ _ _ _ (more_read d _) (λ word. more_done d _)

more_bytes : (d n k address : ℕ) → MoreRun d (bytes_of_string n k address) (bytes_of_string n k address)
more_bytes d zero k address = more_done d _
more_bytes d (suc n) k address = more_then d _ _ _ _ (more_byte d address k) (λ byte. more_then d _ _ _ _ (more_bytes d n (k + 1) address) (λ bytes. more_done d _))

more_on_streams : (d : ℕ) (change : Content → Content) (v : ℕ) → ((c : Content) → Longer (output_of c) (output_of (change c))) → MoreRun d (on_streams change v) (on_streams change v)
more_on_streams d change v h = record { from = λ st. refl; grows = record { from = λ st. h st.streams } }

more_primitive : (d : ℕ) (q : Primitive) (f : ℕ) → MoreRun d (primitive_work q f) (primitive_work q f)
more_primitive d (Select side) f = more_then d _ _ _ _ (more_read d (f + 2)) (λ n. more_on_streams d _ 0 (λ c. select_longer side n c))
more_primitive d ReadByte f = record { from = λ st. refl; grows = record { from = λ st. read_longer st.streams } }
more_primitive d WriteByte f = more_then d _ _ _ _ (more_read d (f + 2)) (λ w. more_on_streams d _ 0 (λ c. write_longer (w % 256) c))
more_primitive d (Find side) f =
    more_then d _ _ _ _ (more_read d (f + 2)) (λ a. more_then d (string_of a) (string_of a) _ _ (more_then d _ _ _ _ (more_byte d a 0) (λ n. more_bytes d n 1 a))
    (λ name. record { from = λ st. refl; grows = record { from = λ st. longer_refl (output_of st.streams) } }))
more_primitive d (EndStream side) f = more_on_streams d _ 0 (λ c. end_longer side c)

-- routines, VALOFs and calls
more_routine_value : (d : ℕ) (x : Exit) → MoreRun d (routine_value x) (routine_value x)
more_routine_value d Past = more_done d _
more_routine_value d Broke = more_wild ℕ d
more_routine_value d Looped = more_wild ℕ d
more_routine_value d LeftCases = more_wild ℕ d
more_routine_value d Returned = more_done d _
more_routine_value d (Resulted v) = more_wild ℕ d
more_routine_value d (Jumped l) = more_wild ℕ d

more_valof_value : (d : ℕ) (x : Exit) → MoreRun d (valof_value x) (valof_value x)
more_valof_value d Past = more_done d _
more_valof_value d Broke = more_wild ℕ d
more_valof_value d Looped = more_wild ℕ d
more_valof_value d LeftCases = more_wild ℕ d
more_valof_value d Returned = more_wild ℕ d
more_valof_value d (Resulted v) = more_done d _
more_valof_value d (Jumped l) = more_wild ℕ d

abbrev MoreCall : ℕ → Calling → Calling → Type 0
MoreCall d call call1 = (r : ℕ) (vs : List ℕ) (f : ℕ) → MoreRun d (call r vs f) (call1 r vs f)

more_elim : (d : ℕ) (t : Bool) (x y x1 y1 : Run ℕ) → MoreRun d x x1 → MoreRun d y y1 → MoreRun d (elim t [ true ↦ x | false ↦ y ]) (elim t [ true ↦ x1 | false ↦ y1 ])
more_elim d true x y x1 y1 h k = h
more_elim d false x y x1 y1 h k = k

more_valofs : (d : ℕ) (place : ℕ → ℕ) (call call1 : Calling) → MoreCall d call call1 → (first : ℕ) (vs : List commands.Valof) (n p s : ℕ) → MoreRun d (valofs_from place call first vs n p s) (valofs_from place call1 first vs n p s)
more_valofs d place call call1 t first [] n p s = more_wild ℕ d
more_valofs d place call call1 t first (v ∷ vs) n p s =
    more_elim d (n == first) _ _ _ _
    (more_then d _ _ valof_value valof_value (more_block d _ _ (record { place = λ m. refl; call = t; valof = λ m q z. more_valofs d place call call1 t (first + 1) vs m q z }) v.body p s) (λ x. more_valof_value d x))
    (more_valofs d place call call1 t (first + 1) vs n p s)

more_body : (d : ℕ) (C D : Context) → MoreContext d C D → (b : Body) (p s : ℕ) → MoreRun d (body_value C b p s) (body_value D b p s)
more_body d C D t (Gives e) p s = (more_sense d C D t e p s).0
more_body d C D t (Does b) p s = more_then d _ _ routine_value routine_value (more_block d C D t b p s) (λ x. more_routine_value d x)

more_enter : (d : ℕ) (call call1 : Calling) → MoreCall d call call1 → (c : Option Callee) (vs : List ℕ) (f : ℕ) → MoreRun d (entered call (entered_of c) vs f) (entered call1 (entered_of c) vs f)
more_enter d call call1 t None vs f = more_wild ℕ d
more_enter d call call1 t (Some (OfSection section r)) vs f =
    let valofs = section.core.valofs in
    more_choose d (nat_le (f + frame_size valofs r) 65536) _ _ _ _
    (more_turn d _ _ (more_opened d r.parameters (f + 2) (passed r.parameters (f + 2) vs) _ _
    (more_body d (context_in section call) (context_in section call1)
    (record { place = λ m. refl; call = t; valof = λ n p s. more_valofs d section.address call call1 t 0 valofs n p s }) r.body f (2 + r.parameters)))) (more_wild ℕ d)
more_enter d call call1 t (Some (OfLibrary q)) vs f =
    more_choose d (nat_le (f + primitive_frame) 65536) _ _ _ _
    (more_turn d _ _ (more_opened d 1 (f + 2) (passed 1 (f + 2) vs) _ _ (more_primitive d q f))) (more_wild ℕ d)

pub more_calls : (d : ℕ) (program : List Placed) (n m : ℕ) → n ≤ m → MoreCall d (calls program n) (calls program m)
more_calls d program zero m le a vs f =
    let g = of_tidy f (calls program m a vs f) (tidy_calls program m a vs f) in record { from = λ st. g.from (later d st); grows = g }
more_calls d program (suc n) zero le a vs f = absurd (omega arith)
more_calls d program (suc n) (suc m) le a vs f =
    let le1 : n ≤ m = omega arith in
    let h = more_enter d (calls program n) (calls program m) (more_calls d program n m le1) (callee program a) vs f in
    record { from = λ st. h.from st; grows = record { from = λ st. h.grows.from st } }

-- what holds of outcomes holds of results
further : (d : ℕ) (o o1 : Outcome ℕ) → Goes d o o1 → Further (result_of o) (result_of o1)
further d (Done x st) o1 e = ap result_of e
further d (Ended e streams) o1 h = ap result_of h
further d (Going streams) (Done x st) b = b
further d (Going streams) (Ended e streams1) b = b
further d (Going streams) (Going streams1) b = b
further d (Going streams) Wild b = tt
further d Wild o1 h = ap result_of h

pub more_turns_go_further : MoreTurnsGoFurther
more_turns_go_further cores map streams n more =
    let program = placed cores map.places in
    let st : State = record { cells = start_cells (standing program); streams = streams; turns = n } in
    let le : suc n ≤ suc (n + more) = omega arith in
    let h = more_then more (read 9) (read 9) (λ start. calls program (suc n) start [] (map.stack_base + 2)) (λ start. calls program (suc (n + more)) start [] (map.stack_base + 2))
    (more_read more 9) (λ start. more_calls more program (suc n) (suc (n + more)) le start [] (map.stack_base + 2)) in
    further more (run_of (entered_at program) map.stack_base st) (run_of (entered_at program) map.stack_base (later more st)) (h.from st)
