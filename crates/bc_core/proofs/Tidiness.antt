-- Every run is tidy: outputs only grow, and what is live afterwards was live before.
use Rattle.std.proofs.Common.{◌≡◌, ℕ, zero, suc, ◌+◌, ◌%◌, ◌≤◌, ◌==◌, ◌||◌, List, [], ◌∷◌, Bool, true, false, Option, Some, None, refl, sym, ap, subst, arith}
use Rattle.std.specs.Prelude.{nat_le, cond}
use Rattle.bc_word.specs.declared.operator.Op.{Op}
use Rattle.bc_word.specs.declared.operator.Op.TheVariants as operators
use Rattle.bc_word.specs.Words.{value_of, holds}
use Rattle.bc_machine_defs.specs.Streams.{Content}
use Rattle.bc_machine_defs.specs.StreamCalls.{output_of, find_stream}
use Rattle.bc_core.specs.Tree.{Exp, Num, Frame, Glob, Place, Load, Neg, Not, Bin, Cond, Call, Valof, Args, no_argument, argument, count}
use Rattle.bc_core.specs.Commands.{Variable, Initial, Vector, Command, Block, block, Items, no_item, command, case, default, label, Routine, Body, Gives, Does}
use Rattle.bc_core.specs.Commands as commands
use Rattle.bc_core.specs.Operand.{is_operand}
use Rattle.bc_core.specs.Level.{side_level, cells_of, cells_of_all, cells_declared}
use Rattle.bc_core.specs.Layout.{frame_size}
use Rattle.bc_core.specs.Store.{Cell, Dead, Unset, Set, cell_at, opened}
use Rattle.bc_core.specs.Outcome.{State, Outcome, Done, Ended, Going, Wild, Ending, ZeroDivide, Run, wild, ends, followed, then_do, choose, taken, in_turn, content_of_cell, read, written, write, left, with_cells, outweighed, second_side, both, Round, Again, Leave, next_round, rounds, repeated}
use Rattle.bc_core.specs.Value.{Context, Sense, has_call, truth_of_value, given, operated, operator_truth, sense, values, value, truth, assign}
use Rattle.bc_core.specs.Exit.{Exit, Past, Broke, Looped, LeftCases, Returned, Resulted, Jumped, onward}
use Rattle.bc_core.specs.Lists.{Entry, Beginning, AtCase, AtDefault, AtLabel, from_entry, after_list, listed, after_cases, switched, met, meets_case, meets_default, meets_label, entry_of}
use Rattle.bc_core.specs.Loop.{LoopRound, back, leave, after_body, while_loop, repeat_loop, repeat_while_loop, for_loop, agrees, end_relation}
use Rattle.bc_core.specs.Command.{initialise_one, initialise, declare, perform, perform_block, perform_items, step_of_for}
use Rattle.bc_core.specs.Primitive.{Primitive, Select, ReadByte, WriteByte, Find, EndStream, byte_of_string, bytes_of_string, on_streams, primitive_work, primitive_frame}
use Rattle.bc_core.specs.Map.{Placed}
use Rattle.bc_core.specs.Meaning.{Call as Calling, routine_value, valof_value, valofs_from, context_in, body_value, passed, with_arguments, in_frame, Callee, OfSection, OfLibrary, callee, entered, entered_of, calls}
use Rattle.bc_core.specs.Laws.{is_live, Longer, Tidy, CallsAreTidy}
use Rattle.bc_core.proofs.Outputs.{longer_refl, longer_then, select_longer, read_longer, write_longer, end_longer}
use Rattle.bc_core.proofs.Liveness.{Outside, filled_outside, passed_outside, live_then, dead_then, given_back, dead_above, set_live}

pub record TidyRun {A : Type 0} (top : ℕ) (r : Run A) : Type 0 where
  pub from : (st : State) → Tidy top st.cells st.streams (r st)

pub tidy_done : {A : Type 0} (top : ℕ) (x : A) → TidyRun top (Done x)
tidy_done top x = record { from = λ st. (longer_refl (output_of st.streams), λ dead a. refl) }

pub tidy_ends : (A : Type 0) (top : ℕ) (e : Ending) → TidyRun top (ends {A = A} e)
tidy_ends A top e = record { from = λ st. longer_refl (output_of st.streams) }

pub tidy_wild : (A : Type 0) (top : ℕ) → TidyRun top (wild {A = A})
tidy_wild A top = record { from = λ st. tt }

tidy_followed : {A B : Type 0} (top : ℕ) (cells : List Cell) (streams : Content) (o : Outcome A) (f : A → Run B) → Tidy top cells streams o → ((x : A) → TidyRun top (f x)) → Tidy top cells streams (followed o f)
tidy_followed {A = A} {B = B} top cells streams (Done x st) f h k = joined (f x st) ((k x).from st) where
  joined : (o : Outcome B) → Tidy top st.cells st.streams o → Tidy top cells streams o
  joined (Done y st2) t = (longer_then _ _ _ h.0 t.0, λ dead. live_then cells st.cells st2.cells (h.1 dead) (t.1 (dead_then top cells st.cells (h.1 dead) dead)))
  joined (Ended e streams2) t = longer_then _ _ _ h.0 t
  joined (Going streams2) t = longer_then _ _ _ h.0 t
  joined Wild t = tt
tidy_followed top cells streams (Ended e streams1) f h k = h
tidy_followed top cells streams (Going streams1) f h k = h
tidy_followed top cells streams Wild f h k = tt

pub tidy_then : {A B : Type 0} (top : ℕ) (r : Run A) (f : A → Run B) → TidyRun top r → ((x : A) → TidyRun top (f x)) → TidyRun top (then_do r f)
tidy_then top r f h k = record { from = λ st. tidy_followed top st.cells st.streams (r st) f (h.from st) k }

pub tidy_choose : {A : Type 0} (top : ℕ) (t : Bool) (this that : Run A) → TidyRun top this → TidyRun top that → TidyRun top (choose t this that)
tidy_choose top true this that h k = h
tidy_choose top false this that h k = k

pub tidy_turn : {A : Type 0} (top : ℕ) (r : Run A) → TidyRun top r → TidyRun top (in_turn r)
tidy_turn top r h = record { from = λ st. turns st st.turns } where
  turns : (st : State) (n : ℕ) → Tidy top st.cells st.streams (taken n r st)
  turns st zero = longer_refl (output_of st.streams)
  turns st (suc n) = h.from (record st { turns = n })

pub tidy_read : (top a : ℕ) → TidyRun top (read a)
tidy_read top a = record { from = λ st. of_cell st (cell_at st.cells a) } where
  of_cell : (st : State) (c : Cell) → Tidy top st.cells st.streams (content_of_cell c st)
  of_cell st Dead = tt
  of_cell st Unset = tt
  of_cell st (Set w) = (tidy_done top w).from st

pub tidy_write : (top a w : ℕ) → TidyRun top (write a w)
tidy_write top a w = record { from = λ st. of_cell st (cell_at st.cells a) refl } where
  of_cell : (st : State) (c : Cell) → cell_at st.cells a ≡ c → Tidy top st.cells st.streams (written c a w st)
  of_cell st Dead e = tt
  of_cell st Unset e = (longer_refl (output_of st.streams), λ dead. set_live st.cells a w (ap is_live e))
  of_cell st (Set old) e = (longer_refl (output_of st.streams), λ dead. set_live st.cells a w (ap is_live e))

pub tidy_both : {A B C : Type 0} (top : ℕ) (calls : Bool) (first : Run A) (second : Run B) (f : A → B → Run C) → TidyRun top first → TidyRun top second → ((x : A) (y : B) → TidyRun top (f x y)) → TidyRun top (both calls first second f)
tidy_both {A = A} {B = B} {C = C} top calls first second f h k g = record { from = λ st. sides st calls (first st) (h.from st) } where
  weighed : (st : State) (e : Ending) (streams : Content) (o : Outcome B) → Longer (output_of st.streams) (output_of streams) → Tidy {A = C} top st.cells st.streams (outweighed e streams o)
  weighed st e streams (Done y st2) l = l
  weighed st e streams (Ended e2 streams2) l = l
  weighed st e streams (Going streams2) l = l
  weighed st e streams Wild l = tt

  sides : (st : State) (calls : Bool) (o : Outcome A) → Tidy top st.cells st.streams o → Tidy top st.cells st.streams (second_side calls o second f st)
  sides st calls (Done x st1) t = tidy_followed top st.cells st.streams (Done x st1) (λ z. then_do second (f z)) t (λ z. tidy_then top second (f z) k (g z))
  sides st false (Ended e streams) t = weighed st e streams (second st) t
  sides st true (Ended e streams) t = t
  sides st calls (Going streams) t = t
  sides st calls Wild t = tt

-- a run that is tidy above a higher address is tidy above this one
pub tidy_up : {A : Type 0} (top top1 : ℕ) (r : Run A) → top ≤ top1 → TidyRun top1 r → TidyRun top r
tidy_up {A = A} top top1 r le h = record { from = λ st. lower st (r st) (h.from st) } where
  lower : (st : State) (o : Outcome A) → Tidy top1 st.cells st.streams o → Tidy top st.cells st.streams o
  lower st (Done x st1) t = (t.0, λ dead. t.1 (λ a high. dead a (omega arith)))
  lower st (Ended e streams) t = t
  lower st (Going streams) t = t
  lower st Wild t = tt

-- n cells from a on are opened in some way, and given back
tidy_opened : {A : Type 0} (n top a : ℕ) (cells : List Cell) (st : State) (r : Run A) → top ≤ a → ((b : ℕ) → Outside n a b → cell_at cells b ≡ cell_at st.cells b) → TidyRun (a + n) r → Tidy top st.cells st.streams (left n a (r (record st { cells = cells })))
tidy_opened {A = A} n top a cells st r le same h = after (r (record st { cells = cells })) (h.from (record st { cells = cells })) where
  after : (o : Outcome A) → Tidy (a + n) cells st.streams o → Tidy top st.cells st.streams (left n a o)
  after (Done x st1) t = (t.0, λ dead. given_back n top a st.cells cells st1.cells le same dead (t.1 (dead_above n top a st.cells cells le same dead)))
  after (Ended e streams) t = t
  after (Going streams) t = t
  after Wild t = tt

tidy_with_cells : {A : Type 0} (n top : ℕ) (r : Run A) → TidyRun (top + n) r → TidyRun top (with_cells n top r)
tidy_with_cells n top r h =
    let le : top ≤ top = omega arith in
    record { from = λ st. tidy_opened n top top (opened n top st.cells) st r le (λ b out. filled_outside n top Unset st.cells b out) h }

pub tidy_rounds : {A B : Type 0} (top n : ℕ) (f : A → Run (Round A B)) (x : A) → ((y : A) → TidyRun top (f y)) → TidyRun top (rounds n f x)
tidy_rounds top zero f x h = record { from = λ st. longer_refl (output_of st.streams) }
tidy_rounds {A = A} {B = B} top (suc n) f x h = tidy_then top (f x) (next_round (rounds n f)) (h x) (onwards (λ y. tidy_rounds top n f y h)) where
  onwards : ((y : A) → TidyRun top (rounds n f y)) → (r : Round A B) → TidyRun top (next_round (rounds n f) r)
  onwards again (Again y) = again y
  onwards again (Leave y) = tidy_done top y

pub tidy_repeated : {A B : Type 0} (top : ℕ) (f : A → Run (Round A B)) (x : A) → ((y : A) → TidyRun top (f y)) → TidyRun top (repeated f x)
tidy_repeated top f x h = record { from = λ st. (tidy_rounds top (suc st.turns) f x h).from st }

-- calls and VALOFs are tidy above the frame or level at which they begin
record TidyContext (C : Context) : Type 0 where
  call : (r : ℕ) (vs : List ℕ) (f : ℕ) → TidyRun f (C.call r vs f)
  valof : (n p s : ℕ) → TidyRun (p + s) (C.valof n p s)

record TidySense (top : ℕ) (a : Sense) : Type 0 where
  value : TidyRun top a.value
  truth : TidyRun top a.truth

by_value : (top : ℕ) (r : Run ℕ) → TidyRun top r → TidyRun top r × TidyRun top (truth_of_value r)
by_value top r h = (h, tidy_then top r _ h (λ v. tidy_done top _))

tidy_given : (top : ℕ) (v : Option ℕ) → TidyRun top (given v)
tidy_given top None = tidy_ends ℕ top ZeroDivide
tidy_given top (Some v) = tidy_done top v

tidy_operated : (top : ℕ) (op : Op) (calls : Bool) (a b : Run ℕ) → TidyRun top a → TidyRun top b → TidyRun top (operated op calls a b)
tidy_operated top op calls a b h k = tidy_both top calls a b _ h k (λ x y. tidy_given top (value_of op x y))

tidy_operator_truth : (top : ℕ) (op : Op) (a b : Sense) (v : Run ℕ) → TidyRun top a.truth → TidyRun top b.truth → TidyRun top v → TidyRun top (operator_truth op a b v)
tidy_operator_truth top operators.And a b v h k g = tidy_then top a.truth _ h (λ t. tidy_choose top t b.truth _ k (tidy_done top false))
tidy_operator_truth top operators.Or a b v h k g = tidy_then top a.truth _ h (λ t. tidy_choose top t _ b.truth (tidy_done top true) k)
tidy_operator_truth top _ a b v h k g = (by_value top v g).1

abbrev SenseAt : Context → Exp → ℕ → ℕ → Type 0
SenseAt C e p s = TidyRun (p + s) (sense C e p s).value × TidyRun (p + s) (sense C e p s).truth

mutual
  tidy_sense : (C : Context) → TidyContext C → (e : Exp) (p s : ℕ) → SenseAt C e p s
  tidy_sense C t (Num n) p s = by_value (p + s) _ (tidy_done (p + s) _)
  tidy_sense C t (Frame k) p s = by_value (p + s) _ (tidy_done (p + s) _)
  tidy_sense C t (Glob n) p s = by_value (p + s) _ (tidy_done (p + s) _)
  tidy_sense C t (Place m) p s = by_value (p + s) _ (tidy_done (p + s) _)
  tidy_sense C t (Load e) p s = by_value (p + s) _ (tidy_then (p + s) _ _ (tidy_sense C t e p s).0 (λ a. tidy_read (p + s) a))
  tidy_sense C t (Neg e) p s = by_value (p + s) _ (tidy_then (p + s) _ _ (tidy_sense C t e p s).0 (λ v. tidy_done (p + s) _))
  tidy_sense C t (Not e) p s =
      let h = tidy_sense C t e p s in
      (tidy_then (p + s) _ _ h.0 (λ v. tidy_done (p + s) _), tidy_then (p + s) _ _ h.1 (λ v. tidy_done (p + s) _))
  tidy_sense C t (Bin op a b) p s =
      let up : p + s ≤ p + (s + 1) = omega arith in
      let h = tidy_sense C t a p (s + 1) in
      let k = tidy_sense C t b p (s + 1) in
      let v = tidy_up (p + s) (p + (s + 1)) _ up (tidy_operated (p + (s + 1)) op (has_call a || has_call b) _ _ h.0 k.0) in
      (v, tidy_operator_truth (p + s) op (sense C a p (s + 1)) (sense C b p (s + 1)) _ (tidy_up (p + s) (p + (s + 1)) _ up h.1) (tidy_up (p + s) (p + (s + 1)) _ up k.1) v)
  tidy_sense C t (Cond c x y) p s =
      by_value (p + s) _ (tidy_then (p + s) _ _ (tidy_sense C t c p s).1 (λ b. tidy_choose (p + s) b _ _ (tidy_sense C t x p s).0 (tidy_sense C t y p s).0))
  tidy_sense C t (Call es f) p s =
      let first : p + s ≤ p + (s + 2) = omega arith in
      let last : p + s ≤ p + (s + 2 + count es) = omega arith in
      by_value (p + s) _ (tidy_then (p + s) _ _ (tidy_up (p + s) (p + (s + 2)) _ first (tidy_values C t es p (s + 2)))
      (λ vs. tidy_then (p + s) _ _ (tidy_up (p + s) (p + (s + 2 + count es)) _ last (tidy_sense C t f p (s + 2 + count es)).0) (λ r. t.call r vs (p + s))))
  tidy_sense C t (Valof n) p s = by_value (p + s) _ (t.valof n p s)

  tidy_values : (C : Context) → TidyContext C → (es : Args) (p s : ℕ) → TidyRun (p + s) (values C es p s)
  tidy_values C t no_argument p s = tidy_done (p + s) _
  tidy_values C t (argument e es) p s =
      let up : p + s ≤ p + (s + 1) = omega arith in
      tidy_then (p + s) _ _ (tidy_sense C t e p s).0 (λ v. tidy_then (p + s) _ _ (tidy_up (p + s) (p + (s + 1)) _ up (tidy_values C t es p (s + 1))) (λ vs. tidy_done (p + s) _))

tidy_value : (C : Context) → TidyContext C → (e : Exp) (top p s : ℕ) → top ≤ p + s → TidyRun top (value C e p s)
tidy_value C t e top p s le = tidy_up top (p + s) _ le (tidy_sense C t e p s).0

tidy_truth : (C : Context) → TidyContext C → (e : Exp) (top p s : ℕ) → top ≤ p + s → TidyRun top (truth C e p s)
tidy_truth C t e top p s le = tidy_up top (p + s) _ le (tidy_sense C t e p s).1

no_lower : (t : Bool) (s : ℕ) → s ≤ cond t s (s + 1)
no_lower true s = omega arith
no_lower false s = omega arith

tidy_assign : (C : Context) → TidyContext C → (v a : Exp) (top p s : ℕ) → top ≤ p + s → TidyRun top (assign C v a p s)
tidy_assign C t v a top p s le =
    let s1 = side_level a s in
    let up : top ≤ p + s1 = omega (arith, no_lower (is_operand a) s) in
    tidy_both top (has_call v || has_call a) _ _ _ (tidy_value C t v top p s1 up) (tidy_value C t a top p s1 up) (λ w d. tidy_write top d w)

-- initialisers, and declarations around what follows them
tidy_initialise_one : (C : Context) → TidyContext C → (v : Variable) (top p k s : ℕ) → top ≤ p + s → TidyRun top (initialise_one C v p k s)
tidy_initialise_one C t (Initial e) top p k s le = tidy_assign C t e (Frame k) top p s le
tidy_initialise_one C t (Vector n) top p k s le = tidy_assign C t (Frame (k + 1)) (Frame k) top p s le

tidy_initialise : (C : Context) → TidyContext C → (vs : List Variable) (top p k s : ℕ) → top ≤ p + s → TidyRun top (initialise C vs p k s)
tidy_initialise C t [] top p k s le = tidy_done {A = Unit {0}} top tt
tidy_initialise C t (v ∷ vs) top p k s le =
    tidy_then top _ _ (tidy_initialise_one C t v top p k s le) (λ u. tidy_initialise C t vs top p (k + cells_of v) s le)

tidy_declare : (C : Context) → TidyContext C → (ds : List (List Variable)) (p s : ℕ) (r : Run Exit) → TidyRun (p + (s + cells_declared ds)) r → TidyRun (p + s) (declare C ds p s r)
tidy_declare C t [] p s r h = let up : p + s ≤ p + (s + 0) = omega arith in tidy_up (p + s) (p + (s + 0)) r up h
tidy_declare C t (vs ∷ ds) p s r h =
    let n = cells_of_all vs in
    let same : p + s + n ≡ p + (s + n) = omega arith in
    let le : p + (s + n) ≤ p + (s + n) = omega arith in
    let further : p + (s + (n + cells_declared ds)) ≡ p + (s + n + cells_declared ds) = omega arith in
    tidy_with_cells n (p + s) _ (subst (λ top. TidyRun top (then_do (initialise C vs p s (s + n)) (λ u. declare C ds p (s + n) r))) (sym same)
    (tidy_then (p + (s + n)) _ _ (tidy_initialise C t vs (p + (s + n)) p s (s + n) le)
    (λ u. tidy_declare C t ds p (s + n) r (subst (λ top. TidyRun top r) further h))))

tidy_from_entry : (top : ℕ) (at : Entry) (r : Run Exit) → TidyRun top r → TidyRun top (from_entry at r)
tidy_from_entry top Beginning r h = h
tidy_from_entry top (AtCase v) r h = tidy_done top Past
tidy_from_entry top AtDefault r h = tidy_done top Past
tidy_from_entry top (AtLabel l) r h = tidy_done top Past

tidy_onward : (top : ℕ) (r : Run Exit) (x : Exit) → TidyRun top r → TidyRun top (onward r x)
tidy_onward top r Past h = h
tidy_onward top r Broke h = tidy_done top _
tidy_onward top r Looped h = tidy_done top _
tidy_onward top r LeftCases h = tidy_done top _
tidy_onward top r Returned h = tidy_done top _
tidy_onward top r (Resulted v) h = tidy_done top _
tidy_onward top r (Jumped l) h = tidy_done top _

tidy_after_list : (top : ℕ) (is : ℕ → Bool) (x : Exit) → TidyRun top (after_list is x)
tidy_after_list top is Past = tidy_done top _
tidy_after_list top is Broke = tidy_done top _
tidy_after_list top is Looped = tidy_done top _
tidy_after_list top is LeftCases = tidy_done top _
tidy_after_list top is Returned = tidy_done top _
tidy_after_list top is (Resulted v) = tidy_done top _
tidy_after_list top is (Jumped l) = tidy_done top _

tidy_listed : (top : ℕ) (is : ℕ → Bool) (items : Entry → Run Exit) (at : Entry) → ((at1 : Entry) → TidyRun top (items at1)) → TidyRun top (listed is items at)
tidy_listed top is items at h = tidy_repeated top _ at (λ at1. tidy_then top _ _ (h at1) (λ x. tidy_after_list top is x))

tidy_after_cases : (top : ℕ) (x : Exit) → TidyRun top (after_cases x)
tidy_after_cases top Past = tidy_done top _
tidy_after_cases top Broke = tidy_done top _
tidy_after_cases top Looped = tidy_done top _
tidy_after_cases top LeftCases = tidy_done top _
tidy_after_cases top Returned = tidy_done top _
tidy_after_cases top (Resulted v) = tidy_done top _
tidy_after_cases top (Jumped l) = tidy_done top _

tidy_back : (top : ℕ) → TidyRun top back
tidy_back top = tidy_turn top _ (tidy_done top _)

tidy_after_body : (top : ℕ) (again : Run (Round (Unit {0}) Exit)) (x : Exit) → TidyRun top again → TidyRun top (after_body again x)
tidy_after_body top again Past h = h
tidy_after_body top again Looped h = h
tidy_after_body top again Broke h = tidy_done top _
tidy_after_body top again LeftCases h = tidy_done top _
tidy_after_body top again Returned h = tidy_done top _
tidy_after_body top again (Resulted v) h = tidy_done top _
tidy_after_body top again (Jumped l) h = tidy_done top _

tidy_round : (top : ℕ) (body : Run Exit) (rest : LoopRound) → TidyRun top body → TidyRun top rest → TidyRun top (then_do body (after_body rest))
tidy_round top body rest h k = tidy_then top body (after_body rest) h (λ x. tidy_after_body top rest x k)

tidy_while : (top : ℕ) (sense : Bool) (test : Run Bool) (body : Run Exit) → TidyRun top test → TidyRun top body → TidyRun top (while_loop sense test body)
tidy_while top sense test body h k =
    tidy_repeated top _ tt (λ u. tidy_then top test _ h (λ t. tidy_choose top (agrees sense t) _ leave (tidy_round top body back k (tidy_back top)) (tidy_done top (Leave Past))))

tidy_repeat : (top : ℕ) (body : Run Exit) → TidyRun top body → TidyRun top (repeat_loop body)
tidy_repeat top body k = tidy_repeated top _ tt (λ u. tidy_round top body back k (tidy_back top))

tidy_repeat_while : (top : ℕ) (body : Run Exit) (sense : Bool) (test : Run Bool) → TidyRun top body → TidyRun top test → TidyRun top (repeat_while_loop body sense test)
tidy_repeat_while top body sense test k h =
    tidy_repeated top _ tt (λ u. tidy_round top body _ k (tidy_then top test _ h (λ t. tidy_choose top (agrees sense t) back leave (tidy_back top) (tidy_done top (Leave Past)))))

tidy_for : (top by : ℕ) (start : Run (Unit {0})) (limit variable : Run ℕ) (step : Run (Unit {0})) (body : Run Exit) → TidyRun top start → TidyRun top limit → TidyRun top variable → TidyRun top step → TidyRun top body → TidyRun top (for_loop by start limit variable step body)
tidy_for top by start limit variable step body hs hl hv ht hb =
    tidy_then top start _ hs (λ u. tidy_then top limit _ hl (λ n.
    tidy_repeated top _ tt (λ u. tidy_then top variable _ hv (λ i. tidy_choose top (holds (end_relation by) i n) leave _ (tidy_done top (Leave Past))
    (tidy_round top body _ hb (tidy_then top step _ ht (λ u. tidy_back top)))))))

tidy_switched : (top : ℕ) (v : Run ℕ) (cases is : ℕ → Bool) (items : Entry → Run Exit) → TidyRun top v → ((at : Entry) → TidyRun top (items at)) → TidyRun top (switched v cases is items)
tidy_switched top v cases is items h k =
    tidy_then top v _ h (λ w. tidy_then top _ after_cases (tidy_listed top is items (entry_of cases w) k) (λ x. tidy_after_cases top x))

mutual
  tidy_perform : (C : Context) → TidyContext C → (c : Command) (p s : ℕ) → TidyRun (p + s) (perform C c p s)
  tidy_perform C t (commands.Call e) p s = tidy_then (p + s) _ _ (tidy_sense C t e p s).0 (λ v. tidy_done (p + s) _)
  tidy_perform C t (commands.Assign v a) p s = let le : p + s ≤ p + s = omega arith in tidy_then (p + s) _ _ (tidy_assign C t v a (p + s) p s le) (λ u. tidy_done (p + s) _)
  tidy_perform C t (commands.If sense e b) p s =
      tidy_then (p + s) _ _ (tidy_sense C t e p s).1 (λ v. tidy_choose (p + s) _ _ _ (tidy_block C t b p s) (tidy_done (p + s) _))
  tidy_perform C t (commands.Test e b c) p s =
      tidy_then (p + s) _ _ (tidy_sense C t e p s).1 (λ v. tidy_choose (p + s) _ _ _ (tidy_block C t b p s) (tidy_block C t c p s))
  tidy_perform C t (commands.While sense e b) p s = tidy_while (p + s) sense _ _ (tidy_sense C t e p s).1 (tidy_block C t b p s)
  tidy_perform C t (commands.Repeat b) p s = tidy_repeat (p + s) _ (tidy_block C t b p s)
  tidy_perform C t (commands.RepeatWhile b sense e) p s = tidy_repeat_while (p + s) _ sense _ (tidy_block C t b p s) (tidy_sense C t e p s).1
  tidy_perform C t (commands.For start limit by b) p s =
      let top = p + (s + 2) in
      let one : p + s + 1 ≤ p + (s + 2) = omega arith in
      let le : p + (s + 2) ≤ p + (s + 2) = omega arith in
      tidy_with_cells 1 (p + s) _ (tidy_up (p + s + 1) top _ one
      (tidy_for top by _ _ _ _ _ (tidy_assign C t start (Frame s) top p (s + 2) le) (tidy_sense C t limit p (s + 2)).0 (tidy_sense C t (Load (Frame s)) p (s + 2)).0
      (tidy_assign C t (step_of_for by s) (Frame s) top p (s + 2) le) (tidy_block C t b p (s + 2))))
  tidy_perform C t (commands.SwitchOn e is) p s = tidy_switched (p + s) _ _ _ _ (tidy_sense C t e p s).0 (λ at. tidy_items C t is p s at)
  tidy_perform C t commands.Break p s = tidy_done (p + s) _
  tidy_perform C t commands.Loop p s = tidy_done (p + s) _
  tidy_perform C t commands.EndCase p s = tidy_done (p + s) _
  tidy_perform C t commands.Return p s = tidy_done (p + s) _
  tidy_perform C t (commands.ResultIs e) p s = tidy_then (p + s) _ _ (tidy_sense C t e p s).0 (λ v. tidy_done (p + s) _)
  tidy_perform C t commands.Finish p s = tidy_ends Exit (p + s) _
  tidy_perform C t (commands.Goto l) p s = tidy_turn (p + s) _ (tidy_done (p + s) _)
  tidy_perform C t (commands.Nested b) p s = tidy_block C t b p s

  tidy_block : (C : Context) → TidyContext C → (b : Block) (p s : ℕ) → TidyRun (p + s) (perform_block C b p s)
  tidy_block C t (block ds is) p s = tidy_declare C t ds p s _ (tidy_listed (p + (s + cells_declared ds)) _ _ Beginning (λ at. tidy_items C t is p (s + cells_declared ds) at))

  tidy_items : (C : Context) → TidyContext C → (is : Items) (p s : ℕ) (at : Entry) → TidyRun (p + s) (perform_items C is p s at)
  tidy_items C t no_item p s at = tidy_done (p + s) _
  tidy_items C t (command c is) p s at =
      tidy_then (p + s) _ _ (tidy_from_entry (p + s) at _ (tidy_perform C t c p s)) (λ x. tidy_onward (p + s) _ x (tidy_items C t is p s at))
  tidy_items C t (case k is) p s at = tidy_items C t is p s (met (meets_case k at) at)
  tidy_items C t (default is) p s at = tidy_items C t is p s (met (meets_default at) at)
  tidy_items C t (label l is) p s at = tidy_items C t is p s (met (meets_label l at) at)

-- primitives
tidy_byte : (top address k : ℕ) → TidyRun top (byte_of_string address k)
tidy_byte top address k = tidy_then top _ _ (tidy_read top _) (λ word. tidy_done top _)

tidy_bytes : (top n k address : ℕ) → TidyRun top (bytes_of_string n k address)
tidy_bytes top zero k address = tidy_done top _
tidy_bytes top (suc n) k address = tidy_then top _ _ (tidy_byte top address k) (λ byte. tidy_then top _ _ (tidy_bytes top n (k + 1) address) (λ bytes. tidy_done top _))

tidy_on_streams : (top : ℕ) (change : Content → Content) (v : ℕ) → ((c : Content) → Longer (output_of c) (output_of (change c))) → TidyRun top (on_streams change v)
tidy_on_streams top change v h = record { from = λ st. (h st.streams, λ dead a. refl) }

pub tidy_primitive : (q : Primitive) (f top : ℕ) → TidyRun top (primitive_work q f)
tidy_primitive (Select side) f top = tidy_then top _ _ (tidy_read top (f + 2)) (λ n. tidy_on_streams top _ 0 (λ c. select_longer side n c))
tidy_primitive ReadByte f top = record { from = λ st. (read_longer st.streams, λ dead a. refl) }
tidy_primitive WriteByte f top = tidy_then top _ _ (tidy_read top (f + 2)) (λ w. tidy_on_streams top _ 0 (λ c. write_longer (w % 256) c))
tidy_primitive (Find side) f top =
    tidy_then top _ _ (tidy_read top (f + 2)) (λ a. tidy_then top _ _ (tidy_then top _ _ (tidy_byte top a 0) (λ n. tidy_bytes top n 1 a)) (λ name. record { from = λ st. (tidy_done top (find_stream side name st.streams)).from st }))
tidy_primitive (EndStream side) f top = tidy_on_streams top _ 0 (λ c. end_longer side c)

-- routines, VALOFs and calls
tidy_routine_value : (top : ℕ) (x : Exit) → TidyRun top (routine_value x)
tidy_routine_value top Past = tidy_done top _
tidy_routine_value top Broke = tidy_wild ℕ top
tidy_routine_value top Looped = tidy_wild ℕ top
tidy_routine_value top LeftCases = tidy_wild ℕ top
tidy_routine_value top Returned = tidy_done top _
tidy_routine_value top (Resulted v) = tidy_wild ℕ top
tidy_routine_value top (Jumped l) = tidy_wild ℕ top

tidy_valof_value : (top : ℕ) (x : Exit) → TidyRun top (valof_value x)
tidy_valof_value top Past = tidy_done top _
tidy_valof_value top Broke = tidy_wild ℕ top
tidy_valof_value top Looped = tidy_wild ℕ top
tidy_valof_value top LeftCases = tidy_wild ℕ top
tidy_valof_value top Returned = tidy_wild ℕ top
tidy_valof_value top (Resulted v) = tidy_done top _
tidy_valof_value top (Jumped l) = tidy_wild ℕ top

abbrev pub TidyCall : Calling → Type 0
TidyCall call = (r : ℕ) (vs : List ℕ) (f : ℕ) → TidyRun f (call r vs f)

tidy_elim : (top : ℕ) (t : Bool) (x y : Run ℕ) → TidyRun top x → TidyRun top y → TidyRun top (elim t [ true ↦ x | false ↦ y ])
tidy_elim top true x y h k = h
tidy_elim top false x y h k = k

tidy_valofs : (place : ℕ → ℕ) (call : Calling) → TidyCall call → (first : ℕ) (vs : List commands.Valof) (n p s : ℕ) → TidyRun (p + s) (valofs_from place call first vs n p s)
tidy_valofs place call t first [] n p s = tidy_wild ℕ (p + s)
tidy_valofs place call t first (v ∷ vs) n p s =
    tidy_elim (p + s) (n == first) _ _
    (tidy_then (p + s) _ valof_value (tidy_block _ (record { call = t; valof = λ m q z. tidy_valofs place call t (first + 1) vs m q z }) v.body p s) (λ x. tidy_valof_value (p + s) x))
    (tidy_valofs place call t (first + 1) vs n p s)

tidy_body : (C : Context) → TidyContext C → (b : Body) (p s : ℕ) → TidyRun (p + s) (body_value C b p s)
tidy_body C t (Gives e) p s = (tidy_sense C t e p s).0
tidy_body C t (Does b) p s = tidy_then (p + s) _ routine_value (tidy_block C t b p s) (λ x. tidy_routine_value (p + s) x)

tidy_with_arguments : (n f : ℕ) (vs : List ℕ) (r : Run ℕ) → TidyRun (f + (2 + n)) r → TidyRun f (with_arguments n (f + 2) vs r)
tidy_with_arguments n f vs r h =
    let le : f ≤ f + 2 = omega arith in
    let same : f + (2 + n) ≡ f + 2 + n = omega arith in
    record { from = λ st. tidy_opened n f (f + 2) (passed n (f + 2) vs st.cells) st r le (λ b out. passed_outside n (f + 2) vs st.cells b out) (subst (λ top. TidyRun top r) same h) }

tidy_in_frame : (f size : ℕ) (r : Run ℕ) → TidyRun f r → TidyRun f (in_frame f size r)
tidy_in_frame f size r h = tidy_choose f (nat_le (f + size) 65536) _ _ (tidy_turn f r h) (tidy_wild ℕ f)

tidy_enter : (call : Calling) → TidyCall call → (c : Option Callee) (vs : List ℕ) (f : ℕ) → TidyRun f (entered call (entered_of c) vs f)
tidy_enter call t None vs f = tidy_wild ℕ f
tidy_enter call t (Some (OfSection section r)) vs f =
    tidy_in_frame f (frame_size section.core.valofs r) _ (tidy_with_arguments r.parameters f vs _
    (tidy_body (context_in section call) (record { call = t; valof = λ n p s. tidy_valofs section.address call t 0 section.core.valofs n p s }) r.body f (2 + r.parameters)))
tidy_enter call t (Some (OfLibrary q)) vs f = tidy_in_frame f primitive_frame _ (tidy_with_arguments 1 f vs _ (tidy_primitive q f (f + (2 + 1))))

pub tidy_calls : (program : List Placed) (n : ℕ) → TidyCall (calls program n)
tidy_calls program zero a vs f = record { from = λ st. longer_refl (output_of st.streams) }
tidy_calls program (suc n) a vs f = record { from = λ st. (tidy_enter (calls program n) (tidy_calls program n) (callee program a) vs f).from st }

pub calls_are_tidy : CallsAreTidy
calls_are_tidy program n a vs f st = (tidy_calls program n a vs f).from st
