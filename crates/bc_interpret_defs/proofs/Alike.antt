-- No part of a source increases the remaining turns, and equal calls give it equal outcomes: form by form.
use Rattle.std.proofs.Common.{◌≡◌, ℕ, zero, suc, ◌+◌, ◌≤◌, ◌==◌, ◌||◌, List, [], ◌∷◌, Bool, true, false, cond, Option, Some, None, refl, subst, arith}
use Rattle.std.specs.Prelude.{nat_le}
use Rattle.bc_word.specs.declared.operator.Op.{Op}
use Rattle.bc_word.specs.declared.operator.Op.TheVariants as operators
use Rattle.bc_word.specs.Words.{value_of, holds}
use Rattle.bc_machine_defs.specs.Streams.{Content}
use Rattle.bc_core.specs.Tree.{Exp, Num, Frame, Glob, Place, Load, Neg, Not, Bin, Cond, Call, Valof, Args, no_argument, argument, count}
use Rattle.bc_core.specs.Commands.{Variable, Initial, Vector, Command, Block, block, Items, no_item, command, case, default, label, Routine, Body, Gives, Does}
use Rattle.bc_core.specs.Commands as commands
use Rattle.bc_core.specs.Level.{side_level, cells_of, cells_of_all, cells_declared}
use Rattle.bc_core.specs.Layout.{frame_size}
use Rattle.bc_core.specs.Store.{opened}
use Rattle.bc_core.specs.Outcome.{Done, ZeroDivide, Run, then_do, in_turn, with_cells, Round, Again, Leave}
use Rattle.bc_core.specs.Value.{Context, Sense, has_call, is_true, truth_of_value, given, operator_truth, sense, values, assign}
use Rattle.bc_core.specs.Exit.{Exit, Past, Broke, Looped, LeftCases, Returned, Resulted, Jumped, onward}
use Rattle.bc_core.specs.Lists.{Entry, Beginning, AtCase, AtDefault, AtLabel, from_entry, after_list, listed, after_cases, switched, met, meets_case, meets_default, meets_label, entry_of}
use Rattle.bc_core.specs.Loop.{LoopRound, back, leave, after_body, while_loop, repeat_loop, repeat_while_loop, for_loop, agrees, end_relation}
use Rattle.bc_core.specs.Command.{initialise_one, initialise, declare, perform, perform_block, perform_items, step_of_for}
use Rattle.bc_core.specs.Primitive.{Primitive, primitive_work, primitive_frame, Select, ReadByte, WriteByte, Find, EndStream, byte_of_string, bytes_of_string, string_of, on_streams}
use Rattle.bc_core.specs.Map.{Placed}
use Rattle.bc_core.specs.Meaning.{Call as Calling, routine_value, valof_value, valofs_from, context_in, body_value, passed, Callee, OfSection, OfLibrary, callee, entered, entered_of, calls}
use Rattle.bc_interpret_defs.proofs.Spending.{free, round_cost, Alike, alike_less, alike_done, alike_ends, alike_wild, alike_then, alike_choose, alike_turn, alike_read, alike_write, alike_both, alike_opened, alike_repeated}

-- a jump to a label has taken a turn; a list that continues at that label owes it
abbrev pub exit_cost : Exit → ℕ
exit_cost (Jumped l) = 1
exit_cost _ = 0

pub alike_give : {A : Type 0} (n : ℕ) (x : A) → Alike free n 0 (Done x) (Done x)
alike_give n x = alike_done free n 0 x (omega arith)

pub exit_give : (n k : ℕ) (x : Exit) → exit_cost x ≤ k → Alike exit_cost n k (Done x) (Done x)
exit_give n k x le = alike_done exit_cost n k x le

pub round_give : {A : Type 0} (n k : ℕ) (x : Round A Exit) → round_cost exit_cost x ≤ k → Alike (round_cost exit_cost) n k (Done x) (Done x)
round_give n k x le = alike_done (round_cost exit_cost) n k x le

jump_cost : (l : ℕ) (t : Bool) → round_cost exit_cost (cond t (Again (AtLabel l)) (Leave (Jumped l))) ≤ 1
jump_cost l true = omega arith
jump_cost l false = omega arith

owed : (n : ℕ) (r q : Run ℕ) → Alike free n 0 r q → Alike free n 1 r q
owed n r q h = alike_less free n n 0 1 r q (omega arith) (omega arith) h

alike_turn1 : {A : Type 0} (cost : A → ℕ) (n : ℕ) (r q : Run A) → Alike cost n 1 r q → Alike cost n 0 (in_turn r) (in_turn q)
alike_turn1 cost n r q h = alike_less cost (suc n) n 0 0 (in_turn r) (in_turn q) (omega arith) (omega arith) (alike_turn cost n r q h)

pub record AlikeContext (d : ℕ) (C D : Context) : Type 0 where
  pub place : (m : ℕ) → C.place m ≡ D.place m
  pub call : (r : ℕ) (vs : List ℕ) (f : ℕ) → Alike free d 0 (C.call r vs f) (D.call r vs f)
  pub valof : (n p s : ℕ) → Alike free d 0 (C.valof n p s) (D.valof n p s)

alike_by_value : (d : ℕ) (r q : Run ℕ) → Alike free d 0 r q → Alike free d 0 r q × Alike free d 0 (truth_of_value r) (truth_of_value q)
alike_by_value d r q h = (h, alike_then d r q _ _ h (λ v. alike_give d (is_true v)))

pub alike_given : (d : ℕ) (v : Option ℕ) → Alike free d 0 (given v) (given v)
alike_given d None = alike_ends free d 0 ZeroDivide
alike_given d (Some v) = alike_give d v

alike_truth : (d : ℕ) (op : Op) (a b a1 b1 : Sense) (v v1 : Run ℕ) → Alike free d 0 a.truth a1.truth → Alike free d 0 b.truth b1.truth → Alike free d 0 v v1 → Alike free d 0 (operator_truth op a b v) (operator_truth op a1 b1 v1)
alike_truth d operators.And a b a1 b1 v v1 h k g = alike_then d a.truth a1.truth _ _ h (λ t. alike_choose d t b.truth _ b1.truth _ k (alike_give d false))
alike_truth d operators.Or a b a1 b1 v v1 h k g = alike_then d a.truth a1.truth _ _ h (λ t. alike_choose d t _ b.truth _ b1.truth (alike_give d true) k)
alike_truth d _ a b a1 b1 v v1 h k g = (alike_by_value d v v1 g).1

mutual
  pub alike_sense : (d : ℕ) (C D : Context) → AlikeContext d C D → (e : Exp) (p s : ℕ) → Alike free d 0 (sense C e p s).value (sense D e p s).value × Alike free d 0 (sense C e p s).truth (sense D e p s).truth
  alike_sense d C D t (Num n) p s = alike_by_value d _ _ (alike_give d _)
  alike_sense d C D t (Frame k) p s = alike_by_value d _ _ (alike_give d _)
  alike_sense d C D t (Glob n) p s = alike_by_value d _ _ (alike_give d _)
  alike_sense d C D t (Place m) p s =
      alike_by_value d (Done (C.place m)) (Done (D.place m)) (subst (λ a. Alike free d 0 (Done (C.place m)) (Done a)) (t.place m) (alike_give d (C.place m)))
  alike_sense d C D t (Load e) p s = alike_by_value d _ _ (alike_then d _ _ _ _ (alike_sense d C D t e p s).0 (λ a. alike_read d a))
  alike_sense d C D t (Neg e) p s = alike_by_value d _ _ (alike_then d _ _ _ _ (alike_sense d C D t e p s).0 (λ v. alike_give d _))
  alike_sense d C D t (Not e) p s =
      let h = alike_sense d C D t e p s in (alike_then d _ _ _ _ h.0 (λ v. alike_give d _), alike_then d _ _ _ _ h.1 (λ v. alike_give d _))
  alike_sense d C D t (Bin op a b) p s =
      let h = alike_sense d C D t a p (s + 1) in
      let k = alike_sense d C D t b p (s + 1) in
      let v : Alike free d 0 (sense C (Bin op a b) p s).value (sense D (Bin op a b) p s).value =
      alike_both d (has_call a || has_call b) _ _ _ _ _ _ h.0 k.0 (λ x y. alike_given d (value_of op x y)) in
      (v, alike_truth d op (sense C a p (s + 1)) (sense C b p (s + 1)) (sense D a p (s + 1)) (sense D b p (s + 1)) _ _ h.1 k.1 v)
  alike_sense d C D t (Cond c x y) p s =
      alike_by_value d _ _ (alike_then d _ _ _ _ (alike_sense d C D t c p s).1 (λ b. alike_choose d b _ _ _ _ (alike_sense d C D t x p s).0 (alike_sense d C D t y p s).0))
  alike_sense d C D t (Call es f) p s =
      alike_by_value d _ _ (alike_then d _ _ _ _ (alike_values d C D t es p (s + 2)) (λ vs. alike_then d _ _ _ _ (alike_sense d C D t f p (s + 2 + count es)).0 (λ r. t.call r vs (p + s))))
  alike_sense d C D t (Valof n) p s = alike_by_value d _ _ (t.valof n p s)

  pub alike_values : (d : ℕ) (C D : Context) → AlikeContext d C D → (es : Args) (p s : ℕ) → Alike free d 0 (values C es p s) (values D es p s)
  alike_values d C D t no_argument p s = alike_give d _
  alike_values d C D t (argument e es) p s =
      alike_then d _ _ _ _ (alike_sense d C D t e p s).0 (λ v. alike_then d _ _ _ _ (alike_values d C D t es p (s + 1)) (λ vs. alike_give d _))

pub alike_assign : (d : ℕ) (C D : Context) → AlikeContext d C D → (v a : Exp) (p s : ℕ) → Alike free d 0 (assign C v a p s) (assign D v a p s)
alike_assign d C D t v a p s =
    let s1 = side_level a s in
    alike_both d (has_call v || has_call a) _ _ _ _ _ _ (alike_sense d C D t v p s1).0 (alike_sense d C D t a p s1).0 (λ w x. alike_write d x w)

pub alike_initialise_one : (d : ℕ) (C D : Context) → AlikeContext d C D → (v : Variable) (p k s : ℕ) → Alike free d 0 (initialise_one C v p k s) (initialise_one D v p k s)
alike_initialise_one d C D t (Initial e) p k s = alike_assign d C D t e (Frame k) p s
alike_initialise_one d C D t (Vector n) p k s = alike_assign d C D t (Frame (k + 1)) (Frame k) p s

pub alike_initialise : (d : ℕ) (C D : Context) → AlikeContext d C D → (vs : List Variable) (p k s : ℕ) → Alike free d 0 (initialise C vs p k s) (initialise D vs p k s)
alike_initialise d C D t [] p k s = alike_give {A = Unit {0}} d tt
alike_initialise d C D t (v ∷ vs) p k s =
    alike_then d _ _ _ _ (alike_initialise_one d C D t v p k s) (λ u. alike_initialise d C D t vs p (k + cells_of v) s)

pub alike_with_cells : {A : Type 0} (cost : A → ℕ) (d n a : ℕ) (r q : Run A) → Alike cost d 0 r q → Alike cost d 0 (with_cells n a r) (with_cells n a q)
alike_with_cells cost d n a r q h = alike_opened cost d 0 n a (opened n a) r q h

pub alike_declare : (d : ℕ) (C D : Context) → AlikeContext d C D → (ds : List (List Variable)) (p s : ℕ) (r q : Run Exit) → Alike exit_cost d 0 r q → Alike exit_cost d 0 (declare C ds p s r) (declare D ds p s q)
alike_declare d C D t [] p s r q h = h
alike_declare d C D t (vs ∷ ds) p s r q h =
    let n = cells_of_all vs in
    alike_with_cells exit_cost d n (p + s) _ _ (alike_then d _ _ _ _ (alike_initialise d C D t vs p s (s + n)) (λ u. alike_declare d C D t ds p (s + n) r q h))

pub alike_from_entry : (d : ℕ) (at : Entry) (r q : Run Exit) → Alike exit_cost d 0 r q → Alike exit_cost d 0 (from_entry at r) (from_entry at q)
alike_from_entry d Beginning r q h = h
alike_from_entry d (AtCase v) r q h = exit_give d 0 Past (omega arith)
alike_from_entry d AtDefault r q h = exit_give d 0 Past (omega arith)
alike_from_entry d (AtLabel l) r q h = exit_give d 0 Past (omega arith)

pub alike_onward : (d : ℕ) (r q : Run Exit) (x : Exit) → Alike exit_cost d 0 r q → Alike exit_cost d (exit_cost x) (onward r x) (onward q x)
alike_onward d r q Past h = h
alike_onward d r q Broke h = exit_give d 0 _ (omega arith)
alike_onward d r q Looped h = exit_give d 0 _ (omega arith)
alike_onward d r q LeftCases h = exit_give d 0 _ (omega arith)
alike_onward d r q Returned h = exit_give d 0 _ (omega arith)
alike_onward d r q (Resulted v) h = exit_give d 0 _ (omega arith)
alike_onward d r q (Jumped l) h = exit_give d 1 _ (omega arith)

pub alike_after_list : (d : ℕ) (is : ℕ → Bool) (x : Exit) → Alike (round_cost exit_cost) d (exit_cost x) (after_list is x) (after_list is x)
alike_after_list d is Past = round_give d 0 _ (omega arith)
alike_after_list d is Broke = round_give d 0 _ (omega arith)
alike_after_list d is Looped = round_give d 0 _ (omega arith)
alike_after_list d is LeftCases = round_give d 0 _ (omega arith)
alike_after_list d is Returned = round_give d 0 _ (omega arith)
alike_after_list d is (Resulted v) = round_give d 0 _ (omega arith)
alike_after_list d is (Jumped l) = round_give d 1 _ (jump_cost l (is l))

pub alike_listed : (d : ℕ) (is : ℕ → Bool) (items items1 : Entry → Run Exit) (at : Entry) → ((at1 : Entry) → Alike exit_cost d 0 (items at1) (items1 at1)) → Alike exit_cost d 0 (listed is items at) (listed is items1 at)
alike_listed d is items items1 at h = alike_repeated exit_cost d _ _ at (λ at1. alike_then d _ _ _ _ (h at1) (λ x. alike_after_list d is x))

pub alike_after_cases : (d : ℕ) (x : Exit) → Alike exit_cost d (exit_cost x) (after_cases x) (after_cases x)
alike_after_cases d Past = exit_give d 0 _ (omega arith)
alike_after_cases d Broke = exit_give d 0 _ (omega arith)
alike_after_cases d Looped = exit_give d 0 _ (omega arith)
alike_after_cases d LeftCases = exit_give d 0 _ (omega arith)
alike_after_cases d Returned = exit_give d 0 _ (omega arith)
alike_after_cases d (Resulted v) = exit_give d 0 _ (omega arith)
alike_after_cases d (Jumped l) = exit_give d 1 _ (omega arith)

alike_switched : (d : ℕ) (v v1 : Run ℕ) (cases is : ℕ → Bool) (items items1 : Entry → Run Exit) → Alike free d 0 v v1 → ((at : Entry) → Alike exit_cost d 0 (items at) (items1 at)) → Alike exit_cost d 0 (switched v cases is items) (switched v1 cases is items1)
alike_switched d v v1 cases is items items1 h k =
    alike_then d v v1 _ _ h (λ w. alike_then d _ _ after_cases after_cases (alike_listed d is items items1 (entry_of cases w) k) (λ x. alike_after_cases d x))

pub alike_back : (d : ℕ) → Alike (round_cost exit_cost) d 0 back back
alike_back d = alike_turn1 (round_cost exit_cost) d _ _ (round_give d 1 (Again tt) (omega arith))

pub alike_after_body : (d : ℕ) (r q : LoopRound) (x : Exit) → Alike (round_cost exit_cost) d 0 r q → Alike (round_cost exit_cost) d (exit_cost x) (after_body r x) (after_body q x)
alike_after_body d r q Past h = h
alike_after_body d r q Looped h = h
alike_after_body d r q Broke h = round_give d 0 _ (omega arith)
alike_after_body d r q LeftCases h = round_give d 0 _ (omega arith)
alike_after_body d r q Returned h = round_give d 0 _ (omega arith)
alike_after_body d r q (Resulted v) h = round_give d 0 _ (omega arith)
alike_after_body d r q (Jumped l) h = round_give d 1 _ (omega arith)

pub alike_round : (d : ℕ) (body body1 : Run Exit) (r q : LoopRound) → Alike exit_cost d 0 body body1 → Alike (round_cost exit_cost) d 0 r q → Alike (round_cost exit_cost) d 0 (then_do body (after_body r)) (then_do body1 (after_body q))
alike_round d body body1 r q h k = alike_then d body body1 (after_body r) (after_body q) h (λ x. alike_after_body d r q x k)

pub alike_while : (d : ℕ) (sense : Bool) (test test1 : Run Bool) (body body1 : Run Exit) → Alike free d 0 test test1 → Alike exit_cost d 0 body body1 → Alike exit_cost d 0 (while_loop sense test body) (while_loop sense test1 body1)
alike_while d sense test test1 body body1 h k =
    alike_repeated exit_cost d _ _ tt (λ u. alike_then d test test1 _ _ h (λ t. alike_choose d (agrees sense t) _ leave _ leave (alike_round d body body1 back back k (alike_back d)) (round_give d 0 (Leave Past) (omega arith))))

pub alike_repeat : (d : ℕ) (body body1 : Run Exit) → Alike exit_cost d 0 body body1 → Alike exit_cost d 0 (repeat_loop body) (repeat_loop body1)
alike_repeat d body body1 k = alike_repeated exit_cost d _ _ tt (λ u. alike_round d body body1 back back k (alike_back d))

pub alike_repeat_while : (d : ℕ) (body body1 : Run Exit) (sense : Bool) (test test1 : Run Bool) → Alike exit_cost d 0 body body1 → Alike free d 0 test test1 → Alike exit_cost d 0 (repeat_while_loop body sense test) (repeat_while_loop body1 sense test1)
alike_repeat_while d body body1 sense test test1 k h =
    alike_repeated exit_cost d _ _ tt (λ u. alike_round d body body1 _ _ k (alike_then d test test1 _ _ h (λ t. alike_choose d (agrees sense t) back leave back leave (alike_back d) (round_give d 0 (Leave Past) (omega arith)))))

pub alike_for : (d by : ℕ) (start start1 : Run (Unit {0})) (limit limit1 variable variable1 : Run ℕ) (step step1 : Run (Unit {0})) (body body1 : Run Exit) → Alike free d 0 start start1 → Alike free d 0 limit limit1 → Alike free d 0 variable variable1 → Alike free d 0 step step1 → Alike exit_cost d 0 body body1 → Alike exit_cost d 0 (for_loop by start limit variable step body) (for_loop by start1 limit1 variable1 step1 body1)
alike_for d by start start1 limit limit1 variable variable1 step step1 body body1 hs hl hv ht hb =
    alike_then d start start1 _ _ hs (λ u. alike_then d limit limit1 _ _ hl (λ n.
    alike_repeated exit_cost d _ _ tt (λ u. alike_then d variable variable1 _ _ hv (λ i. alike_choose d (holds (end_relation by) i n) leave _ leave _ (round_give d 0 (Leave Past) (omega arith))
    (alike_round d body body1 _ _ hb (alike_then d step step1 _ _ ht (λ u. alike_back d)))))))

mutual
  pub alike_perform : (d : ℕ) (C D : Context) → AlikeContext d C D → (c : Command) (p s : ℕ) → Alike exit_cost d 0 (perform C c p s) (perform D c p s)
  alike_perform d C D t (commands.Call e) p s = alike_then d _ _ _ _ (alike_sense d C D t e p s).0 (λ v. exit_give d 0 _ (omega arith))
  alike_perform d C D t (commands.Assign v a) p s = alike_then d _ _ _ _ (alike_assign d C D t v a p s) (λ u. exit_give d 0 _ (omega arith))
  alike_perform d C D t (commands.If sense e b) p s =
      alike_then d _ _ _ _ (alike_sense d C D t e p s).1 (λ v. alike_choose d (agrees sense v) _ _ _ _ (alike_block d C D t b p s) (exit_give d 0 Past (omega arith)))
  alike_perform d C D t (commands.Test e b c) p s =
      alike_then d _ _ _ _ (alike_sense d C D t e p s).1 (λ v. alike_choose d v _ _ _ _ (alike_block d C D t b p s) (alike_block d C D t c p s))
  alike_perform d C D t (commands.While sense e b) p s = alike_while d sense _ _ _ _ (alike_sense d C D t e p s).1 (alike_block d C D t b p s)
  alike_perform d C D t (commands.Repeat b) p s = alike_repeat d _ _ (alike_block d C D t b p s)
  alike_perform d C D t (commands.RepeatWhile b sense e) p s = alike_repeat_while d _ _ sense _ _ (alike_block d C D t b p s) (alike_sense d C D t e p s).1
  alike_perform d C D t (commands.For start limit by b) p s =
      alike_with_cells exit_cost d 1 (p + s) _ _ (alike_for d by _ _ _ _ _ _ _ _ _ _ (alike_assign d C D t start (Frame s) p (s + 2)) (alike_sense d C D t limit p (s + 2)).0
      (alike_sense d C D t (Load (Frame s)) p (s + 2)).0 (alike_assign d C D t (step_of_for by s) (Frame s) p (s + 2)) (alike_block d C D t b p (s + 2)))
  alike_perform d C D t (commands.SwitchOn e is) p s = alike_switched d _ _ _ _ _ _ (alike_sense d C D t e p s).0 (λ at. alike_items d C D t is p s at)
  alike_perform d C D t commands.Break p s = exit_give d 0 _ (omega arith)
  alike_perform d C D t commands.Loop p s = exit_give d 0 _ (omega arith)
  alike_perform d C D t commands.EndCase p s = exit_give d 0 _ (omega arith)
  alike_perform d C D t commands.Return p s = exit_give d 0 _ (omega arith)
  alike_perform d C D t (commands.ResultIs e) p s = alike_then d _ _ _ _ (alike_sense d C D t e p s).0 (λ v. exit_give d 0 _ (omega arith))
  alike_perform d C D t commands.Finish p s = alike_ends exit_cost d 0 _
  alike_perform d C D t (commands.Goto l) p s = alike_turn1 exit_cost d _ _ (exit_give d 1 _ (omega arith))
  alike_perform d C D t (commands.Nested b) p s = alike_block d C D t b p s

  pub alike_block : (d : ℕ) (C D : Context) → AlikeContext d C D → (b : Block) (p s : ℕ) → Alike exit_cost d 0 (perform_block C b p s) (perform_block D b p s)
  alike_block d C D t (block ds is) p s =
      alike_declare d C D t ds p s _ _ (alike_listed d _ _ _ Beginning (λ at. alike_items d C D t is p (s + cells_declared ds) at))

  pub alike_items : (d : ℕ) (C D : Context) → AlikeContext d C D → (is : Items) (p s : ℕ) (at : Entry) → Alike exit_cost d 0 (perform_items C is p s at) (perform_items D is p s at)
  alike_items d C D t no_item p s at = exit_give d 0 _ (omega arith)
  alike_items d C D t (command c is) p s at =
      alike_then d _ _ _ _ (alike_from_entry d at _ _ (alike_perform d C D t c p s)) (λ x. alike_onward d _ _ x (alike_items d C D t is p s at))
  alike_items d C D t (case k is) p s at = alike_items d C D t is p s (met (meets_case k at) at)
  alike_items d C D t (default is) p s at = alike_items d C D t is p s (met (meets_default at) at)
  alike_items d C D t (label l is) p s at = alike_items d C D t is p s (met (meets_label l at) at)

-- primitives
alike_byte : (d address k : ℕ) → Alike free d 0 (byte_of_string address k) (byte_of_string address k)
alike_byte d address k = alike_then d _ _ _ _ (alike_read d _) (λ word. alike_give d _)

alike_bytes : (d n k address : ℕ) → Alike free d 0 (bytes_of_string n k address) (bytes_of_string n k address)
alike_bytes d zero k address = alike_give d _
alike_bytes d (suc n) k address = alike_then d _ _ _ _ (alike_byte d address k) (λ byte. alike_then d _ _ _ _ (alike_bytes d n (k + 1) address) (λ bytes. alike_give d _))

alike_on_streams : (d : ℕ) (change : Content → Content) (v : ℕ) → Alike free d 0 (on_streams change v) (on_streams change v)
alike_on_streams d change v = record { same = λ st lt. refl; spends = λ st. omega arith }

pub alike_primitive : (d : ℕ) (q : Primitive) (f : ℕ) → Alike free d 0 (primitive_work q f) (primitive_work q f)
alike_primitive d (Select side) f = alike_then d _ _ _ _ (alike_read d (f + 2)) (λ n. alike_on_streams d _ 0)
alike_primitive d ReadByte f = record { same = λ st lt. refl; spends = λ st. omega arith }
alike_primitive d WriteByte f = alike_then d _ _ _ _ (alike_read d (f + 2)) (λ w. alike_on_streams d _ 0)
alike_primitive d (Find side) f =
    alike_then d _ _ _ _ (alike_read d (f + 2)) (λ a. alike_then d (string_of a) (string_of a) _ _ (alike_then d _ _ _ _ (alike_byte d a 0) (λ n. alike_bytes d n 1 a))
    (λ name. record { same = λ st lt. refl; spends = λ st. omega arith }))
alike_primitive d (EndStream side) f = alike_on_streams d _ 0

-- routines, VALOFs and calls
pub alike_routine_value : (d : ℕ) (x : Exit) → Alike free d (exit_cost x) (routine_value x) (routine_value x)
alike_routine_value d Past = alike_give d _
alike_routine_value d Broke = alike_wild free d _
alike_routine_value d Looped = alike_wild free d _
alike_routine_value d LeftCases = alike_wild free d _
alike_routine_value d Returned = alike_give d _
alike_routine_value d (Resulted v) = alike_wild free d _
alike_routine_value d (Jumped l) = alike_wild free d _

pub alike_valof_value : (d : ℕ) (x : Exit) → Alike free d (exit_cost x) (valof_value x) (valof_value x)
alike_valof_value d Past = alike_give d _
alike_valof_value d Broke = alike_wild free d _
alike_valof_value d Looped = alike_wild free d _
alike_valof_value d LeftCases = alike_wild free d _
alike_valof_value d Returned = alike_wild free d _
alike_valof_value d (Resulted v) = alike_give d _
alike_valof_value d (Jumped l) = alike_wild free d _

abbrev pub AlikeCall : ℕ → Calling → Calling → Type 0
AlikeCall d call call1 = (r : ℕ) (vs : List ℕ) (f : ℕ) → Alike free d 0 (call r vs f) (call1 r vs f)

alike_elim : (d : ℕ) (t : Bool) (x y x1 y1 : Run ℕ) → Alike free d 0 x x1 → Alike free d 0 y y1 → Alike free d 0 (elim t [ true ↦ x | false ↦ y ]) (elim t [ true ↦ x1 | false ↦ y1 ])
alike_elim d true x y x1 y1 h k = h
alike_elim d false x y x1 y1 h k = k

pub alike_valofs : (d : ℕ) (place : ℕ → ℕ) (call call1 : Calling) → AlikeCall d call call1 → (first : ℕ) (vs : List commands.Valof) (n p s : ℕ) → Alike free d 0 (valofs_from place call first vs n p s) (valofs_from place call1 first vs n p s)
alike_valofs d place call call1 t first [] n p s = alike_wild free d _
alike_valofs d place call call1 t first (v ∷ vs) n p s =
    alike_elim d (n == first) _ _ _ _
    (alike_then d _ _ valof_value valof_value (alike_block d _ _ (record { place = λ m. refl; call = t; valof = λ m q z. alike_valofs d place call call1 t (first + 1) vs m q z }) v.body p s) (λ x. alike_valof_value d x))
    (alike_valofs d place call call1 t (first + 1) vs n p s)

pub alike_body : (d : ℕ) (C D : Context) → AlikeContext d C D → (b : Body) (p s : ℕ) → Alike free d 0 (body_value C b p s) (body_value D b p s)
alike_body d C D t (Gives e) p s = (alike_sense d C D t e p s).0
alike_body d C D t (Does b) p s = alike_then d _ _ routine_value routine_value (alike_block d C D t b p s) (λ x. alike_routine_value d x)

-- calls that agree below n turns make all callees agree below n + 1 turns
pub alike_enter : (d : ℕ) (call call1 : Calling) → AlikeCall d call call1 → (c : Option Callee) (vs : List ℕ) (f : ℕ) → Alike free (suc d) 0 (entered call (entered_of c) vs f) (entered call1 (entered_of c) vs f)
alike_enter d call call1 t None vs f = alike_wild free (suc d) 0
alike_enter d call call1 t (Some (OfSection section r)) vs f =
    let valofs = section.core.valofs in
    alike_choose (suc d) (nat_le (f + frame_size valofs r) 65536) _ _ _ _
    (alike_turn free d _ _ (alike_opened free d 1 r.parameters (f + 2) (passed r.parameters (f + 2) vs) _ _
    (owed d _ _ (alike_body d (context_in section call) (context_in section call1)
    (record { place = λ m. refl; call = t; valof = λ n p s. alike_valofs d section.address call call1 t 0 valofs n p s }) r.body f (2 + r.parameters))))) (alike_wild free (suc d) 0)
alike_enter d call call1 t (Some (OfLibrary q)) vs f =
    alike_choose (suc d) (nat_le (f + primitive_frame) 65536) _ _ _ _
    (alike_turn free d _ _ (alike_opened free d 1 1 (f + 2) (passed 1 (f + 2) vs) _ _ (owed d _ _ (alike_primitive d q f)))) (alike_wild free (suc d) 0)

pub alike_calls : (program : List Placed) (d n m : ℕ) → d ≤ n → d ≤ m → AlikeCall d (calls program n) (calls program m)
alike_calls program zero zero m l1 l2 a vs f = record { same = λ st lt. absurd (omega arith); spends = λ st. tt }
alike_calls program zero (suc n) m l1 l2 a vs f =
    let h = alike_enter 0 (calls program n) (calls program n) (alike_calls program zero n n (omega arith) (omega arith)) (callee program a) vs f in
    record { same = λ st lt. absurd (omega arith); spends = λ st. h.spends st }
alike_calls program (suc d) zero m l1 l2 a vs f = absurd (omega arith)
alike_calls program (suc d) (suc n) zero l1 l2 a vs f = absurd (omega arith)
alike_calls program (suc d) (suc n) (suc m) l1 l2 a vs f =
    let h = alike_enter d (calls program n) (calls program m) (alike_calls program d n m (omega arith) (omega arith)) (callee program a) vs f in
    record { same = λ st lt. h.same st lt; spends = λ st. h.spends st }
