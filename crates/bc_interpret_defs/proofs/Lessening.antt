-- Each step of the machine takes a turn or decreases the weight of the remaining work.
use Rattle.std.proofs.Common.{◌≡◌, ℕ, zero, suc, ◌+◌, ◌≤◌, ◌<◌, ◌==◌, ◌||◌, List, [], ◌∷◌, ◌++◌, Bool, true, false, Option, Some, None, refl, sym, ap, subst, arith}
use Rattle.std.specs.Prelude.{nat_le}
use Rattle.bc_word.specs.declared.operator.Op.{Op}
use Rattle.bc_word.specs.declared.operator.Op.TheVariants as operators
use Rattle.bc_word.specs.Words.{value_of, holds}
use Rattle.bc_machine_defs.specs.Streams.{Content}
use Rattle.bc_core.specs.Tree.{Exp, Num, Frame, Glob, Place, Load, Neg, Not, Bin, Cond, Call, Valof, Args, no_argument, argument, count}
use Rattle.bc_core.specs.Commands.{Variable, Initial, Vector, Command, Block, block, Items, no_item, command, case, default, label, Routine, Body, Gives, Does}
use Rattle.bc_core.specs.Commands as commands
use Rattle.bc_core.specs.Layout.{frame_size}
use Rattle.bc_core.specs.Level.{argument_level, routine_level, side_level, level_in_for, level_after_parameters, cells_declared}
use Rattle.bc_core.specs.Map.{Placed}
use Rattle.bc_core.specs.Store.{Cell, Dead, Unset, Set, cell_at}
use Rattle.bc_core.specs.Outcome.{State, Outcome, Done, Ended, Going, Wild, Run, followed, then_do, choose, wild, taken, in_turn, content_of_cell, written, read, write, both, second_side, outweighed, Ending}
use Rattle.bc_core.specs.Value.{has_call, given, sense, value, truth, assign}
use Rattle.bc_core.specs.Exit.{Exit, Past, Broke, Looped, LeftCases, Returned, Resulted, Jumped}
use Rattle.bc_core.specs.Lists.{Entry, Beginning, AtCase, AtDefault, AtLabel, after_cases, has_label, meets_case, meets_default, meets_label, met}
use Rattle.bc_core.specs.Loop.{agrees, end_relation}
use Rattle.bc_core.specs.Primitive.{primitive_frame, primitive_work}
use Rattle.bc_core.specs.Meaning.{routine_value, valof_value, passed, with_arguments, Callee, OfSection, OfLibrary, callee}
use Rattle.bc_core.specs.Laws.{IsCalm}
use Rattle.bc_core.proofs.Calm.{CalmRun, calm, no_left, no_right}
use Rattle.bc_interpret_defs.specs.Machine.{Spot, cell_of, Answer, Number, Verdict, Nothing, Left, Work, Evaluate, Decide, Argue, Store, Perform, Enter, Declare, Initialise, Listing, Round, Give, Rest, At, Step, go, give, quiet, to_valof, following, spot_in, body_step, arrive, next, step}
use Rattle.bc_interpret_defs.specs.Machine as machine
use Rattle.bc_interpret_defs.specs.Weight.{weight_of, valofs_at, weight_of_block, weight_of_valof, weight_of_rest, weight_of_rests, of_exit, of_answer, weight, Lessens}
use Rattle.bc_interpret_defs.specs.Running.{Moves}
use Rattle.bc_interpret_defs.proofs.Spending.{Within, free, alike_opened}
use Rattle.bc_interpret_defs.proofs.Alike.{alike_primitive}

abbrev by_test : {A : Type 0} → Bool → A → A → A
by_test t this that = elim t [ true ↦ this | false ↦ that ]

-- the same state
less : (t w m : ℕ) → w < m → (t ≤ t) × (t ≤ t → w < m)
less t w m lt = (omega arith, λ h. lt)

abbrev Quiets : {A : Type 0} → ℕ → Outcome A → Type 0
Quiets t (Done x st) = st.turns ≡ t
Quiets t (Ended e streams) = Unit {0}
Quiets t (Going streams) = Unit {0}
Quiets t Wild = Unit {0}

-- a run that takes no turn
record Still {A : Type 0} (r : Run A) : Type 0 where
  from : (st : State) → Quiets st.turns (r st)

still_read : (a : ℕ) → Still (read a)
still_read a = record { from = λ st. of_cell st (cell_at st.cells a) } where
  of_cell : (st : State) (c : Cell) → Quiets st.turns (content_of_cell c st)
  of_cell st Dead = tt
  of_cell st Unset = tt
  of_cell st (Set w) = refl

still_write : (a w : ℕ) → Still (write a w)
still_write a w = record { from = λ st. of_cell st (cell_at st.cells a) } where
  of_cell : (st : State) (c : Cell) → Quiets st.turns (written c a w st)
  of_cell st Dead = tt
  of_cell st Unset = refl
  of_cell st (Set old) = refl

still_given : (v : Option ℕ) → Still (given v)
still_given None = record { from = λ st. tt }
still_given (Some v) = record { from = λ st. refl }

still_routine : (x : Exit) → Still (routine_value x)
still_routine Past = record { from = λ st. refl }
still_routine Returned = record { from = λ st. refl }
still_routine Broke = record { from = λ st. tt }
still_routine Looped = record { from = λ st. tt }
still_routine LeftCases = record { from = λ st. tt }
still_routine (Resulted v) = record { from = λ st. tt }
still_routine (Jumped l) = record { from = λ st. tt }

still_valof : (x : Exit) → Still (valof_value x)
still_valof Past = record { from = λ st. refl }
still_valof Returned = record { from = λ st. tt }
still_valof Broke = record { from = λ st. tt }
still_valof Looped = record { from = λ st. tt }
still_valof LeftCases = record { from = λ st. tt }
still_valof (Resulted v) = record { from = λ st. refl }
still_valof (Jumped l) = record { from = λ st. tt }

still_calm : {A : Type 0} (r : Run A) → CalmRun r → Still r
still_calm {A = A} r h = record { from = λ st. calmed st (r st) (h.from st) } where
  calmed : (st : State) (o : Outcome A) → IsCalm st o → Quiets st.turns o
  calmed st (Done x st1) c = ap (λ z. z.turns) (sym c)
  calmed st (Ended e streams) c = tt
  calmed st (Going streams) c = tt
  calmed st Wild c = tt

still_then : {A B : Type 0} (r : Run A) (f : A → Run B) → Still r → ((x : A) → Still (f x)) → Still (then_do r f)
still_then {A = A} {B = B} r f h k = record { from = λ st. joined st (r st) (h.from st) } where
  joined : (st : State) (o : Outcome A) → Quiets st.turns o → Quiets st.turns (followed o f)
  joined st (Done x st1) q = subst (λ t. Quiets t (f x st1)) q ((k x).from st1)
  joined st (Ended e streams) q = tt
  joined st (Going streams) q = tt
  joined st Wild q = tt

-- sides without call and VALOF
still_both : (first second : Run ℕ) (f : ℕ → ℕ → Run (Unit {0})) → CalmRun first → CalmRun second → ((x y : ℕ) → Still (f x y)) → Still (both false first second f)
still_both first second f h k g = record { from = λ st. joined st (first st) (h.from st) } where
  weighed : (t : ℕ) (e : Ending) (streams : Content) (o : Outcome ℕ) → Quiets {A = Unit {0}} t (outweighed e streams o)
  weighed t e streams (Done x st1) = tt
  weighed t e streams (Ended e1 streams1) = tt
  weighed t e streams (Going streams1) = tt
  weighed t e streams Wild = tt

  joined : (st : State) (o : Outcome ℕ) → IsCalm st o → Quiets st.turns (second_side false o second f st)
  joined st (Done x st1) c = subst (λ z. Quiets z.turns (followed (second st1) (f x))) (sym c) ((still_then second (f x) (still_calm second k) (g x)).from st1)
  joined st (Ended e streams) c = weighed st.turns e streams (second st)
  joined st (Going streams) c = tt
  joined st Wild c = tt

-- what follows such a run
after_still : {A : Type 0} (r : Run A) (f : A → Step) (m : ℕ) (st : State) → Still r → ((x : A) (st1 : State) → Lessens st1.turns m (f x st1)) → Lessens st.turns m (then_do r f st)
after_still {A = A} r f m st h k = joined (r st) (h.from st) where
  joined : (o : Outcome A) → Quiets st.turns o → Lessens st.turns m (followed o f)
  joined (Done x st1) q = subst (λ t. Lessens t m (f x st1)) q (k x st1)
  joined (Ended e streams) q = tt
  joined (Going streams) q = tt
  joined Wild q = tt

less_choose : (t : Bool) (this that : Step) (n m : ℕ) (st : State) → Lessens n m (this st) → Lessens n m (that st) → Lessens n m (choose t this that st)
less_choose true this that n m st h k = h
less_choose false this that n m st h k = k

-- a turn
abbrev Keeps : ℕ → Outcome At → Type 0
Keeps t (Done at st) = st.turns ≤ t
Keeps t (Ended e streams) = Unit {0}
Keeps t (Going streams) = Unit {0}
Keeps t Wild = Unit {0}

less_turn : (r : Step) (m : ℕ) (st : State) → ((st1 : State) → Keeps st1.turns (r st1)) → Lessens st.turns m (in_turn r st)
less_turn r m st h = counted st.turns where
  spent : (n : ℕ) (o : Outcome At) → Keeps n o → Lessens (suc n) m o
  spent n (Done at st1) k = (omega arith, λ le. absurd (omega arith))
  spent n (Ended e streams) k = tt
  spent n (Going streams) k = tt
  spent n Wild k = tt

  counted : (n : ℕ) → Lessens n m (taken n r st)
  counted zero = tt
  counted (suc n) = spent n (r (record st { turns = n })) (h (record st { turns = n }))

to_valof_less : (address : ℕ → ℕ) (p first : ℕ) (vs : List commands.Valof) (n s : ℕ) (rs : List Rest) (st : State) → Lessens st.turns (weight_of_valof first vs n + weight_of_rests rs + 0) (to_valof address p first vs n s rs st)
to_valof_less address p first [] n s rs st = tt
to_valof_less address p first (v ∷ vs) n s rs st = found (n == first) (to_valof_less address p (first + 1) vs n s rs st) where
  found : (t : Bool) → Lessens st.turns (weight_of_valof (first + 1) vs n + weight_of_rests rs + 0) (to_valof address p (first + 1) vs n s rs st) → Lessens st.turns (by_test t (weight_of_block (weight_of_valof (first + 1) vs) v.body + 2) (weight_of_valof (first + 1) vs n) + weight_of_rests rs + 0) (by_test t (go (Enter (record { address = address; first = first + 1; valofs = vs; frame = p }) v.body s) (machine.Results n ∷ rs)) (to_valof address p (first + 1) vs n s rs) st)
  found true h = (omega arith, λ le. omega arith)
  found false h = h

-- the same with a larger bound
less_more : (t m n : ℕ) (o : Outcome At) → m ≤ n → Lessens t m o → Lessens t n o
less_more t m n (Done at st) l h = let k = h.1 in (h.0, λ le. let j = k le in omega arith)
less_more t m n (Ended e streams) l h = tt
less_more t m n (Going streams) l h = tt
less_more t m n Wild l h = tt

-- what is evaluated within one step
valued_less : (E : Spot) (e : Exp) (s m : ℕ) (f : ℕ → Step) (st : State) → has_call e ≡ false → ((v : ℕ) (st1 : State) → Lessens st1.turns m (f v st1)) → Lessens st.turns m (then_do (value (quiet E) e E.frame s) f st)
valued_less E e s m f st h k = after_still (value (quiet E) e E.frame s) f m st (still_calm (value (quiet E) e E.frame s) (calm (quiet E) e h E.frame s).0) k

judged_less : (E : Spot) (e : Exp) (s m : ℕ) (f : Bool → Step) (st : State) → has_call e ≡ false → ((v : Bool) (st1 : State) → Lessens st1.turns m (f v st1)) → Lessens st.turns m (then_do (truth (quiet E) e E.frame s) f st)
judged_less E e s m f st h k = after_still (truth (quiet E) e E.frame s) f m st (still_calm (truth (quiet E) e E.frame s) (calm (quiet E) e h E.frame s).1) k

abbrev Less : List Placed → Work → List Rest → State → Type 0
Less program w rs st = Lessens st.turns (weight w rs) (step program w rs st)

last_less : (E : Spot) (vs : List ℕ) (level : ℕ) (f : Exp) (n s : ℕ) (rs : List Rest) (st : State) (t : Bool) → has_call f ≡ t → Lessens st.turns (weight (Argue E vs no_argument level f n s) rs) (by_test t (go (Evaluate E f (routine_level s n)) (machine.Calls vs (E.frame + s) ∷ rs)) (then_do (value (quiet E) f E.frame (routine_level s n)) (λ v. give (Number v) (machine.Calls vs (E.frame + s) ∷ rs))) st)
last_less E vs level f n s rs st true h = (omega arith, λ le. omega arith)
last_less E vs level f n s rs st false h = valued_less E f (routine_level s n) _ (λ v. give (Number v) (machine.Calls vs (E.frame + s) ∷ rs)) st h (λ v st1. (omega arith, λ le. omega arith))

argued_less : (E : Spot) (vs : List ℕ) (e : Exp) (es : Args) (level : ℕ) (f : Exp) (n s : ℕ) (rs : List Rest) (st : State) (t : Bool) → has_call e ≡ t
    → ((v : ℕ) (st1 : State) → Lessens st1.turns (weight (Argue E (vs ++ (v ∷ [])) es (level + 1) f n s) rs) (machine.argue E (vs ++ (v ∷ [])) es (level + 1) f n s rs st1))
    → Lessens st.turns (weight (Argue E vs (argument e es) level f n s) rs) (by_test t (go (Evaluate E e level) (machine.Argues E vs es level f n s ∷ rs)) (then_do (value (quiet E) e E.frame level) (λ v. machine.argue E (vs ++ (v ∷ [])) es (level + 1) f n s rs)) st)
argued_less E vs e es level f n s rs st true h k = (omega arith, λ le. omega arith)
argued_less E vs e es level f n s rs st false h k =
    valued_less E e level (weight (Argue E vs (argument e es) level f n s) rs) (λ v. machine.argue E (vs ++ (v ∷ [])) es (level + 1) f n s rs) st h
    (λ v st1. less_more st1.turns (weight (Argue E (vs ++ (v ∷ [])) es (level + 1) f n s) rs) (weight (Argue E vs (argument e es) level f n s) rs) (machine.argue E (vs ++ (v ∷ [])) es (level + 1) f n s rs st1) (omega arith) (k v st1))

argue_less : (program : List Placed) (E : Spot) (vs : List ℕ) (es : Args) (level : ℕ) (f : Exp) (n s : ℕ) (rs : List Rest) (st : State) → Less program (Argue E vs es level f n s) rs st
argue_less program E vs no_argument level f n s rs st = last_less E vs level f n s rs st (has_call f) refl
argue_less program E vs (argument e es) level f n s rs st =
    argued_less E vs e es level f n s rs st (has_call e) refl (λ v st1. argue_less program E (vs ++ (v ∷ [])) es (level + 1) f n s rs st1)

cond_less : (E : Spot) (c x y : Exp) (s : ℕ) (rs : List Rest) (st : State) (t : Bool) → has_call c ≡ t → Lessens st.turns (weight (Evaluate E (Cond c x y) s) rs) (by_test t (go (Decide E c s) (machine.Selects E x y s ∷ rs)) (then_do (truth (quiet E) c E.frame s) (λ t1. choose t1 (go (Evaluate E x s) rs) (go (Evaluate E y s) rs))) st)
cond_less E c x y s rs st true h = (omega arith, λ le. omega arith)
cond_less E c x y s rs st false h =
    judged_less E c s _ (λ t1. choose t1 (go (Evaluate E x s) rs) (go (Evaluate E y s) rs)) st h
    (λ t1 st1. less_choose t1 (go (Evaluate E x s) rs) (go (Evaluate E y s) rs) st1.turns _ st1 (omega arith, λ le. omega arith) (omega arith, λ le. omega arith))

parts_less : (program : List Placed) (E : Spot) (e : Exp) (s : ℕ) (rs : List Rest) (st : State) → Lessens st.turns (weight (Evaluate E e s) rs) (machine.evaluate_parts E e s rs st)
parts_less program E (Num n) s rs st = tt
parts_less program E (Frame k) s rs st = tt
parts_less program E (Glob n) s rs st = tt
parts_less program E (Place m) s rs st = tt
parts_less program E (Load e) s rs st = (omega arith, λ le. omega arith)
parts_less program E (Neg e) s rs st = (omega arith, λ le. omega arith)
parts_less program E (Not e) s rs st = (omega arith, λ le. omega arith)
parts_less program E (Bin op a b) s rs st = (omega arith, λ le. omega arith)
parts_less program E (Cond c x y) s rs st = cond_less E c x y s rs st (has_call c) refl
parts_less program E (Call es f) s rs st =
    less_more st.turns (weight (Argue E [] es (argument_level s) f (count es) s) rs) (weight (Evaluate E (Call es f) s) rs) (machine.argue E [] es (argument_level s) f (count es) s rs st) (omega arith)
    (argue_less program E [] es (argument_level s) f (count es) s rs st)
parts_less program E (Valof n) s rs st = to_valof_less E.address E.frame E.first E.valofs n s rs st

-- each form weighs something
weighs : (V : ℕ → ℕ) (e : Exp) → has_call e ≡ false → 0 < weight_of V e
weighs V (Num n) h = omega arith
weighs V (Frame k) h = omega arith
weighs V (Glob n) h = omega arith
weighs V (Place m) h = omega arith
weighs V (Load e) h = omega arith
weighs V (Neg e) h = omega arith
weighs V (Not e) h = omega arith
weighs V (Bin op a b) h = omega arith
weighs V (Cond c x y) h = omega arith
weighs V (Call es f) h = cc
weighs V (Valof n) h = cc

evaluate_by : (program : List Placed) (E : Spot) (e : Exp) (s : ℕ) (rs : List Rest) (st : State) (t : Bool) → has_call e ≡ t → Lessens st.turns (weight (Evaluate E e s) rs) (by_test t (machine.evaluate_parts E e s rs) (then_do (value (quiet E) e E.frame s) (λ v. give (Number v) rs)) st)
evaluate_by program E e s rs st true h = parts_less program E e s rs st
evaluate_by program E e s rs st false h =
    let w = weighs (valofs_at E) e h in
    valued_less E e s (weight (Evaluate E e s) rs) (λ v. give (Number v) rs) st h (λ v st1. (omega arith, λ le. omega arith))

evaluate_less : (program : List Placed) (E : Spot) (e : Exp) (s : ℕ) (rs : List Rest) (st : State) → Less program (Evaluate E e s) rs st
evaluate_less program E e s rs st = evaluate_by program E e s rs st (has_call e) refl

decide_operator_less : (E : Spot) (op : Op) (a b : Exp) (s : ℕ) (rs : List Rest) (st : State) → Lessens st.turns (weight (Decide E (Bin op a b) s) rs) (machine.decide_operator E op a b s rs st)
decide_operator_less E operators.And a b s rs st = (omega arith, λ le. omega arith)
decide_operator_less E operators.Or a b s rs st = (omega arith, λ le. omega arith)
decide_operator_less E op a b s rs st = (omega arith, λ le. omega arith)

decide_parts_less : (E : Spot) (e : Exp) (s : ℕ) (rs : List Rest) (st : State) → Lessens st.turns (weight (Decide E e s) rs) (machine.decide_parts E e s rs st)
decide_parts_less E (Not e) s rs st = (omega arith, λ le. omega arith)
decide_parts_less E (Bin op a b) s rs st = decide_operator_less E op a b s rs st
decide_parts_less E e s rs st = (omega arith, λ le. omega arith)

decide_by : (E : Spot) (e : Exp) (s : ℕ) (rs : List Rest) (st : State) (t : Bool) → has_call e ≡ t → Lessens st.turns (weight (Decide E e s) rs) (by_test t (machine.decide_parts E e s rs) (then_do (truth (quiet E) e E.frame s) (λ t1. give (Verdict t1) rs)) st)
decide_by E e s rs st true h = decide_parts_less E e s rs st
decide_by E e s rs st false h = judged_less E e s (weight (Decide E e s) rs) (λ t1. give (Verdict t1) rs) st h (λ t1 st1. (omega arith, λ le. omega arith))

decide_less : (program : List Placed) (E : Spot) (e : Exp) (s : ℕ) (rs : List Rest) (st : State) → Less program (Decide E e s) rs st
decide_less program E e s rs st = decide_by E e s rs st (has_call e) refl

still_assign : (E : Spot) (v a : Exp) (s : ℕ) → (has_call v || has_call a) ≡ false → Still (assign (quiet E) v a E.frame s)
still_assign E v a s h =
    let C = quiet E in
    let first = value C v E.frame (side_level a s) in
    let second = value C a E.frame (side_level a s) in
    subst (λ z. Still (both z first second (λ w address. write address w))) (sym h)
    (still_both first second (λ w address. write address w) (calm C v (no_left _ _ h) E.frame (side_level a s)).0 (calm C a (no_right _ _ h) E.frame (side_level a s)).0 (λ w address. still_write address w))

store_by : (E : Spot) (v a : Exp) (s : ℕ) (rs : List Rest) (st : State) (t : Bool) → (has_call v || has_call a) ≡ t → Lessens st.turns (weight (Store E v a s) rs) (by_test t (go (Evaluate E v (side_level a s)) (machine.Stores E a s ∷ rs)) (then_do (assign (quiet E) v a E.frame s) (λ u. give Nothing rs)) st)
store_by E v a s rs st true h = (omega arith, λ le. omega arith)
store_by E v a s rs st false h =
    after_still (assign (quiet E) v a E.frame s) (λ u. give Nothing rs) (weight (Store E v a s) rs) st (still_assign E v a s h) (λ u st1. (omega arith, λ le. omega arith))

store_less : (program : List Placed) (E : Spot) (v a : Exp) (s : ℕ) (rs : List Rest) (st : State) → Less program (Store E v a s) rs st
store_less program E v a s rs st = store_by E v a s rs st (has_call v || has_call a) refl

-- the items after an assignment
on_less : (E : Spot) (v a : Exp) (is : Items) (s : ℕ) (rs : List Rest) (st : State) → Lessens st.turns (weight (Listing E (command (commands.Assign v a) is) s Beginning) rs) (machine.go_on E is s rs st)
on_less E v a no_item s rs st = (omega arith, λ le. omega arith)
on_less E v a (command c is) s rs st = (omega arith, λ le. omega arith)
on_less E v a (case k is) s rs st = (omega arith, λ le. omega arith)
on_less E v a (default is) s rs st = (omega arith, λ le. omega arith)
on_less E v a (label l is) s rs st = (omega arith, λ le. omega arith)

-- the first command of a list, and then the remaining items
first_less_by : (E : Spot) (v a : Exp) (is : Items) (s : ℕ) (rs : List Rest) (st : State) (t : Bool) → (has_call v || has_call a) ≡ t
    → Lessens st.turns (weight (Listing E (command (commands.Assign v a) is) s Beginning) rs) (by_test t (go (Perform E (commands.Assign v a) s) (machine.Follows E is s ∷ rs)) (then_do (assign (quiet E) v a E.frame s) (λ u. machine.go_on E is s rs)) st)
first_less_by E v a is s rs st true h = (omega arith, λ le. omega arith)
first_less_by E v a is s rs st false h =
    after_still (assign (quiet E) v a E.frame s) (λ u. machine.go_on E is s rs) (weight (Listing E (command (commands.Assign v a) is) s Beginning) rs) st (still_assign E v a s h)
    (λ u st1. on_less E v a is s rs st1)

first_less : (E : Spot) (c : Command) (is : Items) (s : ℕ) (rs : List Rest) (st : State)
    → Lessens st.turns (weight (Listing E (command c is) s Beginning) rs) (machine.first_command E c is s rs st)
first_less E (commands.Assign v a) is s rs st = first_less_by E v a is s rs st (has_call v || has_call a) refl
first_less E c is s rs st = (omega arith, λ le. omega arith)

listing_less : (program : List Placed) (E : Spot) (is : Items) (s : ℕ) (at : Entry) (rs : List Rest) (st : State) → Less program (Listing E is s at) rs st
listing_less program E no_item s at rs st = (omega arith, λ le. omega arith)
listing_less program E (command c is) s Beginning rs st = first_less E c is s rs st
listing_less program E (command c is) s (AtCase v) rs st =
    less_more st.turns (weight (Listing E is s (AtCase v)) rs) (weight (Listing E (command c is) s (AtCase v)) rs) (machine.list_step E is s (AtCase v) rs st) (omega arith) (listing_less program E is s (AtCase v) rs st)
listing_less program E (command c is) s AtDefault rs st =
    less_more st.turns (weight (Listing E is s AtDefault) rs) (weight (Listing E (command c is) s AtDefault) rs) (machine.list_step E is s AtDefault rs st) (omega arith) (listing_less program E is s AtDefault rs st)
listing_less program E (command c is) s (AtLabel l) rs st =
    less_more st.turns (weight (Listing E is s (AtLabel l)) rs) (weight (Listing E (command c is) s (AtLabel l)) rs) (machine.list_step E is s (AtLabel l) rs st) (omega arith) (listing_less program E is s (AtLabel l) rs st)
listing_less program E (case k is) s at rs st =
    less_more st.turns (weight (Listing E is s at) rs) (weight (Listing E (case k is) s at) rs) (machine.list_step E is s (met (meets_case k at) at) rs st) (omega arith) (listing_less program E is s (met (meets_case k at) at) rs st)
listing_less program E (default is) s at rs st =
    less_more st.turns (weight (Listing E is s at) rs) (weight (Listing E (default is) s at) rs) (machine.list_step E is s (met (meets_default at) at) rs st) (omega arith) (listing_less program E is s (met (meets_default at) at) rs st)
listing_less program E (label l is) s at rs st =
    less_more st.turns (weight (Listing E is s at) rs) (weight (Listing E (label l is) s at) rs) (machine.list_step E is s (met (meets_label l at) at) rs st) (omega arith) (listing_less program E is s (met (meets_label l at) at) rs st)

declare_less : (program : List Placed) (E : Spot) (ds : List (List Variable)) (is : Items) (s level : ℕ) (rs : List Rest) (st : State) → Less program (Declare E ds is s level) rs st
declare_less program E [] is s level rs st = (omega arith, λ le. omega arith)
declare_less program E (vs ∷ ds) is s level rs st = (omega arith, λ le. omega arith)

enter_less : (program : List Placed) (E : Spot) (b : Block) (s : ℕ) (rs : List Rest) (st : State) → Less program (Enter E b s) rs st
enter_less program E (block ds is) s rs st =
    less_more st.turns (weight (Declare E ds is s (s + cells_declared ds)) rs) (weight (Enter E (block ds is) s) rs) (machine.declare_step E ds is s (s + cells_declared ds) rs st) (omega arith)
    (declare_less program E ds is s (s + cells_declared ds) rs st)

-- the same for a smaller weight
entered_less : (program : List Placed) (E : Spot) (b : Block) (s m : ℕ) (rs : List Rest) (st : State) → weight (Enter E b s) rs ≤ m → Lessens st.turns m (machine.enter E b s rs st)
entered_less program E b s m rs st l = less_more st.turns (weight (Enter E b s) rs) m (machine.enter E b s rs st) l (enter_less program E b s rs st)

evaluated_less : (program : List Placed) (E : Spot) (e : Exp) (s m : ℕ) (rs : List Rest) (st : State) → weight (Evaluate E e s) rs ≤ m → Lessens st.turns m (machine.evaluate E e s rs st)
evaluated_less program E e s m rs st l = less_more st.turns (weight (Evaluate E e s) rs) m (machine.evaluate E e s rs st) l (evaluate_less program E e s rs st)

-- after a test
tested_less : (E : Spot) (e : Exp) (s m : ℕ) (f : Bool → Step) (r : Rest) (rs : List Rest) (st : State) (t : Bool) → has_call e ≡ t → Lessens st.turns m (go (Decide E e s) (r ∷ rs) st) → ((v : Bool) (st1 : State) → Lessens st1.turns m (f v st1)) → Lessens st.turns m (by_test t (go (Decide E e s) (r ∷ rs)) (then_do (truth (quiet E) e E.frame s) f) st)
tested_less E e s m f r rs st true h l k = l
tested_less E e s m f r rs st false h l k = judged_less E e s m f st h k

perform_less : (program : List Placed) (E : Spot) (c : Command) (s : ℕ) (rs : List Rest) (st : State) → Less program (Perform E c s) rs st
perform_less program E (commands.Call e) s rs st = evaluated_less program E e s _ (machine.Drops ∷ rs) st (omega arith)
perform_less program E (commands.Assign v a) s rs st = (omega arith, λ le. omega arith)
perform_less program E (commands.If sense e b) s rs st =
    let m = weight (Perform E (commands.If sense e b) s) rs in
    tested_less E e s m (λ v. choose (agrees sense v) (machine.enter E b s rs) (give (Left Past) rs)) (machine.Ifs E sense b s) rs st (has_call e) refl (omega arith, λ le. omega arith)
    (λ v st1. less_choose (agrees sense v) (machine.enter E b s rs) (give (Left Past) rs) st1.turns m st1 (entered_less program E b s m rs st1 (omega arith)) (omega arith, λ le. omega arith))
perform_less program E (commands.Test e b c) s rs st =
    let within = machine.Chooses E b c s ∷ rs in
    less_more st.turns (weight (Decide E e s) within) (weight (Perform E (commands.Test e b c) s) rs) (machine.decide E e s within st) (omega arith) (decide_less program E e s within st)
perform_less program E (commands.While sense e b) s rs st =
    let m = weight (Perform E (commands.While sense e b) s) rs in
    let within = machine.WhileBody E sense e b s ∷ rs in
    tested_less E e s m (λ v. choose (agrees sense v) (machine.enter E b s within) (give (Left Past) rs)) (machine.Whiles E sense e b s) rs st (has_call e) refl (omega arith, λ le. omega arith)
    (λ v st1. less_choose (agrees sense v) (machine.enter E b s within) (give (Left Past) rs) st1.turns m st1 (entered_less program E b s m within st1 (omega arith)) (omega arith, λ le. omega arith))
perform_less program E (commands.Repeat b) s rs st = (omega arith, λ le. omega arith)
perform_less program E (commands.RepeatWhile b sense e) s rs st = (omega arith, λ le. omega arith)
perform_less program E (commands.For start limit by b) s rs st = (omega arith, λ le. omega arith)
perform_less program E (commands.SwitchOn e is) s rs st = evaluated_less program E e s _ (machine.Switches E is s ∷ rs) st (omega arith)
perform_less program E commands.Break s rs st = (omega arith, λ le. omega arith)
perform_less program E commands.Loop s rs st = (omega arith, λ le. omega arith)
perform_less program E commands.EndCase s rs st = (omega arith, λ le. omega arith)
perform_less program E commands.Return s rs st = (omega arith, λ le. omega arith)
perform_less program E (commands.ResultIs e) s rs st = evaluated_less program E e s _ (machine.Leaves ∷ rs) st (omega arith)
perform_less program E commands.Finish s rs st = tt
perform_less program E (commands.Goto l) s rs st = less_turn (give (Left (Jumped l)) rs) (weight (Perform E (commands.Goto l) s) rs) st (λ st1. omega arith)
perform_less program E (commands.Nested b) s rs st = entered_less program E b s _ rs st (omega arith)

initialise_less : (program : List Placed) (E : Spot) (vs : List Variable) (k s : ℕ) (rs : List Rest) (st : State) → Less program (Initialise E vs k s) rs st
initialise_less program E [] k s rs st = (omega arith, λ le. omega arith)
initialise_less program E (Initial e ∷ vs) k s rs st = (omega arith, λ le. omega arith)
initialise_less program E (Vector n ∷ vs) k s rs st =
    after_still (write (cell_of E k) (cell_of E (k + 1))) (λ u. go (Initialise E vs (k + (n + 2)) s) rs) (weight (Initialise E (Vector n ∷ vs) k s) rs) st
    (still_write (cell_of E k) (cell_of E (k + 1))) (λ u st1. (omega arith, λ le. omega arith))

round_less : (program : List Placed) (E : Spot) (limit by : ℕ) (b : Block) (s : ℕ) (rs : List Rest) (st : State) → Less program (Round E limit by b s) rs st
round_less program E limit by b s rs st =
    let m = weight (Round E limit by b s) rs in
    let within = machine.ForBody E limit by b s ∷ rs in
    after_still (read (cell_of E s)) (λ i. choose (holds (end_relation by) i limit) (give (Left Past) rs) (machine.enter E b (level_in_for s) within)) m st (still_read (cell_of E s))
    (λ i st1. less_choose (holds (end_relation by) i limit) (give (Left Past) rs) (machine.enter E b (level_in_for s) within) st1.turns m st1
    (omega arith, λ le. omega arith) (entered_less program E b (level_in_for s) m within st1 (omega arith)))

-- what an exit may still enter
exit_shrinks : (x : Exit) (r : Rest) (rs : List Rest) → of_exit x rs ≤ of_exit x (r ∷ rs)
exit_shrinks (Jumped l) r rs = omega arith
exit_shrinks Past r rs = omega arith
exit_shrinks Broke r rs = omega arith
exit_shrinks Looped r rs = omega arith
exit_shrinks LeftCases r rs = omega arith
exit_shrinks Returned r rs = omega arith
exit_shrinks (Resulted v) r rs = omega arith

answer_shrinks : (a : Answer) (r : Rest) (rs : List Rest) → of_answer a rs ≤ of_answer a (r ∷ rs)
answer_shrinks (Left x) r rs = exit_shrinks x r rs
answer_shrinks (Number v) r rs = omega arith
answer_shrinks (Verdict t) r rs = omega arith
answer_shrinks Nothing r rs = omega arith

after_less : (again : Step) (r : Rest) (rs : List Rest) (st : State) → 1 ≤ weight_of_rest r → Lessens st.turns (0 + (weight_of_rest r + weight_of_rests rs) + 0) (again st) → (x : Exit) → Lessens st.turns (weight (Give (Left x)) (r ∷ rs)) (following again x rs st)
after_less again r rs st l h Past = h
after_less again r rs st l h Looped = h
after_less again r rs st l h Broke = (omega arith, λ le. omega arith)
after_less again r rs st l h LeftCases = (omega arith, λ le. omega arith)
after_less again r rs st l h Returned = (omega arith, λ le. omega arith)
after_less again r rs st l h (Resulted v) = (omega arith, λ le. omega arith)
after_less again r rs st l h (Jumped k) = (omega arith, λ le. omega arith)

cases_less : (x : Exit) (rs : List Rest) (st : State) → Lessens st.turns (weight (Give (Left x)) (machine.Cases ∷ rs)) (then_do (after_cases x) (λ y. give (Left y) rs) st)
cases_less Past rs st = (omega arith, λ le. omega arith)
cases_less Looped rs st = (omega arith, λ le. omega arith)
cases_less Broke rs st = (omega arith, λ le. omega arith)
cases_less LeftCases rs st = (omega arith, λ le. omega arith)
cases_less Returned rs st = (omega arith, λ le. omega arith)
cases_less (Resulted v) rs st = (omega arith, λ le. omega arith)
cases_less (Jumped k) rs st = (omega arith, λ le. omega arith)

follow_less : (E : Spot) (is : Items) (s : ℕ) (x : Exit) (rs : List Rest) (st : State) → Lessens st.turns (weight (Give (Left x)) (machine.Follows E is s ∷ rs)) (machine.follow E is s x rs st)
follow_less E is s Past rs st = (omega arith, λ le. omega arith)
follow_less E is s Looped rs st = (omega arith, λ le. omega arith)
follow_less E is s Broke rs st = (omega arith, λ le. omega arith)
follow_less E is s LeftCases rs st = (omega arith, λ le. omega arith)
follow_less E is s Returned rs st = (omega arith, λ le. omega arith)
follow_less E is s (Resulted v) rs st = (omega arith, λ le. omega arith)
follow_less E is s (Jumped k) rs st = (omega arith, λ le. omega arith)

jump_less : (program : List Placed) (E : Spot) (is : Items) (s l : ℕ) (t : Bool) (rs : List Rest) (st : State) → Lessens st.turns (weight (Give (Left (Jumped l))) (machine.Listed E is s ∷ rs)) (machine.jump E is s l t rs st)
jump_less program E is s l true rs st = (omega arith, λ le. omega arith)
jump_less program E is s l false rs st = (omega arith, λ le. omega arith)

listed_less : (program : List Placed) (E : Spot) (is : Items) (s : ℕ) (x : Exit) (rs : List Rest) (st : State) → Lessens st.turns (weight (Give (Left x)) (machine.Listed E is s ∷ rs)) (machine.after_listing E is s x rs st)
listed_less program E is s (Jumped l) rs st = jump_less program E is s l (has_label is l) rs st
listed_less program E is s Past rs st = (omega arith, λ le. omega arith)
listed_less program E is s Looped rs st = (omega arith, λ le. omega arith)
listed_less program E is s Broke rs st = (omega arith, λ le. omega arith)
listed_less program E is s LeftCases rs st = (omega arith, λ le. omega arith)
listed_less program E is s Returned rs st = (omega arith, λ le. omega arith)
listed_less program E is s (Resulted v) rs st = (omega arith, λ le. omega arith)

-- into a routine or a primitive
body_keeps : (E : Spot) (b : Body) (s : ℕ) (rs : List Rest) (st : State) → Keeps st.turns (body_step E b s rs st)
body_keeps E (Gives e) s rs st = omega arith
body_keeps E (Does b) s rs st = omega arith

given_keeps : (t : ℕ) (o : Outcome ℕ) (rs : List Rest) → Within free (t + 0) o → Keeps t (followed o (λ v. give (Number v) rs))
given_keeps t (Done v st) rs w = omega arith
given_keeps t (Ended e streams) rs w = tt
given_keeps t (Going streams) rs w = tt
given_keeps t Wild rs w = tt

arrive_less : (c : Option Callee) (v : ℕ) (vs : List ℕ) (f m : ℕ) (rs : List Rest) (st : State) → Lessens st.turns m (arrive c v vs f rs st)
arrive_less None v vs f m rs st = tt
arrive_less (Some (OfSection section r)) v vs f m rs st =
    let work : Step = machine.with_passed r.parameters (f + 2) vs (body_step (spot_in section f) r.body (level_after_parameters r.parameters) (machine.Closes (Some (record { routine = v; frame = f })) r.parameters (f + 2) ∷ rs)) in
    less_choose (nat_le (f + frame_size section.core.valofs r) 65536) (in_turn work) wild st.turns m st
    (less_turn work m st (λ st1. body_keeps (spot_in section f) r.body (level_after_parameters r.parameters) (machine.Closes (Some (record { routine = v; frame = f })) r.parameters (f + 2) ∷ rs) (record st1 { cells = passed r.parameters (f + 2) vs st1.cells }))) tt
arrive_less (Some (OfLibrary q)) v vs f m rs st =
    let body = with_arguments 1 (f + 2) vs (primitive_work q f) in
    let work : Step = then_do body (λ v. give (Number v) rs) in
    let h = alike_opened free 0 0 1 (f + 2) (passed 1 (f + 2) vs) (primitive_work q f) (primitive_work q f) (alike_primitive 0 q f) in
    less_choose (nat_le (f + primitive_frame) 65536) (in_turn work) wild st.turns m st
    (less_turn work m st (λ st1. given_keeps st1.turns (body st1) rs (h.spends st1))) tt

-- a loop's turn
turn_less : (w : Work) (m : ℕ) (rs : List Rest) (st : State) → Lessens st.turns m (in_turn (go w rs) st)
turn_less w m rs st = less_turn (go w rs) m st (λ st1. omega arith)

for_less : (E : Spot) (limit by : ℕ) (b : Block) (s m : ℕ) (rs : List Rest) (st : State) → Lessens st.turns m (then_do (read (cell_of E s)) (λ i. then_do (given (value_of operators.Add i by)) (λ w. then_do (write (cell_of E s) w) (λ u. in_turn (go (Round E limit by b s) rs)))) st)
for_less E limit by b s m rs st =
    let a = cell_of E s in
    let last : Step = in_turn (go (Round E limit by b s) rs) in
    after_still (read a) (λ i. then_do (given (value_of operators.Add i by)) (λ w. then_do (write a w) (λ u. last))) m st (still_read a)
    (λ i st1. after_still (given (value_of operators.Add i by)) (λ w. then_do (write a w) (λ u. last)) m st1 (still_given (value_of operators.Add i by))
    (λ w st2. after_still (write a w) (λ u. last) m st2 (still_write a w) (λ u st3. turn_less (Round E limit by b s) m rs st3)))

next_less : (program : List Placed) (r : Rest) (a : Answer) (rs : List Rest) (st : State) → Lessens st.turns (weight (Give a) (r ∷ rs)) (next program r a rs st)
next_less program machine.Loads (Number v) rs st = after_still (read v) (λ w. give (Number w) rs) _ st (still_read v) (λ w st1. (omega arith, λ le. omega arith))
next_less program machine.Loads a rs st = tt
next_less program machine.Negates (Number v) rs st = (omega arith, λ le. omega arith)
next_less program machine.Negates a rs st = tt
next_less program machine.Complements (Number v) rs st = (omega arith, λ le. omega arith)
next_less program machine.Complements a rs st = tt
next_less program machine.Opposes (Verdict t) rs st = (omega arith, λ le. omega arith)
next_less program machine.Opposes a rs st = tt
next_less program machine.Tests (Number v) rs st = (omega arith, λ le. omega arith)
next_less program machine.Tests a rs st = tt
next_less program (machine.Operates E op b s) (Number x) rs st = (omega arith, λ le. omega arith)
next_less program (machine.Operates E op b s) a rs st = tt
next_less program (machine.Operated op x) (Number y) rs st = after_still (given (value_of op x y)) (λ w. give (Number w) rs) _ st (still_given (value_of op x y)) (λ w st1. (omega arith, λ le. omega arith))
next_less program (machine.Operated op x) a rs st = tt
next_less program (machine.Conjoins E b s) (Verdict true) rs st = (omega arith, λ le. omega arith)
next_less program (machine.Conjoins E b s) (Verdict false) rs st = (omega arith, λ le. omega arith)
next_less program (machine.Conjoins E b s) a rs st = tt
next_less program (machine.Disjoins E b s) (Verdict true) rs st = (omega arith, λ le. omega arith)
next_less program (machine.Disjoins E b s) (Verdict false) rs st = (omega arith, λ le. omega arith)
next_less program (machine.Disjoins E b s) a rs st = tt
next_less program (machine.Selects E x y s) (Verdict true) rs st = (omega arith, λ le. omega arith)
next_less program (machine.Selects E x y s) (Verdict false) rs st = (omega arith, λ le. omega arith)
next_less program (machine.Selects E x y s) a rs st = tt
next_less program (machine.Argues E vs es level f m s) (Number v) rs st = (omega arith, λ le. omega arith)
next_less program (machine.Argues E vs es level f m s) a rs st = tt
next_less program (machine.Calls vs f) (Number r) rs st = arrive_less (callee program r) r vs f _ rs st
next_less program (machine.Calls vs f) a rs st = tt
next_less program (machine.Stores E address s) (Number w) rs st = (omega arith, λ le. omega arith)
next_less program (machine.Stores E address s) a rs st = tt
next_less program (machine.Stored w) (Number v) rs st = after_still (write v w) (λ u. give Nothing rs) _ st (still_write v w) (λ u st1. (omega arith, λ le. omega arith))
next_less program (machine.Stored w) a rs st = tt
next_less program (machine.StoresAt v) (Number w) rs st = after_still (write v w) (λ u. give Nothing rs) _ st (still_write v w) (λ u st1. (omega arith, λ le. omega arith))
next_less program (machine.StoresAt v) a rs st = tt
next_less program (machine.Closes o m b) a rs st = let h = answer_shrinks a (machine.Closes o m b) rs in (omega arith, λ le. omega arith)
next_less program machine.Returns (Left x) rs st =
    let h = exit_shrinks x machine.Returns rs in
    after_still (routine_value x) (λ w. give (Number w) rs) _ st (still_routine x) (λ w st1. (omega arith, λ le. omega arith))
next_less program machine.Returns a rs st = tt
next_less program (machine.Results k) (Left x) rs st =
    let h = exit_shrinks x (machine.Results k) rs in
    after_still (valof_value x) (λ w. give (Number w) rs) _ st (still_valof x) (λ w st1. (omega arith, λ le. omega arith))
next_less program (machine.Results k) a rs st = tt
next_less program machine.Drops (Number v) rs st = (omega arith, λ le. omega arith)
next_less program machine.Drops a rs st = tt
next_less program machine.Passes Nothing rs st = (omega arith, λ le. omega arith)
next_less program machine.Passes a rs st = tt
next_less program (machine.Ifs E sense b s) (Verdict t) rs st =
    let m = weight (Give (Verdict t)) (machine.Ifs E sense b s ∷ rs) in
    less_choose (agrees sense t) (machine.enter E b s rs) (give (Left Past) rs) st.turns m st (entered_less program E b s m rs st (omega arith)) (omega arith, λ le. omega arith)
next_less program (machine.Ifs E sense b s) a rs st = tt
next_less program (machine.Chooses E b c s) (Verdict true) rs st = entered_less program E b s _ (machine.Skips c ∷ rs) st (omega arith)
next_less program (machine.Chooses E b c s) (Verdict false) rs st = entered_less program E c s _ rs st (omega arith)
next_less program (machine.Chooses E b c s) a rs st = tt
next_less program (machine.Skips c) (Left x) rs st = let h = exit_shrinks x (machine.Skips c) rs in (omega arith, λ le. omega arith)
next_less program (machine.Skips c) a rs st = tt
next_less program (machine.Whiles E sense e b s) (Verdict t) rs st =
    let m = weight (Give (Verdict t)) (machine.Whiles E sense e b s ∷ rs) in
    let within = machine.WhileBody E sense e b s ∷ rs in
    less_choose (agrees sense t) (machine.enter E b s within) (give (Left Past) rs) st.turns m st (entered_less program E b s m within st (omega arith)) (omega arith, λ le. omega arith)
next_less program (machine.Whiles E sense e b s) a rs st = tt
next_less program (machine.WhileBody E sense e b s) (Left x) rs st =
    after_less (in_turn (go (Perform E (commands.While sense e b) s) rs)) (machine.WhileBody E sense e b s) rs st (omega arith) (turn_less (Perform E (commands.While sense e b) s) _ rs st) x
next_less program (machine.WhileBody E sense e b s) a rs st = tt
next_less program (machine.RepeatBody E b s) (Left x) rs st =
    after_less (in_turn (go (Perform E (commands.Repeat b) s) rs)) (machine.RepeatBody E b s) rs st (omega arith) (turn_less (Perform E (commands.Repeat b) s) _ rs st) x
next_less program (machine.RepeatBody E b s) a rs st = tt
next_less program (machine.RepeatWhileBody E b sense e s) (Left x) rs st =
    after_less (go (Decide E e s) (machine.RepeatWhiles E b sense e s ∷ rs)) (machine.RepeatWhileBody E b sense e s) rs st (omega arith) (omega arith, λ le. omega arith) x
next_less program (machine.RepeatWhileBody E b sense e s) a rs st = tt
next_less program (machine.RepeatWhiles E b sense e s) (Verdict t) rs st =
    less_choose (agrees sense t) (in_turn (go (Perform E (commands.RepeatWhile b sense e) s) rs)) (give (Left Past) rs) st.turns _ st
    (turn_less (Perform E (commands.RepeatWhile b sense e) s) _ rs st) (omega arith, λ le. omega arith)
next_less program (machine.RepeatWhiles E b sense e s) a rs st = tt
next_less program (machine.Limits E limit by b s) Nothing rs st = (omega arith, λ le. omega arith)
next_less program (machine.Limits E limit by b s) a rs st = tt
next_less program (machine.Fors E by b s) (Number m) rs st = (omega arith, λ le. omega arith)
next_less program (machine.Fors E by b s) a rs st = tt
next_less program (machine.ForBody E limit by b s) (Left x) rs st =
    after_less (then_do (read (cell_of E s)) (λ i. then_do (given (value_of operators.Add i by)) (λ w. then_do (write (cell_of E s) w) (λ u. in_turn (go (Round E limit by b s) rs))))) (machine.ForBody E limit by b s) rs st (omega arith)
    (for_less E limit by b s _ rs st) x
next_less program (machine.ForBody E limit by b s) a rs st = tt
next_less program (machine.Switches E is s) (Number v) rs st = (omega arith, λ le. omega arith)
next_less program (machine.Switches E is s) a rs st = tt
next_less program machine.Cases (Left x) rs st = cases_less x rs st
next_less program machine.Cases a rs st = tt
next_less program machine.Leaves (Number v) rs st = (omega arith, λ le. omega arith)
next_less program machine.Leaves a rs st = tt
next_less program (machine.Declares E ds is s level) Nothing rs st = (omega arith, λ le. omega arith)
next_less program (machine.Declares E ds is s level) a rs st = tt
next_less program (machine.Initialises E vs k s) Nothing rs st = (omega arith, λ le. omega arith)
next_less program (machine.Initialises E vs k s) a rs st = tt
next_less program (machine.Follows E is s) (Left x) rs st = follow_less E is s x rs st
next_less program (machine.Follows E is s) a rs st = tt
next_less program (machine.Listed E is s) (Left x) rs st = listed_less program E is s x rs st
next_less program (machine.Listed E is s) a rs st = tt

-- every state steps, except the one that holds the answer of the whole run
pub work_less : (program : List Placed) (w : Work) (rs : List Rest) (st : State) → Moves w rs → Less program w rs st
work_less program (Evaluate E e s) rs st m = evaluate_less program E e s rs st
work_less program (Decide E e s) rs st m = decide_less program E e s rs st
work_less program (Argue E vs es level f n s) rs st m = argue_less program E vs es level f n s rs st
work_less program (Store E v a s) rs st m = store_less program E v a s rs st
work_less program (Perform E c s) rs st m = perform_less program E c s rs st
work_less program (Enter E b s) rs st m = enter_less program E b s rs st
work_less program (Declare E ds is s level) rs st m = declare_less program E ds is s level rs st
work_less program (Initialise E vs k s) rs st m = initialise_less program E vs k s rs st
work_less program (Listing E is s at) rs st m = listing_less program E is s at rs st
work_less program (Round E limit by b s) rs st m = round_less program E limit by b s rs st
work_less program (Give a) [] st m = absurd m
work_less program (Give a) (r ∷ rs) st m = next_less program r a rs st
