-- A step of the machine preserves the meaning of the remaining run: expressions, assignments, calls and VALOFs.
use Rattle.std.proofs.Common.{◌≡◌, ℕ, ◌+◌, ◌==◌, ◌||◌, List, [], ◌∷◌, ◌++◌, Bool, true, false, refl, sym, ap, subst, append-nil, append_assoc, ◌∙◌}
use Rattle.std.specs.Prelude.{not}
use Rattle.bc_word.specs.declared.operator.Op.{Op}
use Rattle.bc_word.specs.declared.operator.Op.TheVariants as operators
use Rattle.bc_word.specs.Words.{value_of, negated, complemented}
use Rattle.bc_core.specs.Tree.{Exp, Num, Frame, Glob, Place, Load, Neg, Not, Bin, Cond, Call, Valof, Args, no_argument, argument, count}
use Rattle.bc_core.specs.Commands as commands
use Rattle.bc_core.specs.Level.{operand_level, argument_level, routine_level, side_level}
use Rattle.bc_core.specs.Map.{Placed}
use Rattle.bc_core.specs.Outcome.{State, Outcome, Done, Ended, Going, Wild, Run, followed, then_do, choose, wild, read, write, second_side, both}
use Rattle.bc_core.specs.Value.{has_call, is_true, truth_of_value, given, operated, value, truth, values, assign}
use Rattle.bc_core.specs.Meaning.{Call as Calling, context, valofs_from, valof_value}
use Rattle.bc_core.specs.Command.{perform_block}
use Rattle.bc_interpret_defs.specs.Machine.{Spot, Answer, Number, Verdict, Nothing, Left, Work, Evaluate, Decide, Argue, Store, Give, Rest, At, Step, go, give, quiet, to_valof, evaluate_parts, evaluate, decide_operator, decide_parts, decide, argue, store, step}
use Rattle.bc_interpret_defs.specs.Machine as machine
use Rattle.bc_interpret_defs.specs.Resume.{context_at, number, verdict, nothing, out, resume, meant}
use Rattle.bc_interpret_defs.proofs.Joining.{join2, join3, choose2}
use Rattle.bc_interpret_defs.proofs.Quiet.{quiet_same, quiet_assign}

abbrev pub Kept : List Placed → Calling → Work → List Rest → State → Type 0
Kept program call w rs st = meant call (record { work = w; rests = rs }) st ≡ followed (step program w rs st) (meant call)

-- the two cases of a test, as the definitions have them
abbrev pub by_number : {A : Type 0} → Bool → Run A → Run A → Run A
by_number t this that = elim t [ true ↦ this | false ↦ that ]

-- sides with a call or VALOF, one after the other
sides : {A B C : Type 0} (o : Outcome A) (second : Run B) (f : A → B → Run C) (g : C → Run Answer) (h : Answer → Run Answer) (first_answer : A → Run Answer) (rests : Answer → Run Answer) (st : State) → ((x : A) (st1 : State) → followed (followed (followed (second st1) (f x)) g) h ≡ followed (first_answer x st1) rests) → followed (followed (second_side true o second f st) g) h ≡ followed (followed o first_answer) rests
sides (Done x st1) second f g h q k st e = e x st1
sides (Ended w streams) second f g h q k st e = refl
sides (Going streams) second f g h q k st e = refl
sides Wild second f g h q k st e = refl

-- the meaning of a VALOF: the body of the first one, or a later one
valof_kept : (call : Calling) (address : ℕ → ℕ) (p first : ℕ) (v : commands.Valof) (vs : List commands.Valof) (n s : ℕ) (rs : List Rest) (st : State) (t : Bool) → followed (followed (valofs_from address call (first + 1) vs n p s st) number) (resume call rs) ≡ followed (to_valof address p (first + 1) vs n s rs st) (meant call) → followed (followed (by_number t (then_do (perform_block (context address call (valofs_from address call (first + 1) vs)) v.body p s) valof_value) (valofs_from address call (first + 1) vs n p s) st) number) (resume call rs) ≡ followed (by_number t (go (machine.Enter (record { address = address; first = first + 1; valofs = vs; frame = p }) v.body s) (machine.Results n ∷ rs)) (to_valof address p (first + 1) vs n s rs) st) (meant call)
valof_kept call address p first v vs n s rs st true h =
    join3 (perform_block (context address call (valofs_from address call (first + 1) vs)) v.body p s st) valof_value number (resume call rs) out (resume call (machine.Results n ∷ rs)) (λ x st1. refl)
valof_kept call address p first v vs n s rs st false h = h

to_valof_kept : (call : Calling) (address : ℕ → ℕ) (p first : ℕ) (vs : List commands.Valof) (n s : ℕ) (rs : List Rest) (st : State) → followed (followed (valofs_from address call first vs n p s st) number) (resume call rs) ≡ followed (to_valof address p first vs n s rs st) (meant call)
to_valof_kept call address p first [] n s rs st = refl
to_valof_kept call address p first (v ∷ vs) n s rs st = valof_kept call address p first v vs n s rs st (n == first) (to_valof_kept call address p (first + 1) vs n s rs st)

-- what is evaluated within one step
pub valued : (call : Calling) (E : Spot) (e : Exp) (s : ℕ) (st : State) → has_call e ≡ false → (f : ℕ → Run Answer) (k : Answer → Run Answer) (g : ℕ → Step) → ((v : ℕ) (st1 : State) → followed (f v st1) k ≡ followed (g v st1) (meant call)) → followed (followed (value (context_at call E) e E.frame s st) f) k ≡ followed (followed (value (quiet E) e E.frame s st) g) (meant call)
valued call E e s st h f k g m =
    let v = value (quiet E) e E.frame s in
    subst (λ z. followed (followed (z st) f) k ≡ followed (followed (v st) g) (meant call))
    (sym (quiet_same E.address call (λ r vs f1. wild) (valofs_from E.address call E.first E.valofs) (λ n p s1. wild) e h E.frame s).0)
    (join2 (v st) f k g (meant call) m)

pub true_or_not : (call : Calling) (E : Spot) (e : Exp) (s : ℕ) → has_call e ≡ false → truth (quiet E) e E.frame s ≡ truth (context_at call E) e E.frame s
true_or_not call E e s h = sym (quiet_same E.address call (λ r vs f1. wild) (valofs_from E.address call E.first E.valofs) (λ n p s1. wild) e h E.frame s).1

cond_kept : (call : Calling) (E : Spot) (c x y : Exp) (s : ℕ) (rs : List Rest) (st : State) (t : Bool) → has_call c ≡ t → followed (followed (value (context_at call E) (Cond c x y) E.frame s st) number) (resume call rs) ≡ followed (by_number t (go (Decide E c s) (machine.Selects E x y s ∷ rs)) (then_do (truth (quiet E) c E.frame s) (λ t1. choose t1 (go (Evaluate E x s) rs) (go (Evaluate E y s) rs))) st) (meant call)
cond_kept call E c x y s rs st true h =
    let C = context_at call E in
    join3 (truth C c E.frame s st) (λ t. choose t (value C x E.frame s) (value C y E.frame s)) number (resume call rs) verdict (resume call (machine.Selects E x y s ∷ rs)) (λ t st1. refl)
cond_kept call E c x y s rs st false h =
    let C = context_at call E in
    let vx = value C x E.frame s in
    let vy = value C y E.frame s in
    let q = truth (quiet E) c E.frame s in
    let onward : Bool → Step = λ t1. choose t1 (go (Evaluate E x s) rs) (go (Evaluate E y s) rs) in
    subst (λ z. followed (followed (followed (z st) (λ t. choose t vx vy)) number) (resume call rs) ≡ followed (followed (q st) onward) (meant call)) (true_or_not call E c s h)
    (join3 (q st) (λ t. choose t vx vy) number (resume call rs) onward (meant call)
    (λ t st1. choose2 t st1 vx vy number (go (Evaluate E x s) rs) (go (Evaluate E y s) rs) (resume call rs) (meant call) refl refl))

-- the remaining arguments, and then the routine
argued_last : (call : Calling) (E : Spot) (vs : List ℕ) (level : ℕ) (f : Exp) (n s : ℕ) (rs : List Rest) (st : State) (t : Bool) → has_call f ≡ t → meant call (record { work = Argue E vs no_argument level f n s; rests = rs }) st ≡ followed (by_number t (go (Evaluate E f (routine_level s n)) (machine.Calls vs (E.frame + s) ∷ rs)) (then_do (value (quiet E) f E.frame (routine_level s n)) (λ v. give (Number v) (machine.Calls vs (E.frame + s) ∷ rs))) st) (meant call)
argued_last call E vs level f n s rs st true h =
    join2 (value (context_at call E) f E.frame (routine_level s n) st) (λ r. then_do (call r (vs ++ []) (E.frame + s)) number) (resume call rs) number (resume call (machine.Calls vs (E.frame + s) ∷ rs))
    (λ r st1. ap (λ ws. followed (followed (call r ws (E.frame + s) st1) number) (resume call rs)) (append-nil vs))
argued_last call E vs level f n s rs st false h =
    valued call E f (routine_level s n) st h (λ r. then_do (call r (vs ++ []) (E.frame + s)) number) (resume call rs) (λ v. give (Number v) (machine.Calls vs (E.frame + s) ∷ rs))
    (λ r st1. ap (λ ws. followed (followed (call r ws (E.frame + s) st1) number) (resume call rs)) (append-nil vs))

abbrev Onwards : Calling → Spot → (vs : List ℕ) → Exp → (n s : ℕ) → List ℕ → Run Answer
Onwards call E vs f n s ws = then_do (value (context_at call E) f E.frame (routine_level s n)) (λ r. then_do (call r (vs ++ ws) (E.frame + s)) number)

argued : (call : Calling) (E : Spot) (vs : List ℕ) (e : Exp) (es : Args) (level : ℕ) (f : Exp) (n s : ℕ) (rs : List Rest) (st : State) (t : Bool) → has_call e ≡ t
    → ((v : ℕ) (st1 : State) → meant call (record { work = Argue E (vs ++ (v ∷ [])) es (level + 1) f n s; rests = rs }) st1 ≡ followed (argue E (vs ++ (v ∷ [])) es (level + 1) f n s rs st1) (meant call))
    → meant call (record { work = Argue E vs (argument e es) level f n s; rests = rs }) st ≡ followed (by_number t (go (Evaluate E e level) (machine.Argues E vs es level f n s ∷ rs)) (then_do (value (quiet E) e E.frame level) (λ v. argue E (vs ++ (v ∷ [])) es (level + 1) f n s rs)) st) (meant call)
argued call E vs e es level f n s rs st true h k =
    let C = context_at call E in
    let onward = Onwards call E vs f n s in
    join3 (value C e E.frame level st) (λ v. then_do (values C es E.frame (level + 1)) (λ ws. Done (v ∷ ws))) onward (resume call rs) number (resume call (machine.Argues E vs es level f n s ∷ rs))
    (λ v st1. join3 (values C es E.frame (level + 1) st1) (λ ws. Done (v ∷ ws)) onward (resume call rs) (λ ws. onward (v ∷ ws)) (resume call rs) (λ ws st2. refl))
argued call E vs e es level f n s rs st false h k =
    let C = context_at call E in
    let onward = Onwards call E vs f n s in
    let q = value (quiet E) e E.frame level in
    let following : ℕ → Run (List ℕ) = λ v. then_do (values C es E.frame (level + 1)) (λ ws. Done (v ∷ ws)) in
    let next : ℕ → Step = λ v. argue E (vs ++ (v ∷ [])) es (level + 1) f n s rs in
    let moved : (v : ℕ) (ws : List ℕ) → vs ++ (v ∷ ws) ≡ (vs ++ (v ∷ [])) ++ ws = λ v ws. sym (append_assoc vs (v ∷ []) ws) in
    subst (λ z. followed (followed (followed (z st) following) onward) (resume call rs) ≡ followed (followed (q st) next) (meant call))
    (sym (quiet_same E.address call (λ r ws f1. wild) (valofs_from E.address call E.first E.valofs) (λ n1 p s1. wild) e h E.frame level).0)
    (join3 (q st) following onward (resume call rs) next (meant call)
    (λ v st1. join3 (values C es E.frame (level + 1) st1) (λ ws. Done (v ∷ ws)) onward (resume call rs) (λ ws. onward (v ∷ ws)) (resume call rs) (λ ws st2. refl)
    ∙ (ap (λ g. followed (followed (values C es E.frame (level + 1) st1) g) (resume call rs)) (λ i ws. then_do (value C f E.frame (routine_level s n)) (λ r. then_do (call r (moved v ws i) (E.frame + s)) number))
    ∙ k v st1)))

pub argue_kept : (program : List Placed) (call : Calling) (E : Spot) (vs : List ℕ) (es : Args) (level : ℕ) (f : Exp) (n s : ℕ) (rs : List Rest) (st : State) → Kept program call (Argue E vs es level f n s) rs st
argue_kept program call E vs no_argument level f n s rs st = argued_last call E vs level f n s rs st (has_call f) refl
argue_kept program call E vs (argument e es) level f n s rs st =
    argued call E vs e es level f n s rs st (has_call e) refl (λ v st1. argue_kept program call E (vs ++ (v ∷ [])) es (level + 1) f n s rs st1)

bin_kept : (call : Calling) (E : Spot) (op : Op) (a b : Exp) (s : ℕ) (rs : List Rest) (st : State) → (has_call a || has_call b) ≡ true → followed (followed (value (context_at call E) (Bin op a b) E.frame s st) number) (resume call rs) ≡ meant call (record { work = Evaluate E a (operand_level s); rests = machine.Operates E op b s ∷ rs }) st
bin_kept call E op a b s rs st h =
    let C = context_at call E in
    let va = value C a E.frame (operand_level s) in
    let vb = value C b E.frame (operand_level s) in
    subst (λ z. followed (followed (operated op z va vb st) number) (resume call rs) ≡ meant call (record { work = Evaluate E a (operand_level s); rests = machine.Operates E op b s ∷ rs }) st)
    (sym h) (sides (va st) vb (λ x y. given (value_of op x y)) number (resume call rs) number (resume call (machine.Operates E op b s ∷ rs)) st
    (λ x st1. join3 (vb st1) (λ y. given (value_of op x y)) number (resume call rs) (λ y. then_do (given (value_of op x y)) number) (resume call rs) (λ y st2. refl)))

parts_kept : (program : List Placed) (call : Calling) (E : Spot) (e : Exp) (s : ℕ) (rs : List Rest) (st : State) → has_call e ≡ true → followed (followed (value (context_at call E) e E.frame s st) number) (resume call rs) ≡ followed (evaluate_parts E e s rs st) (meant call)
parts_kept program call E (Num n) s rs st h = cc
parts_kept program call E (Frame k) s rs st h = cc
parts_kept program call E (Glob n) s rs st h = cc
parts_kept program call E (Place m) s rs st h = cc
parts_kept program call E (Load e) s rs st h =
    join3 (value (context_at call E) e E.frame s st) read number (resume call rs) number (resume call (machine.Loads ∷ rs)) (λ x st1. refl)
parts_kept program call E (Neg e) s rs st h =
    join3 (value (context_at call E) e E.frame s st) (λ v. Done (negated v)) number (resume call rs) number (resume call (machine.Negates ∷ rs)) (λ x st1. refl)
parts_kept program call E (Not e) s rs st h =
    join3 (value (context_at call E) e E.frame s st) (λ v. Done (complemented v)) number (resume call rs) number (resume call (machine.Complements ∷ rs)) (λ x st1. refl)
parts_kept program call E (Bin op a b) s rs st h = bin_kept call E op a b s rs st h
parts_kept program call E (Cond c x y) s rs st h = cond_kept call E c x y s rs st (has_call c) refl
parts_kept program call E (Call es f) s rs st h =
    let C = context_at call E in
    let routine = value C f E.frame (routine_level s (count es)) in
    join3 (values C es E.frame (argument_level s) st) (λ vs. then_do routine (λ r. call r vs (E.frame + s))) number (resume call rs)
    (λ ws. then_do routine (λ r. then_do (call r ws (E.frame + s)) number)) (resume call rs)
    (λ vs st1. join3 (routine st1) (λ r. call r vs (E.frame + s)) number (resume call rs) (λ r. then_do (call r vs (E.frame + s)) number) (resume call rs) (λ r st2. refl))
    ∙ argue_kept program call E [] es (argument_level s) f (count es) s rs st
parts_kept program call E (Valof n) s rs st h = to_valof_kept call E.address E.frame E.first E.valofs n s rs st

evaluate_by : (program : List Placed) (call : Calling) (E : Spot) (e : Exp) (s : ℕ) (rs : List Rest) (st : State) (t : Bool) → has_call e ≡ t → followed (followed (value (context_at call E) e E.frame s st) number) (resume call rs) ≡ followed (by_number t (evaluate_parts E e s rs) (then_do (value (quiet E) e E.frame s) (λ v. give (Number v) rs)) st) (meant call)
evaluate_by program call E e s rs st true h = parts_kept program call E e s rs st h
evaluate_by program call E e s rs st false h = valued call E e s st h number (resume call rs) (λ v. give (Number v) rs) (λ v st1. refl)

pub evaluate_kept : (program : List Placed) (call : Calling) (E : Spot) (e : Exp) (s : ℕ) (rs : List Rest) (st : State) → Kept program call (Evaluate E e s) rs st
evaluate_kept program call E e s rs st = evaluate_by program call E e s rs st (has_call e) refl

tested : (call : Calling) (E : Spot) (e : Exp) (s : ℕ) (rs : List Rest) (st : State) → followed (followed (truth_of_value (value (context_at call E) e E.frame s) st) verdict) (resume call rs) ≡ meant call (record { work = Evaluate E e s; rests = machine.Tests ∷ rs }) st
tested call E e s rs st =
    join3 (value (context_at call E) e E.frame s st) (λ v. Done (is_true v)) verdict (resume call rs) number (resume call (machine.Tests ∷ rs)) (λ v st1. refl)

decide_operator_kept : (call : Calling) (E : Spot) (op : Op) (a b : Exp) (s : ℕ) (rs : List Rest) (st : State) → followed (followed (truth (context_at call E) (Bin op a b) E.frame s st) verdict) (resume call rs) ≡ followed (decide_operator E op a b s rs st) (meant call)
decide_operator_kept call E operators.And a b s rs st =
    let C = context_at call E in
    join3 (truth C a E.frame (operand_level s) st) (λ t. choose t (truth C b E.frame (operand_level s)) (Done false)) verdict (resume call rs) verdict (resume call (machine.Conjoins E b s ∷ rs)) (λ t st1. refl)
decide_operator_kept call E operators.Or a b s rs st =
    let C = context_at call E in
    join3 (truth C a E.frame (operand_level s) st) (λ t. choose t (Done true) (truth C b E.frame (operand_level s))) verdict (resume call rs) verdict (resume call (machine.Disjoins E b s ∷ rs)) (λ t st1. refl)
decide_operator_kept call E op a b s rs st = tested call E (Bin op a b) s rs st

decide_parts_kept : (call : Calling) (E : Spot) (e : Exp) (s : ℕ) (rs : List Rest) (st : State) → followed (followed (truth (context_at call E) e E.frame s st) verdict) (resume call rs) ≡ followed (decide_parts E e s rs st) (meant call)
decide_parts_kept call E (Not e) s rs st =
    join3 (truth (context_at call E) e E.frame s st) (λ t. Done (not t)) verdict (resume call rs) verdict (resume call (machine.Opposes ∷ rs)) (λ t st1. refl)
decide_parts_kept call E (Bin op a b) s rs st = decide_operator_kept call E op a b s rs st
decide_parts_kept call E e s rs st = tested call E e s rs st

decide_by : (call : Calling) (E : Spot) (e : Exp) (s : ℕ) (rs : List Rest) (st : State) (t : Bool) → has_call e ≡ t → followed (followed (truth (context_at call E) e E.frame s st) verdict) (resume call rs) ≡ followed (by_number t (decide_parts E e s rs) (then_do (truth (quiet E) e E.frame s) (λ t1. give (Verdict t1) rs)) st) (meant call)
decide_by call E e s rs st true h = decide_parts_kept call E e s rs st
decide_by call E e s rs st false h =
    let q = truth (quiet E) e E.frame s in
    subst (λ z. followed (followed (z st) verdict) (resume call rs) ≡ followed (followed (q st) (λ t1. give (Verdict t1) rs)) (meant call)) (true_or_not call E e s h)
    (join2 (q st) verdict (resume call rs) (λ t1. give (Verdict t1) rs) (meant call) (λ t1 st1. refl))

pub decide_kept : (program : List Placed) (call : Calling) (E : Spot) (e : Exp) (s : ℕ) (rs : List Rest) (st : State) → Kept program call (Decide E e s) rs st
decide_kept program call E e s rs st = decide_by call E e s rs st (has_call e) refl

store_kept_by : (call : Calling) (E : Spot) (v a : Exp) (s : ℕ) (rs : List Rest) (st : State) (t : Bool) → (has_call v || has_call a) ≡ t → followed (followed (assign (context_at call E) v a E.frame s st) nothing) (resume call rs) ≡ followed (by_number t (go (Evaluate E v (side_level a s)) (machine.Stores E a s ∷ rs)) (then_do (assign (quiet E) v a E.frame s) (λ u. give Nothing rs)) st) (meant call)
store_kept_by call E v a s rs st true h =
    let C = context_at call E in
    let vv = value C v E.frame (side_level a s) in
    let va = value C a E.frame (side_level a s) in
    subst (λ z. followed (followed (both z vv va (λ w address. write address w) st) nothing) (resume call rs) ≡ meant call (record { work = Evaluate E v (side_level a s); rests = machine.Stores E a s ∷ rs }) st)
    (sym h) (sides (vv st) va (λ w address. write address w) nothing (resume call rs) number (resume call (machine.Stores E a s ∷ rs)) st
    (λ w st1. join3 (va st1) (λ address. write address w) nothing (resume call rs) (λ address. then_do (write address w) nothing) (resume call rs) (λ y st2. refl)))
store_kept_by call E v a s rs st false h =
    let r = assign (quiet E) v a E.frame s in
    subst (λ z. followed (followed (z st) nothing) (resume call rs) ≡ followed (followed (r st) (λ u. give Nothing rs)) (meant call))
    (sym (quiet_assign E.address call (λ r1 vs f. wild) (valofs_from E.address call E.first E.valofs) (λ n p s1. wild) v a h E.frame s))
    (join2 (r st) nothing (resume call rs) (λ u. give Nothing rs) (meant call) (λ x st1. refl))

pub store_kept : (program : List Placed) (call : Calling) (E : Spot) (v a : Exp) (s : ℕ) (rs : List Rest) (st : State) → Kept program call (Store E v a s) rs st
store_kept program call E v a s rs st = store_kept_by call E v a s rs st (has_call v || has_call a) refl
