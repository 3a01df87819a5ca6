-- A step of the machine preserves the meaning of the remaining run: popping a continuation.
use Rattle.std.proofs.Common.{◌≡◌, ℕ, ◌+◌, ◌<◌, List, [], ◌∷◌, ◌++◌, Bool, true, false, Option, Some, None, refl, sym, ap, subst, arith, append_assoc, ◌∙◌}
use Rattle.std.specs.Prelude.{nat_le, cond}
use Rattle.bc_word.specs.declared.operator.Op.TheVariants.{Add}
use Rattle.bc_word.specs.Words.{value_of}
use Rattle.bc_core.specs.Commands.{Block, Items, Routine, Body, Gives, Does}
use Rattle.bc_core.specs.Commands as commands
use Rattle.bc_core.specs.Level.{operand_level, routine_level, side_level, level_in_for, level_after_parameters}
use Rattle.bc_core.specs.Layout.{frame_size}
use Rattle.bc_core.specs.Map.{Placed}
use Rattle.bc_core.specs.Outcome.{State, Outcome, Done, Ended, Going, Wild, Run, wild, followed, then_do, choose, in_turn, read, write, left, second_side, Again, Leave, next_round, repeated}
use Rattle.bc_core.specs.Value.{given, value, truth, values}
use Rattle.bc_core.specs.Exit.{Exit, Past, Broke, Looped, LeftCases, Returned, Resulted, Jumped, onward}
use Rattle.bc_core.specs.Lists.{Entry, Beginning, AtLabel, has_case, has_label, entry_of, after_list, listed, after_cases}
use Rattle.bc_core.specs.Loop.{LoopRound, back, leave, after_body, agrees}
use Rattle.bc_core.specs.Command.{step_of_for, perform_block, perform_items}
use Rattle.bc_core.specs.Primitive.{primitive_frame, primitive_work}
use Rattle.bc_core.specs.Meaning.{Call as Calling, routine_value, valof_value, body_value, with_arguments, Callee, OfSection, OfLibrary, callee, entered, entered_of, calls}
use Rattle.bc_interpret_defs.specs.Machine.{Spot, cell_of, Answer, Number, Verdict, Nothing, Left, Work, Evaluate, Decide, Perform, Enter, Listing, Give, Rest, OpenCall, At, Step, go, give, enter, following, jump, follow, after_listing, spot_in, body_step, with_passed, frame_taken, arrive, next, step}
use Rattle.bc_interpret_defs.specs.Machine as machine
use Rattle.bc_interpret_defs.specs.Resume.{context_at, number, verdict, nothing, out, while_round, repeat_round, test_round, repeat_while_round, for_step, for_round, list_round, around, rest, resume, meant}
use Rattle.bc_interpret_defs.proofs.Joining.{join2, join3, join4, join5, join6, join_taken2, join_taken3, join_left, join_within, choose2, choose3}
use Rattle.bc_interpret_defs.proofs.Alike.{AlikeCall, alike_calls}
use Rattle.bc_interpret_defs.proofs.Fuel.{call_unrolled}
use Rattle.bc_interpret_defs.proofs.Rounds.{context_alike, list_again, assign_frame}
use Rattle.bc_interpret_defs.proofs.Doing.{from_round, listing_kept, enter_kept}

-- into a routine
body_kept : (o : Option OpenCall) (call : Calling) (section : Placed) (b : Body) (f s n a : ℕ) (rs : List Rest) (st : State) → followed (followed (left n a (body_value (context_at call (spot_in section f)) b f s st)) number) (resume call rs) ≡ followed (body_step (spot_in section f) b s (machine.Closes o n a ∷ rs) st) (meant call)
body_kept o call section (Gives e) f s n a rs st =
    join_left n a (value (context_at call (spot_in section f)) e f s st) number (resume call rs) number (resume call (machine.Closes o n a ∷ rs)) (λ x st1. refl)
body_kept o call section (Does b) f s n a rs st =
    join_within n a (perform_block (context_at call (spot_in section f)) b f s st) routine_value number (resume call rs) out (resume call (machine.Returns ∷ machine.Closes o n a ∷ rs))
    (λ x st1. join_left n a (routine_value x st1) number (resume call rs) number (resume call (machine.Closes o n a ∷ rs)) (λ v st2. refl))

arrive_kept : (call : Calling) (c : Option Callee) (v : ℕ) (vs : List ℕ) (f : ℕ) (rs : List Rest) (st : State) → followed (followed (entered call (entered_of c) vs f st) number) (resume call rs) ≡ followed (arrive c v vs f rs st) (meant call)
arrive_kept call None v vs f rs st = refl
arrive_kept call (Some (OfSection section r)) v vs f rs st =
    let n = r.parameters in
    let s = level_after_parameters r.parameters in
    let body : Run ℕ = with_arguments n (f + 2) vs (body_value (context_at call (spot_in section f)) r.body f s) in
    let work : Step = with_passed n (f + 2) vs (body_step (spot_in section f) r.body s (machine.Closes (Some (record { routine = v; frame = f })) n (f + 2) ∷ rs)) in
    choose2 (nat_le (f + frame_size section.core.valofs r) 65536) st (in_turn body) wild number (in_turn work) wild (resume call rs) (meant call)
    (join_taken2 st.turns st body number work (resume call rs) (meant call) (λ st1. body_kept (Some (record { routine = v; frame = f })) call section r.body f s n (f + 2) rs _)) refl
arrive_kept call (Some (OfLibrary q)) v vs f rs st =
    let body : Run ℕ = with_arguments 1 (f + 2) vs (primitive_work q f) in
    let work : Step = then_do body (λ v. give (Number v) rs) in
    choose2 (nat_le (f + primitive_frame) 65536) st (in_turn body) wild number (in_turn work) wild (resume call rs) (meant call)
    (join_taken2 st.turns st body number work (resume call rs) (meant call) (λ st1. join2 (body st1) number (resume call rs) (λ v. give (Number v) rs) (meant call) (λ v st2. refl))) refl

call_kept : (program : List Placed) (n : ℕ) (vs : List ℕ) (f r : ℕ) (rs : List Rest) (st : State) → st.turns < n → followed (followed (calls program n r vs f st) number) (resume (calls program n) rs) ≡ followed (arrive (callee program r) r vs f rs st) (meant (calls program n))
call_kept program n vs f r rs st l =
    subst (λ z. followed (followed z number) (resume (calls program n) rs) ≡ followed (arrive (callee program r) r vs f rs st) (meant (calls program n)))
    (sym (call_unrolled program n r vs f st l)) (arrive_kept (calls program n) (callee program r) r vs f rs st)

-- after a loop's body
after_kept : (call : Calling) (rs : List Rest) (f : Unit {0} → LoopRound) (r : LoopRound) (again : Step) (st : State) → followed (followed (followed (r st) (next_round (repeated f))) out) (resume call rs) ≡ followed (again st) (meant call) → (x : Exit) → followed (around f (after_body r x) st) (resume call rs) ≡ followed (following again x rs st) (meant call)
after_kept call rs f r again st h Past = h
after_kept call rs f r again st h Looped = h
after_kept call rs f r again st h Broke = refl
after_kept call rs f r again st h LeftCases = refl
after_kept call rs f r again st h Returned = refl
after_kept call rs f r again st h (Resulted v) = refl
after_kept call rs f r again st h (Jumped l) = refl

-- back to a loop's beginning
back_kept : (call : Calling) (rs : List Rest) (f : Unit {0} → LoopRound) (w : Work) (st : State) → ((st1 : State) → followed (followed (repeated f tt st1) out) (resume call rs) ≡ meant call (record { work = w; rests = rs }) st1) → followed (followed (followed (back st) (next_round (repeated f))) out) (resume call rs) ≡ followed (in_turn (go w rs) st) (meant call)
back_kept call rs f w st h = join_taken3 st.turns st (Done (Again tt)) (next_round (repeated f)) out (go w rs) (resume call rs) (meant call) h

-- the step of a FOR
stepped : (o : Outcome ℕ) (by : ℕ) (st : State) → second_side false o (Done by) (λ x y. given (value_of Add x y)) st ≡ followed o (λ i. given (value_of Add i by))
stepped (Done i st1) by st = refl
stepped (Ended e streams) by st = refl
stepped (Going streams) by st = refl
stepped Wild by st = refl

for_step_kept : (call : Calling) (E : Spot) (limit by : ℕ) (b : Block) (s : ℕ) (rs : List Rest) (st : State) → followed (followed (followed (for_step (context_at call E) by E.frame s st) (next_round (repeated (for_round (context_at call E) limit by b E.frame s)))) out) (resume call rs) ≡ followed (then_do (read (cell_of E s)) (λ i. then_do (given (value_of Add i by)) (λ w. then_do (write (cell_of E s) w) (λ u. in_turn (go (machine.Round E limit by b s) rs)))) st) (meant call)
for_step_kept call E limit by b s rs st =
    let C = context_at call E in
    let f = for_round C limit by b E.frame s in
    let a = cell_of E s in
    let nr = next_round (repeated f) in
    let R = resume call rs in
    let last : Step = in_turn (go (machine.Round E limit by b s) rs) in
    subst (λ z. followed (followed (followed (followed z (λ u. back)) nr) out) R ≡ followed (followed (read a st) (λ i. then_do (given (value_of Add i by)) (λ w. then_do (write a w) (λ u. last)))) (meant call))
    (sym (assign_frame C (step_of_for by s) s E.frame (level_in_for s) st))
    (subst (λ z. followed (followed (followed (followed (followed z (λ w. write a w)) (λ u. back)) nr) out) R ≡ followed (followed (read a st) (λ i. then_do (given (value_of Add i by)) (λ w. then_do (write a w) (λ u. last)))) (meant call))
    (sym (stepped (read a st) by st))
    (join6 (read a st) (λ i. given (value_of Add i by)) (λ w. write a w) (λ u. back) nr out R (λ i. then_do (given (value_of Add i by)) (λ w. then_do (write a w) (λ u. last))) (meant call)
    (λ i st1. join5 (given (value_of Add i by) st1) (λ w. write a w) (λ u. back) nr out R (λ w. then_do (write a w) (λ u. last)) (meant call)
    (λ w st2. join4 (write a w st2) (λ u. back) nr out R (λ u. last) (meant call)
    (λ u st3. back_kept call rs f (machine.Round E limit by b s) st3 (λ st4. refl))))))

-- a list that is entered
jump_kept : (program : List Placed) (call : Calling) → AlikeCall 0 call call → (E : Spot) (is : Items) (s l : ℕ) (rs : List Rest) (st : State) (t : Bool) → followed (followed (next_round (repeated (list_round (context_at call E) is E.frame s)) (cond t (Again (AtLabel l)) (Leave (Jumped l))) st) out) (resume call rs) ≡ followed (jump E is s l t rs st) (meant call)
jump_kept program call t E is s l rs st true =
    let C = context_at call E in
    let f = list_round C is E.frame s in
    from_round call rs f (AtLabel l) st _ (list_again C (context_alike call t E) is E.frame s (AtLabel l) st)
    (join4 (perform_items C is E.frame s (AtLabel l) st) (after_list (has_label is)) (next_round (repeated f)) out (resume call rs)
    out (resume call (machine.Listed E is s ∷ rs)) (λ x st1. refl))
jump_kept program call t E is s l rs st false = refl

switch_kept : (call : Calling) → AlikeCall 0 call call → (E : Spot) (is : Items) (s : ℕ) (at : Entry) (rs : List Rest) (st : State) → followed (followed (followed (listed (has_label is) (perform_items (context_at call E) is E.frame s) at st) after_cases) out) (resume call rs) ≡ meant call (record { work = Listing E is s at; rests = machine.Listed E is s ∷ machine.Cases ∷ rs }) st
switch_kept call t E is s at rs st =
    let C = context_at call E in
    let f = list_round C is E.frame s in
    let R = resume call rs in
    let cases = resume call (machine.Cases ∷ rs) in
    let listing = resume call (machine.Listed E is s ∷ machine.Cases ∷ rs) in
    subst (λ z. followed (followed (followed z after_cases) out) R ≡ meant call (record { work = Listing E is s at; rests = machine.Listed E is s ∷ machine.Cases ∷ rs }) st)
    (sym (list_again C (context_alike call t E) is E.frame s at st))
    (join5 (perform_items C is E.frame s at st) (after_list (has_label is)) (next_round (repeated f)) after_cases out R out listing
    (λ x st1. join3 (followed (after_list (has_label is) x st1) (next_round (repeated f))) after_cases out R out cases (λ y st2. refl)))

follows_kept : (call : Calling) (E : Spot) (is : Items) (s : ℕ) (x : Exit) (rs : List Rest) (st : State) → followed (followed (onward (perform_items (context_at call E) is E.frame s Beginning) x st) out) (resume call rs) ≡ followed (follow E is s x rs st) (meant call)
follows_kept call E is s Past rs st = refl
follows_kept call E is s Broke rs st = refl
follows_kept call E is s Looped rs st = refl
follows_kept call E is s LeftCases rs st = refl
follows_kept call E is s Returned rs st = refl
follows_kept call E is s (Resulted v) rs st = refl
follows_kept call E is s (Jumped l) rs st = refl

listed_kept : (program : List Placed) (call : Calling) → AlikeCall 0 call call → (E : Spot) (is : Items) (s : ℕ) (x : Exit) (rs : List Rest) (st : State) → followed (around (list_round (context_at call E) is E.frame s) (after_list (has_label is) x) st) (resume call rs) ≡ followed (after_listing E is s x rs st) (meant call)
listed_kept program call t E is s Past rs st = refl
listed_kept program call t E is s Broke rs st = refl
listed_kept program call t E is s Looped rs st = refl
listed_kept program call t E is s LeftCases rs st = refl
listed_kept program call t E is s Returned rs st = refl
listed_kept program call t E is s (Resulted v) rs st = refl
listed_kept program call t E is s (Jumped l) rs st = jump_kept program call t E is s l rs st (has_label is l)

pub next_kept : (program : List Placed) (n : ℕ) (r : Rest) (a : Answer) (rs : List Rest) (st : State) → st.turns < n → followed (rest (calls program n) r a st) (resume (calls program n) rs) ≡ followed (next program r a rs st) (meant (calls program n))
next_kept program n machine.Loads (Number v) rs st l = join2 (read v st) number (resume (calls program n) rs) (λ w. give (Number w) rs) (meant (calls program n)) (λ x st1. refl)
next_kept program n machine.Loads a rs st l = refl
next_kept program n machine.Negates (Number v) rs st l = refl
next_kept program n machine.Negates a rs st l = refl
next_kept program n machine.Complements (Number v) rs st l = refl
next_kept program n machine.Complements a rs st l = refl
next_kept program n machine.Opposes (Verdict t) rs st l = refl
next_kept program n machine.Opposes a rs st l = refl
next_kept program n machine.Tests (Number v) rs st l = refl
next_kept program n machine.Tests a rs st l = refl
next_kept program n (machine.Operates E op b s) (Number x) rs st l =
    join2 (value (context_at (calls program n) E) b E.frame (operand_level s) st) (λ y. then_do (given (value_of op x y)) number) (resume (calls program n) rs)
    number (resume (calls program n) (machine.Operated op x ∷ rs)) (λ y st1. refl)
next_kept program n (machine.Operates E op b s) a rs st l = refl
next_kept program n (machine.Operated op x) (Number y) rs st l =
    join2 (given (value_of op x y) st) number (resume (calls program n) rs) (λ w. give (Number w) rs) (meant (calls program n)) (λ v st1. refl)
next_kept program n (machine.Operated op x) a rs st l = refl
next_kept program n (machine.Conjoins E b s) (Verdict true) rs st l = refl
next_kept program n (machine.Conjoins E b s) (Verdict false) rs st l = refl
next_kept program n (machine.Conjoins E b s) a rs st l = refl
next_kept program n (machine.Disjoins E b s) (Verdict true) rs st l = refl
next_kept program n (machine.Disjoins E b s) (Verdict false) rs st l = refl
next_kept program n (machine.Disjoins E b s) a rs st l = refl
next_kept program n (machine.Selects E x y s) (Verdict true) rs st l = refl
next_kept program n (machine.Selects E x y s) (Verdict false) rs st l = refl
next_kept program n (machine.Selects E x y s) a rs st l = refl
next_kept program n (machine.Argues E vs es level f m s) (Number v) rs st l =
    let call = calls program n in
    let C = context_at call E in
    let following : List ℕ → Run Answer = λ ws. then_do (value C f E.frame (routine_level s m)) (λ r. then_do (call r ws (E.frame + s)) number) in
    let moved : (ws : List ℕ) → vs ++ (v ∷ ws) ≡ (vs ++ (v ∷ [])) ++ ws = λ ws. sym (append_assoc vs (v ∷ []) ws) in
    ap (λ g. followed (followed (values C es E.frame (level + 1) st) g) (resume call rs)) (λ i ws. following (moved ws i))
next_kept program n (machine.Argues E vs es level f m s) a rs st l = refl
next_kept program n (machine.Calls vs f) (Number r) rs st l = call_kept program n vs f r rs st l
next_kept program n (machine.Calls vs f) a rs st l = refl
next_kept program n (machine.Stores E address s) (Number w) rs st l =
    join2 (value (context_at (calls program n) E) address E.frame (side_level address s) st) (λ v. then_do (write v w) nothing) (resume (calls program n) rs)
    number (resume (calls program n) (machine.Stored w ∷ rs)) (λ y st1. refl)
next_kept program n (machine.Stores E address s) a rs st l = refl
next_kept program n (machine.Stored w) (Number v) rs st l = join2 (write v w st) nothing (resume (calls program n) rs) (λ u. give Nothing rs) (meant (calls program n)) (λ x st1. refl)
next_kept program n (machine.Stored w) a rs st l = refl
next_kept program n (machine.StoresAt v) (Number w) rs st l = join2 (write v w st) nothing (resume (calls program n) rs) (λ u. give Nothing rs) (meant (calls program n)) (λ x st1. refl)
next_kept program n (machine.StoresAt v) a rs st l = refl
next_kept program n (machine.Closes o m b) a rs st l = refl
next_kept program n machine.Returns (Left x) rs st l =
    join2 (routine_value x st) number (resume (calls program n) rs) (λ w. give (Number w) rs) (meant (calls program n)) (λ v st1. refl)
next_kept program n machine.Returns a rs st l = refl
next_kept program n (machine.Results k) (Left x) rs st l =
    join2 (valof_value x st) number (resume (calls program n) rs) (λ w. give (Number w) rs) (meant (calls program n)) (λ v st1. refl)
next_kept program n (machine.Results k) a rs st l = refl
next_kept program n machine.Drops (Number v) rs st l = refl
next_kept program n machine.Drops a rs st l = refl
next_kept program n machine.Passes Nothing rs st l = refl
next_kept program n machine.Passes a rs st l = refl
next_kept program n (machine.Ifs E sense b s) (Verdict t) rs st l =
    choose2 (agrees sense t) st (perform_block (context_at (calls program n) E) b E.frame s) (Done Past) out (enter E b s rs) (give (Left Past) rs) (resume (calls program n) rs) (meant (calls program n))
    (enter_kept program (calls program n) (alike_calls program 0 n n (omega arith) (omega arith)) E b s rs st) refl
next_kept program n (machine.Ifs E sense b s) a rs st l = refl
next_kept program n (machine.Chooses E b c s) (Verdict true) rs st l =
    let call = calls program n in
    join2 (perform_block (context_at call E) b E.frame s st) out (resume call rs) out (resume call (machine.Skips c ∷ rs)) (λ x st1. refl)
    ∙ enter_kept program call (alike_calls program 0 n n (omega arith) (omega arith)) E b s (machine.Skips c ∷ rs) st
next_kept program n (machine.Chooses E b c s) (Verdict false) rs st l = enter_kept program (calls program n) (alike_calls program 0 n n (omega arith) (omega arith)) E c s rs st
next_kept program n (machine.Chooses E b c s) a rs st l = refl
next_kept program n (machine.Skips c) (Left x) rs st l = refl
next_kept program n (machine.Skips c) a rs st l = refl
next_kept program n (machine.Whiles E sense e b s) (Verdict t) rs st l =
    let call = calls program n in
    let C = context_at call E in
    let nr = next_round (repeated (while_round C sense e b E.frame s)) in
    choose3 (agrees sense t) st (then_do (perform_block C b E.frame s) (after_body back)) leave nr out
    (enter E b s (machine.WhileBody E sense e b s ∷ rs)) (give (Left Past) rs) (resume call rs) (meant call)
    (join4 (perform_block C b E.frame s st) (after_body back) nr out (resume call rs) out (resume call (machine.WhileBody E sense e b s ∷ rs)) (λ x st1. refl)
    ∙ enter_kept program call (alike_calls program 0 n n (omega arith) (omega arith)) E b s (machine.WhileBody E sense e b s ∷ rs) st) refl
next_kept program n (machine.Whiles E sense e b s) a rs st l = refl
next_kept program n (machine.WhileBody E sense e b s) (Left x) rs st l =
    let call = calls program n in
    let f = while_round (context_at call E) sense e b E.frame s in
    after_kept call rs f back (in_turn (go (Perform E (commands.While sense e b) s) rs)) st (back_kept call rs f (Perform E (commands.While sense e b) s) st (λ st1. refl)) x
next_kept program n (machine.WhileBody E sense e b s) a rs st l = refl
next_kept program n (machine.RepeatBody E b s) (Left x) rs st l =
    let call = calls program n in
    let f = repeat_round (context_at call E) b E.frame s in
    after_kept call rs f back (in_turn (go (Perform E (commands.Repeat b) s) rs)) st (back_kept call rs f (Perform E (commands.Repeat b) s) st (λ st1. refl)) x
next_kept program n (machine.RepeatBody E b s) a rs st l = refl
next_kept program n (machine.RepeatWhileBody E b sense e s) (Left x) rs st l =
    let call = calls program n in
    let C = context_at call E in
    let f = repeat_while_round C b sense e E.frame s in
    after_kept call rs f (test_round C sense e E.frame s) (go (Decide E e s) (machine.RepeatWhiles E b sense e s ∷ rs)) st
    (join4 (truth C e E.frame s st) (λ t. choose (agrees sense t) back leave) (next_round (repeated f)) out (resume call rs) verdict (resume call (machine.RepeatWhiles E b sense e s ∷ rs)) (λ t st1. refl)) x
next_kept program n (machine.RepeatWhileBody E b sense e s) a rs st l = refl
next_kept program n (machine.RepeatWhiles E b sense e s) (Verdict t) rs st l =
    let call = calls program n in
    let f = repeat_while_round (context_at call E) b sense e E.frame s in
    let w = Perform E (commands.RepeatWhile b sense e) s in
    choose3 (agrees sense t) st back leave (next_round (repeated f)) out (in_turn (go w rs)) (give (Left Past) rs) (resume call rs) (meant call)
    (back_kept call rs f w st (λ st1. refl)) refl
next_kept program n (machine.RepeatWhiles E b sense e s) a rs st l = refl
next_kept program n (machine.Limits E limit by b s) Nothing rs st l =
    let call = calls program n in
    let C = context_at call E in
    join2 (value C limit E.frame (level_in_for s) st) (λ m. then_do (repeated (for_round C m by b E.frame s) tt) out) (resume call rs) number (resume call (machine.Fors E by b s ∷ rs)) (λ m st1. refl)
next_kept program n (machine.Limits E limit by b s) a rs st l = refl
next_kept program n (machine.Fors E by b s) (Number m) rs st l = refl
next_kept program n (machine.Fors E by b s) a rs st l = refl
next_kept program n (machine.ForBody E limit by b s) (Left x) rs st l =
    let call = calls program n in
    let C = context_at call E in
    after_kept call rs (for_round C limit by b E.frame s) (for_step C by E.frame s)
    (then_do (read (cell_of E s)) (λ i. then_do (given (value_of Add i by)) (λ w. then_do (write (cell_of E s) w) (λ u. in_turn (go (machine.Round E limit by b s) rs))))) st
    (for_step_kept call E limit by b s rs st) x
next_kept program n (machine.ForBody E limit by b s) a rs st l = refl
next_kept program n (machine.Switches E is s) (Number v) rs st l =
    switch_kept (calls program n) (alike_calls program 0 n n (omega arith) (omega arith)) E is s (entry_of (has_case is) v) rs st
next_kept program n (machine.Switches E is s) a rs st l = refl
next_kept program n machine.Cases (Left x) rs st l = join2 (after_cases x st) out (resume (calls program n) rs) (λ y. give (Left y) rs) (meant (calls program n)) (λ y st1. refl)
next_kept program n machine.Cases a rs st l = refl
next_kept program n machine.Leaves (Number v) rs st l = refl
next_kept program n machine.Leaves a rs st l = refl
next_kept program n (machine.Declares E ds is s level) Nothing rs st l = refl
next_kept program n (machine.Declares E ds is s level) a rs st l = refl
next_kept program n (machine.Initialises E vs k s) Nothing rs st l = refl
next_kept program n (machine.Initialises E vs k s) a rs st l = refl
next_kept program n (machine.Follows E is s) (Left x) rs st l = follows_kept (calls program n) E is s x rs st
next_kept program n (machine.Follows E is s) a rs st l = refl
next_kept program n (machine.Listed E is s) (Left x) rs st l = listed_kept program (calls program n) (alike_calls program 0 n n (omega arith) (omega arith)) E is s x rs st
next_kept program n (machine.Listed E is s) a rs st l = refl
