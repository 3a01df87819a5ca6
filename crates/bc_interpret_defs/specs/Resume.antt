-- For proofs: the meaning of the machine's work and of its continuations, in terms of bc_core.
use Rattle.std.specs.Prelude.{ℕ, ◌+◌, Bool, true, false, not, List, [], ◌∷◌, ◌++◌}
use Rattle.bc_word.specs.Words.{value_of, negated, complemented, holds}
use Rattle.bc_core.specs.Tree.{Exp, Frame, Load}
use Rattle.bc_core.specs.Commands.{Block, Items}
use Rattle.bc_core.specs.Level.{operand_level, routine_level, side_level, level_in_for}
use Rattle.bc_core.specs.Outcome.{Done, Run, then_do, choose, read, write, Round, next_round, repeated}
use Rattle.bc_core.specs.Value.{Context, is_true, given, value, truth, values, assign}
use Rattle.bc_core.specs.Exit.{Exit, Past, Resulted, onward}
use Rattle.bc_core.specs.Lists.{Entry, Beginning, has_case, has_label, entry_of, after_list, listed, after_cases}
use Rattle.bc_core.specs.Loop.{LoopRound, back, leave, after_body, agrees, end_relation}
use Rattle.bc_core.specs.Command.{initialise, declare, step_of_for, perform, perform_block, perform_items}
use Rattle.bc_core.specs.Meaning.{Call, context, valofs_from, routine_value, valof_value}
use Rattle.bc_interpret_defs.specs.Machine.{Spot, Answer, Number, Verdict, Nothing, Left, Work, Rest, At, Step, on_number, on_verdict, on_nothing, on_exit, shut}
use Rattle.bc_interpret_defs.specs.Machine as machine

abbrev pub context_at : Call → Spot → Context
context_at call E = context E.address call (valofs_from E.address call E.first E.valofs)

abbrev pub number : ℕ → Run Answer
number v = Done (Number v)

abbrev pub verdict : Bool → Run Answer
verdict t = Done (Verdict t)

abbrev pub nothing : Unit {0} → Run Answer
nothing u = Done Nothing

abbrev pub out : Exit → Run Answer
out x = Done (Left x)

-- one round of each loop, and of a list that jumps enter again
abbrev pub while_round : Context → Bool → Exp → Block → (p s : ℕ) → Unit {0} → LoopRound
while_round C sense e b p s u = then_do (truth C e p s) (λ t. choose (agrees sense t) (then_do (perform_block C b p s) (after_body back)) leave)

abbrev pub repeat_round : Context → Block → (p s : ℕ) → Unit {0} → LoopRound
repeat_round C b p s u = then_do (perform_block C b p s) (after_body back)

abbrev pub test_round : Context → Bool → Exp → (p s : ℕ) → LoopRound
test_round C sense e p s = then_do (truth C e p s) (λ t. choose (agrees sense t) back leave)

abbrev pub repeat_while_round : Context → Block → Bool → Exp → (p s : ℕ) → Unit {0} → LoopRound
repeat_while_round C b sense e p s u = then_do (perform_block C b p s) (after_body (test_round C sense e p s))

abbrev pub for_step : Context → ℕ → (p s : ℕ) → LoopRound
for_step C by p s = then_do (assign C (step_of_for by s) (Frame s) p (level_in_for s)) (λ u. back)

abbrev pub for_round : Context → (limit by : ℕ) → Block → (p s : ℕ) → Unit {0} → LoopRound
for_round C limit by b p s u =
    then_do (value C (Load (Frame s)) p (level_in_for s)) (λ i.
    choose (holds (end_relation by) i limit) leave (then_do (perform_block C b p (level_in_for s)) (after_body (for_step C by p s))))

abbrev pub list_round : Context → Items → (p s : ℕ) → Entry → Run (Round Entry Exit)
list_round C is p s at = then_do (perform_items C is p s at) (after_list (has_label is))

-- the remaining rounds after a round
abbrev pub around : {A : Type 0} → (A → Run (Round A Exit)) → Run (Round A Exit) → Run Answer
around f r = then_do (then_do r (next_round (repeated f))) out

-- the meaning of the current work
abbrev pub doing : Call → Work → Run Answer
doing call (machine.Evaluate E e s) = then_do (value (context_at call E) e E.frame s) number
doing call (machine.Decide E e s) = then_do (truth (context_at call E) e E.frame s) verdict
doing call (machine.Argue E vs es level f n s) =
    then_do (values (context_at call E) es E.frame level) (λ ws.
    then_do (value (context_at call E) f E.frame (routine_level s n)) (λ r. then_do (call r (vs ++ ws) (E.frame + s)) number))
doing call (machine.Store E v a s) = then_do (assign (context_at call E) v a E.frame s) nothing
doing call (machine.Perform E c s) = then_do (perform (context_at call E) c E.frame s) out
doing call (machine.Enter E b s) = then_do (perform_block (context_at call E) b E.frame s) out
doing call (machine.Declare E ds is s level) =
    then_do (declare (context_at call E) ds E.frame s (listed (has_label is) (perform_items (context_at call E) is E.frame level) Beginning)) out
doing call (machine.Initialise E vs k s) = then_do (initialise (context_at call E) vs E.frame k s) nothing
doing call (machine.Listing E is s at) = then_do (perform_items (context_at call E) is E.frame s at) out
doing call (machine.Round E limit by b s) = then_do (repeated (for_round (context_at call E) limit by b E.frame s) tt) out
doing call (machine.Give a) = Done a

-- the meaning of a continuation, given its answer
abbrev pub rest : Call → Rest → Answer → Run Answer
rest call machine.Loads a = on_number (λ v. then_do (read v) number) a
rest call machine.Negates a = on_number (λ v. number (negated v)) a
rest call machine.Complements a = on_number (λ v. number (complemented v)) a
rest call machine.Opposes a = on_verdict (λ t. verdict (not t)) a
rest call machine.Tests a = on_number (λ v. verdict (is_true v)) a
rest call (machine.Operates E op b s) a =
    on_number (λ x. then_do (value (context_at call E) b E.frame (operand_level s)) (λ y. then_do (given (value_of op x y)) number)) a
rest call (machine.Operated op x) a = on_number (λ y. then_do (given (value_of op x y)) number) a
rest call (machine.Conjoins E b s) a =
    on_verdict (λ t. then_do (choose t (truth (context_at call E) b E.frame (operand_level s)) (Done false)) verdict) a
rest call (machine.Disjoins E b s) a =
    on_verdict (λ t. then_do (choose t (Done true) (truth (context_at call E) b E.frame (operand_level s))) verdict) a
rest call (machine.Selects E x y s) a =
    on_verdict (λ t. then_do (choose t (value (context_at call E) x E.frame s) (value (context_at call E) y E.frame s)) number) a
rest call (machine.Argues E vs es level f n s) a =
    on_number (λ v. then_do (values (context_at call E) es E.frame (level + 1)) (λ ws.
    then_do (value (context_at call E) f E.frame (routine_level s n)) (λ r. then_do (call r (vs ++ (v ∷ ws)) (E.frame + s)) number))) a
rest call (machine.Calls vs f) a = on_number (λ r. then_do (call r vs f) number) a
rest call (machine.Stores E address s) a =
    on_number (λ w. then_do (value (context_at call E) address E.frame (side_level address s)) (λ v. then_do (write v w) nothing)) a
rest call (machine.Stored w) a = on_number (λ v. then_do (write v w) nothing) a
rest call (machine.StoresAt address) a = on_number (λ w. then_do (write address w) nothing) a
rest call (machine.Closes over n address) a = shut n address (Done a)
rest call machine.Returns a = on_exit (λ x. then_do (routine_value x) number) a
rest call (machine.Results n) a = on_exit (λ x. then_do (valof_value x) number) a
rest call machine.Drops a = on_number (λ v. out Past) a
rest call machine.Passes a = on_nothing (out Past) a
rest call (machine.Ifs E sense b s) a =
    on_verdict (λ t. then_do (choose (agrees sense t) (perform_block (context_at call E) b E.frame s) (Done Past)) out) a
rest call (machine.Chooses E b c s) a =
    on_verdict (λ t. then_do (choose t (perform_block (context_at call E) b E.frame s) (perform_block (context_at call E) c E.frame s)) out) a
rest call (machine.Skips that) a = on_exit out a
rest call (machine.Whiles E sense e b s) a =
    on_verdict (λ t. around (while_round (context_at call E) sense e b E.frame s)
    (choose (agrees sense t) (then_do (perform_block (context_at call E) b E.frame s) (after_body back)) leave)) a
rest call (machine.WhileBody E sense e b s) a =
    on_exit (λ x. around (while_round (context_at call E) sense e b E.frame s) (after_body back x)) a
rest call (machine.RepeatBody E b s) a = on_exit (λ x. around (repeat_round (context_at call E) b E.frame s) (after_body back x)) a
rest call (machine.RepeatWhileBody E b sense e s) a =
    on_exit (λ x. around (repeat_while_round (context_at call E) b sense e E.frame s) (after_body (test_round (context_at call E) sense e E.frame s) x)) a
rest call (machine.RepeatWhiles E b sense e s) a =
    on_verdict (λ t. around (repeat_while_round (context_at call E) b sense e E.frame s) (choose (agrees sense t) back leave)) a
rest call (machine.Limits E limit by b s) a =
    on_nothing (then_do (value (context_at call E) limit E.frame (level_in_for s)) (λ n.
    then_do (repeated (for_round (context_at call E) n by b E.frame s) tt) out)) a
rest call (machine.Fors E by b s) a = on_number (λ n. then_do (repeated (for_round (context_at call E) n by b E.frame s) tt) out) a
rest call (machine.ForBody E limit by b s) a =
    on_exit (λ x. around (for_round (context_at call E) limit by b E.frame s) (after_body (for_step (context_at call E) by E.frame s) x)) a
rest call (machine.Switches E is s) a =
    on_number (λ v. then_do (then_do (listed (has_label is) (perform_items (context_at call E) is E.frame s) (entry_of (has_case is) v)) after_cases) out) a
rest call machine.Cases a = on_exit (λ x. then_do (after_cases x) out) a
rest call machine.Leaves a = on_number (λ v. out (Resulted v)) a
rest call (machine.Declares E ds is s level) a =
    on_nothing (then_do (declare (context_at call E) ds E.frame s (listed (has_label is) (perform_items (context_at call E) is E.frame level) Beginning)) out) a
rest call (machine.Initialises E vs k s) a = on_nothing (then_do (initialise (context_at call E) vs E.frame k s) nothing) a
rest call (machine.Follows E is s) a = on_exit (λ x. then_do (onward (perform_items (context_at call E) is E.frame s Beginning) x) out) a
rest call (machine.Listed E is s) a = on_exit (λ x. around (list_round (context_at call E) is E.frame s) (after_list (has_label is) x)) a

abbrev pub resume : Call → List Rest → Answer → Run Answer
resume call [] a = Done a
resume call (r ∷ rs) a = then_do (rest call r a) (resume call rs)

-- the meaning of a state: its work, and then its continuations
abbrev pub meant : Call → At → Run Answer
meant call at = then_do (doing call at.work) (resume call at.rests)
