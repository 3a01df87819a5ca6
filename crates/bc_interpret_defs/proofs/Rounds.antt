-- The rounds of loops and lists. Each repeated round has taken a turn, so the rounds are one round followed by the rounds again.
use Rattle.std.proofs.Common.{◌≡◌, ℕ, ◌+◌, ◌%◌, ◌||◌, Bool, true, false, refl, arith}
use Rattle.bc_word.specs.Words.{holds}
use Rattle.bc_core.specs.Tree.{Exp, Frame, Load}
use Rattle.bc_core.specs.Commands.{Block, Items}
use Rattle.bc_core.specs.Level.{level_in_for}
use Rattle.bc_core.specs.Outcome.{State, Outcome, Done, Ended, Going, Wild, Run, followed, then_do, choose, write, second_side, Round, Leave, next_round, repeated}
use Rattle.bc_core.specs.Value.{Context, has_call, value, assign}
use Rattle.bc_core.specs.Exit.{Exit, Past}
use Rattle.bc_core.specs.Lists.{has_label, after_list}
use Rattle.bc_core.specs.Loop.{LoopRound, back, leave, after_body, agrees, end_relation}
use Rattle.bc_core.specs.Command.{step_of_for, perform_block}
use Rattle.bc_core.specs.Meaning.{Call as Calling}
use Rattle.bc_interpret_defs.specs.Machine.{Spot}
use Rattle.bc_interpret_defs.specs.Resume.{context_at, while_round, repeat_round, test_round, repeat_while_round, for_step, for_round, list_round}
use Rattle.bc_interpret_defs.proofs.Spending.{round_cost, Alike, alike_then, alike_choose, unrolled}
use Rattle.bc_interpret_defs.proofs.Alike.{AlikeContext, AlikeCall, exit_cost, round_give, alike_sense, alike_assign, alike_valofs, alike_block, alike_items, alike_back, alike_after_body, alike_after_list}

pub context_alike : (call : Calling) → AlikeCall 0 call call → (E : Spot) → AlikeContext 0 (context_at call E) (context_at call E)
context_alike call t E = record { place = λ m. refl; call = t; valof = λ n p s. alike_valofs 0 E.address call call t E.first E.valofs n p s }

abbrev pub Again1 : {A : Type 0} → (A → Run (Round A Exit)) → Type 0
Again1 {A = A} f = (x : A) (st : State) → repeated f x st ≡ followed (f x st) (next_round (repeated f))

again : {A : Type 0} (f : A → Run (Round A Exit)) → ((x : A) → Alike (round_cost exit_cost) 0 0 (f x) (f x)) → Again1 f
again f h x st = unrolled exit_cost f (λ y st1. (h y).spends st1) x st

body_alike : (C : Context) → AlikeContext 0 C C → (b : Block) (p s : ℕ) (r : LoopRound) → Alike (round_cost exit_cost) 0 0 r r → Alike (round_cost exit_cost) 0 0 (then_do (perform_block C b p s) (after_body r)) (then_do (perform_block C b p s) (after_body r))
body_alike C t b p s r h = alike_then 0 _ _ (after_body r) (after_body r) (alike_block 0 C C t b p s) (λ x. alike_after_body 0 r r x h)

leave_alike : Alike (round_cost exit_cost) 0 0 leave leave
leave_alike = round_give 0 0 (Leave Past) (omega arith)

test_alike : (C : Context) → AlikeContext 0 C C → (sense : Bool) (e : Exp) (p s : ℕ) → Alike (round_cost exit_cost) 0 0 (test_round C sense e p s) (test_round C sense e p s)
test_alike C t sense e p s =
    alike_then 0 _ _ (λ v. choose (agrees sense v) back leave) (λ v. choose (agrees sense v) back leave) (alike_sense 0 C C t e p s).1
    (λ v. alike_choose 0 (agrees sense v) back leave back leave (alike_back 0) leave_alike)

step_alike : (C : Context) → AlikeContext 0 C C → (by p s : ℕ) → Alike (round_cost exit_cost) 0 0 (for_step C by p s) (for_step C by p s)
step_alike C t by p s = alike_then 0 _ _ (λ u. back) (λ u. back) (alike_assign 0 C C t (step_of_for by s) (Frame s) p (level_in_for s)) (λ u. alike_back 0)

pub while_again : (C : Context) → AlikeContext 0 C C → (sense : Bool) (e : Exp) (b : Block) (p s : ℕ) → Again1 (while_round C sense e b p s)
while_again C t sense e b p s =
    again (while_round C sense e b p s) (λ u. alike_then 0 _ _ (λ v. choose (agrees sense v) (then_do (perform_block C b p s) (after_body back)) leave)
    (λ v. choose (agrees sense v) (then_do (perform_block C b p s) (after_body back)) leave) (alike_sense 0 C C t e p s).1
    (λ v. alike_choose 0 (agrees sense v) _ leave _ leave (body_alike C t b p s back (alike_back 0)) leave_alike))

pub repeat_again : (C : Context) → AlikeContext 0 C C → (b : Block) (p s : ℕ) → Again1 (repeat_round C b p s)
repeat_again C t b p s = again (repeat_round C b p s) (λ u. body_alike C t b p s back (alike_back 0))

pub repeat_while_again : (C : Context) → AlikeContext 0 C C → (b : Block) (sense : Bool) (e : Exp) (p s : ℕ) → Again1 (repeat_while_round C b sense e p s)
repeat_while_again C t b sense e p s = again (repeat_while_round C b sense e p s) (λ u. body_alike C t b p s (test_round C sense e p s) (test_alike C t sense e p s))

pub for_again : (C : Context) → AlikeContext 0 C C → (limit by : ℕ) (b : Block) (p s : ℕ) → Again1 (for_round C limit by b p s)
for_again C t limit by b p s =
    again (for_round C limit by b p s) (λ u. alike_then 0 _ _ (λ i. choose (holds (end_relation by) i limit) leave (then_do (perform_block C b p (level_in_for s)) (after_body (for_step C by p s))))
    (λ i. choose (holds (end_relation by) i limit) leave (then_do (perform_block C b p (level_in_for s)) (after_body (for_step C by p s)))) (alike_sense 0 C C t (Load (Frame s)) p (level_in_for s)).0
    (λ i. alike_choose 0 (holds (end_relation by) i limit) leave _ leave _ leave_alike (body_alike C t b p (level_in_for s) (for_step C by p s) (step_alike C t by p s))))

pub list_again : (C : Context) → AlikeContext 0 C C → (is : Items) (p s : ℕ) → Again1 (list_round C is p s)
list_again C t is p s =
    again (list_round C is p s) (λ at. alike_then 0 _ _ (after_list (has_label is)) (after_list (has_label is)) (alike_items 0 C C t is p s at) (λ x. alike_after_list 0 (has_label is) x))

-- an assignment to a cell of the frame
at_frame : (calls : Bool) (o : Outcome ℕ) (address : ℕ) (st : State) → second_side calls o (Done address) (λ w a. write a w) st ≡ followed o (λ w. write address w)
at_frame calls (Done w st1) address st = refl
at_frame true (Ended e streams) address st = refl
at_frame false (Ended e streams) address st = refl
at_frame calls (Going streams) address st = refl
at_frame calls Wild address st = refl

pub assign_frame : (C : Context) (e : Exp) (k p s : ℕ) (st : State) → assign C e (Frame k) p s st ≡ followed (value C e p s st) (λ w. write ((p + k) % 65536) w)
assign_frame C e k p s st = at_frame (has_call e || false) (value C e p s st) ((p + k) % 65536) st
