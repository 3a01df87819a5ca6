-- Worked examples: which runs are wild, which end by a zero divisor, and which run out of turns first.
use Rattle.std.specs.Prelude.{◌≡◌, ℕ, ◌+◌, true, false, List, [], ◌∷◌, Some, None, refl}
use Rattle.bc_word.specs.declared.operator.Op.TheVariants.{Add, Divide, Equal}
use Rattle.bc_machine_defs.specs.StreamStart.{start_streams}
use Rattle.bc_machine_defs.specs.Streams.{Content}
use Rattle.bc_core.specs.Tree.{Exp, Num, Frame, Glob, Place, Load, Bin, no_argument, Call}
use Rattle.bc_core.specs.Commands.{Initial, Vector, block, no_item, command, label, Gives, Does, Core}
use Rattle.bc_core.specs.Commands as c
use Rattle.bc_core.specs.Store.{Dead, Unset, Set}
use Rattle.bc_core.specs.Outcome.{State, Outcome, Done, Run, ZeroDivide}
use Rattle.bc_core.specs.Outcome as outcomes
use Rattle.bc_core.specs.Value.{Context, value}
use Rattle.bc_core.specs.Meaning.{Ended, Going, Wild, in_frame}
use Rattle.bc_core.specs.worked.Written.{at, routine, run_sections, starting, run_with, run, printed, call, digit, list, commands, let_in, set_to, more, where_is}

-- ---- Worked examples

-- in a frame at 0 whose cell at 2 holds 7 and whose cell at 3 is unset; every call gives 1
abbrev before : State
before = record { cells = Dead ∷ Dead ∷ Set 7 ∷ Unset ∷ []; streams = start_streams [] []; turns = 0 }

abbrev answering : Context
answering = record { place = λ m. m; call = λ r vs f. Done 1; valof = λ n p s. outcomes.wild }

abbrev value_here : Exp → Outcome ℕ
value_here e = value answering e 0 4 before

abbrev zero_divide : Exp
zero_divide = Bin Divide (Num 1) (Num 0)

abbrev f : Exp
f = Call no_argument (Num 5)

-- `1/0 + (!u + F())` ends by a zero divisor: one side has a call, so the left side, which comes first, ends the run
call_on_the_right : value_here (Bin Add zero_divide (Bin Add (at 3) f)) ≡ outcomes.Ended ZeroDivide (start_streams [] [])
call_on_the_right = refl

-- `(1/0 + !u) + F()` is wild: the inner sum has no call
wild_on_the_left : value_here (Bin Add (Bin Add zero_divide (at 3)) f) ≡ outcomes.Wild
wild_on_the_left = refl

calls_alone : value_here (Bin Add f f) ≡ Done 2 before
calls_alone = refl

-- a frame that ends at the last address, and one that would pass it
abbrev two_turns : State
two_turns = record before { turns = 2 }

abbrev answer : Run ℕ
answer = Done 1

frame_fits : in_frame 65530 6 answer two_turns ≡ Done 1 (record before { turns = 1 })
frame_fits = refl

frame_is_too_large : in_frame 65530 7 answer two_turns ≡ outcomes.Wild
frame_is_too_large = refl

-- a call that would be wild is wild even if no turn remains; one that wouldn't is going
no_turn_left : in_frame 65530 6 answer before ≡ outcomes.Going (start_streams [] [])
no_turn_left = refl

wild_without_a_turn : in_frame 65530 7 answer before ≡ outcomes.Wild
wild_without_a_turn = refl

-- `3()` after the call of START, which takes the last turn
wild_call_at_the_last_turn : run_sections (starting [] [] (commands (c.Call (call (Num 3) []) ∷ [])) ∷ []) 1 ≡ Wild
wild_call_at_the_last_turn = refl

call_at_the_last_turn : run_sections (starting [] [] (commands (digit (Num 3) ∷ [])) ∷ []) 1 ≡ Going ([] ∷ [])
call_at_the_last_turn = refl

-- no section sets global 1
no_start : run_sections (record { places = routine None 0 (Does (commands [])) ∷ []; valofs = [] } ∷ []) 100 ≡ Wild
no_start = refl

-- WRCH without its argument
missing_argument : run (commands (c.Call (call (Load (Glob 14)) []) ∷ [])) ≡ Wild
missing_argument = refl

-- P := @X in a block that was left: the cell isn't live, neither for reading nor for writing
dead_cell : run (let_in (Initial (Num 0) ∷ []) (c.Nested (let_in (Initial (Num 1) ∷ []) (set_to 2 (Frame 3) ∷ [])) ∷ digit (Load (at 2)) ∷ [])) ≡ Wild
dead_cell = refl

sets_a_dead_cell :
    run (let_in (Initial (Num 0) ∷ []) (c.Nested (let_in (Initial (Num 1) ∷ []) (set_to 2 (Frame 3) ∷ [])) ∷ c.Assign (Num 1) (at 2) ∷ [])) ≡ Wild
sets_a_dead_cell = refl

-- LET I = 0; A: $( LET V = VEC 0; IF I = 1 digit V!0; V!0 := 5; I := 1; GOTO A $): V!0 is unset when control comes
-- back
back_to_unset_cells : run (block ((Initial (Num 0) ∷ []) ∷ []) (label 0 (list
    (c.Nested (let_in (Vector 0 ∷ []) (where_is 2 1 (digit (Load (at 3))) ∷ c.Assign (Num 5) (at 3) ∷ set_to 2 (Num 1) ∷ c.Goto 0 ∷ [])) ∷ [])))) ≡ Wild
back_to_unset_cells = refl

-- the address of a routine isn't a cell
sets_a_routine : run_with (routine None 0 (Does (commands [])) ∷ []) [] (commands (c.Assign (Num 1) (Place 2) ∷ [])) ≡ Wild
sets_a_routine = refl
