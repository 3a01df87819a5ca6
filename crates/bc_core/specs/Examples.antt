-- Worked examples of the meaning. The expected values follow from the rules in docs/language.md.
use Rattle.std.specs.Prelude.{ℕ, Bool, ◌≡◌, ◌+◌, List, [], ◌∷◌, Option, Some, None, true, false}
use Rattle.std.proofs.Common.{refl}
use Rattle.bc_word.specs.declared.operator.Op.TheVariants.{Add, Subtract, Multiply, Divide, Remainder, Less, Equal, And, ShiftLeft}
use Rattle.bc_machine_defs.specs.StreamStart.{start_streams}
use Rattle.bc_machine_defs.specs.Streams.{Content}
use Rattle.bc_core.specs.Tree.{Exp, Num, Frame, Glob, Place, Load, Neg, Not, Bin, Cond, Call, Valof, Args, no_argument, argument}
use Rattle.bc_core.specs.Commands.{Variable, Initial, Vector, Command, Block, block, Items, no_item, command, case, default, label, Body, Gives, Does, Core, Code}
use Rattle.bc_core.specs.Commands as c
use Rattle.bc_core.specs.Store.{Cell, Dead, Unset, Set}
use Rattle.bc_core.specs.Outcome.{State, Outcome, Done, Finished, ZeroDivide, wild}
use Rattle.bc_core.specs.Outcome as outcomes
use Rattle.bc_core.specs.Value.{Context, value, truth, assign}
use Rattle.bc_core.specs.Layout.{frame_size}
use Rattle.bc_core.specs.WellFormed.{is_core}
use Rattle.bc_core.specs.Words.{string_words}
use Rattle.bc_core.specs.Map.{placed, standing}
use Rattle.bc_core.specs.Start.{cells_from}
use Rattle.bc_core.specs.Meaning.{Result, Ended, Going, Wild, entered_at, meaning_over}

-- Expressions in a frame at 0. Its cells at 2 and 3 hold 7 and 65,535, its cell at 4 is unset, and no other cell is
-- live.

abbrev no_stream : Content
no_stream = start_streams [] []

abbrev with : List Cell → State
with cells = record { cells = cells; streams = no_stream; turns = 0 }

abbrev before : State
before = with (Dead ∷ Dead ∷ Set 7 ∷ Set 65535 ∷ Unset ∷ Dead ∷ Dead ∷ [])

abbrev alone : Context
alone = record { place = λ m. m; call = λ r vs f. wild; valof = λ n p s. wild }

abbrev at : ℕ → Exp
at k = Load (Frame k)

abbrev value_here : Exp → Outcome ℕ
value_here e = value alone e 0 5 before

-- 7 * 6
product : value_here (Bin Multiply (at 2) (Num 6)) ≡ Done 42 before
product = refl

-- sums wrap, and so does the quotient of -32,768 by -1
wrapped_sum : value_here (Bin Add (at 3) (Num 3)) ≡ Done 2 before
wrapped_sum = refl

wrapped_quotient : value_here (Bin Divide (Num 32768) (at 3)) ≡ Done 32768 before
wrapped_quotient = refl

-- -7 REM 2 is -1
remainder : value_here (Bin Remainder (Neg (at 2)) (Num 2)) ≡ Done 65535 before
remainder = refl

-- 1 << 16 is 0
shifted_out : value_here (Bin ShiftLeft (Num 1) (Num 16)) ≡ Done 0 before
shifted_out = refl

-- the address of the cell at 3, and its content
address : value_here (Load (Bin Add (Frame 2) (Num 1))) ≡ Done 65535 before
address = refl

-- x := x + 1
assigned : assign alone (Bin Add (at 2) (Num 1)) (Frame 2) 0 5 before ≡ Done tt (with (Dead ∷ Dead ∷ Set 8 ∷ Set 65535 ∷ Unset ∷ Dead ∷ Dead ∷ []))
assigned = refl

divided_by_zero : value_here (Bin Divide (at 2) (Num 0)) ≡ outcomes.Ended ZeroDivide no_stream
divided_by_zero = refl

-- wild reads: of a cell that isn't live, of an unset cell, and of a cell outside the frame
reads_dead : value_here (at 1) ≡ outcomes.Wild
reads_dead = refl

reads_unset : value_here (at 4) ≡ outcomes.Wild
reads_unset = refl

reads_outside : value_here (Load (Bin Add (Frame 2) (Num 90))) ≡ outcomes.Wild
reads_outside = refl

-- a wild write
writes_outside : assign alone (Num 1) (Frame 6) 0 5 before ≡ outcomes.Wild
writes_outside = refl

-- a wild read outweighs a zero divisor on either side
wild_on_the_right : value_here (Bin Add (Bin Divide (Num 1) (Num 0)) (at 4)) ≡ outcomes.Wild
wild_on_the_right = refl

wild_on_the_left : value_here (Bin Add (at 4) (Bin Divide (Num 1) (Num 0))) ≡ outcomes.Wild
wild_on_the_left = refl

-- the same for the two sides of an assignment; but `!0 := 1/0` never writes
wild_address : assign alone (Bin Divide (Num 1) (Num 0)) (Load (Frame 4)) 0 5 before ≡ outcomes.Wild
wild_address = refl

no_write : assign alone (Bin Divide (Num 1) (Num 0)) (Num 0) 0 5 before ≡ outcomes.Ended ZeroDivide no_stream
no_write = refl

-- in a test position `0 & !u` doesn't evaluate its right operand; elsewhere it does
test_of_and : truth alone (Bin And (Num 0) (at 4)) 0 5 before ≡ Done false before
test_of_and = refl

value_of_and : value_here (Bin And (Num 0) (at 4)) ≡ outcomes.Wild
value_of_and = refl

test_that_ends : truth alone (Bin And (Bin Divide (Num 1) (Num 0)) (at 4)) 0 5 before ≡ outcomes.Ended ZeroDivide no_stream
test_that_ends = refl

-- NOT 1 is false in a test position, and -2 elsewhere
test_of_not : truth alone (Not (Num 1)) 0 5 before ≡ Done false before
test_of_not = refl

value_of_not : value_here (Not (Num 1)) ≡ Done 65534 before
value_of_not = refl

-- Programs: routines with the labels 1, 2, .. at 546, 547, .., the first of which is START, and one output

abbrev routine : Option ℕ → ℕ → Body → c.Place
routine global parameters body = Code (record { global = global; parameters = parameters; body = body })

abbrev run_with : List c.Place → List c.Valof → Block → ℕ → Result
run_with more valofs body n =
    let core : Core = record { places = routine (Some 1) 0 (Does body) ∷ more; valofs = valofs } in
    let program = placed (core ∷ []) ((λ label. 545 + label) ∷ []) in
    meaning_over (cells_from 590 0 (standing program)) (entered_at program) 560 (start_streams [] ((79 ∷ []) ∷ [])) n

abbrev run : Block → Result
run body = run_with [] [] body 100

abbrev printed : List ℕ → Result
printed bytes = Ended (bytes ∷ []) Finished

abbrev call : Exp → List Exp → Exp
call f es = Call (arguments es) f where
  arguments : List Exp → Args
  arguments [] = no_argument
  arguments (e ∷ rest) = argument e (arguments rest)

abbrev print : Exp → Command
print e = c.Call (call (Load (Glob 14)) (e ∷ []))

-- prints a small number as a digit
abbrev print_digit : Exp → Command
print_digit e = print (Bin Add (Num 48) e)

abbrev list : List Command → Items
list [] = no_item
list (x ∷ xs) = command x (list xs)

abbrev commands : List Command → Block
commands xs = block [] (list xs)

-- LET variables, followed by commands, from the offset 2 on
abbrev let_in : List Variable → List Command → Block
let_in vs xs = block (vs ∷ []) (list xs)

abbrev set_to : ℕ → Exp → Command
set_to k e = c.Assign e (Frame k)

prints_A : run (commands (print (Num 65) ∷ [])) ≡ printed (65 ∷ [])
prints_A = refl

-- `WRCH('A'); WRCH(1/0)`
prints_and_divides : run (commands (print (Num 65) ∷ print (Bin Divide (Num 1) (Num 0)) ∷ [])) ≡ Ended ((65 ∷ []) ∷ []) ZeroDivide
prints_and_divides = refl

-- F(X,Y) = X with one argument and with three
missing_argument : run_with (routine None 2 (Gives (at 2)) ∷ []) [] (commands (print (call (Place 2) (Num 66 ∷ [])) ∷ [])) 100 ≡ printed (66 ∷ [])
missing_argument = refl

extra_argument : run_with (routine None 2 (Gives (at 2)) ∷ []) [] (commands (print (call (Place 2) (Num 66 ∷ Num 67 ∷ Num 68 ∷ [])) ∷ [])) 100
    ≡ printed (66 ∷ [])
extra_argument = refl

-- F(X,Y) = Y with one argument reads an unset cell
reads_missing : run_with (routine None 2 (Gives (at 3)) ∷ []) [] (commands (print (call (Place 2) (Num 66 ∷ [])) ∷ [])) 100 ≡ Wild
reads_missing = refl

-- F(N) = N=0 -> 0, N+F(N-1), at 3
recursion :
    run_with (routine None 1 (Gives (Cond (Bin Equal (at 2) (Num 0)) (Num 0) (Bin Add (at 2) (call (Place 2) (Bin Subtract (at 2) (Num 1) ∷ []))))) ∷ [])
    [] (commands (print_digit (call (Place 2) (Num 3 ∷ [])) ∷ [])) 100 ≡ printed (54 ∷ [])
recursion = refl

-- a value that isn't the address of a routine
wild_call : run (commands (c.Call (call (Num 3) []) ∷ [])) ≡ Wild
wild_call = refl

-- `LET X = 0`; WRCH('0' + VALOF $( X := X+1; IF X = 3 RESULTIS X $) REPEAT)
valof_in_loop :
    run_with []
    (record {
      level = 6;
      body = commands
          (c.Repeat (commands (set_to 2 (Bin Add (at 2) (Num 1)) ∷ c.If true (Bin Equal (at 2) (Num 3)) (commands (c.ResultIs (at 2) ∷ [])) ∷ [])) ∷ []);
    }
    ∷ [])
    (let_in (Initial (Num 0) ∷ []) (print_digit (Valof 0) ∷ [])) 100 ≡ printed (51 ∷ [])
valof_in_loop = refl

-- a VALOF without RESULTIS has the value 0
valof_without_result : run_with [] (record { level = 6; body = commands [] } ∷ []) (commands (print_digit (Valof 0) ∷ [])) 100 ≡ printed (48 ∷ [])
valof_without_result = refl

abbrev count_down : Command
count_down = set_to 2 (Bin Subtract (at 2) (Num 1))

-- `LET X = 2`; WHILE X DO $( print X; X := X-1 $)
while_loop : run (let_in (Initial (Num 2) ∷ []) (c.While true (at 2) (commands (print_digit (at 2) ∷ count_down ∷ [])) ∷ [])) ≡ printed (50 ∷ 49 ∷ [])
while_loop = refl

-- `LET X = 0`; $( print X; X := X+1 $) REPEATWHILE X < 2
repeat_while : run (let_in (Initial (Num 0) ∷ []) (c.RepeatWhile (commands (print_digit (at 2) ∷ set_to 2 (Bin Add (at 2) (Num 1)) ∷ [])) true
    (Bin Less (at 2) (Num 2)) ∷ [])) ≡ printed (48 ∷ 49 ∷ [])
repeat_while = refl

abbrev for_loop : ℕ → ℕ → ℕ → List Command → Result
for_loop from to by body = run (commands (c.For (Num from) (Num to) by (commands body) ∷ []))

for_upward : for_loop 1 3 1 (print_digit (at 2) ∷ []) ≡ printed (49 ∷ 50 ∷ 51 ∷ [])
for_upward = refl

-- BY -2
for_downward : for_loop 5 1 65534 (print_digit (at 2) ∷ []) ≡ printed (53 ∷ 51 ∷ 49 ∷ [])
for_downward = refl

for_empty : for_loop 1 0 1 (print_digit (at 2) ∷ []) ≡ printed []
for_empty = refl

-- the body also adds 1 to the variable
for_changed : for_loop 1 4 1 (print_digit (at 2) ∷ set_to 2 (Bin Add (at 2) (Num 1)) ∷ []) ≡ printed (49 ∷ 51 ∷ [])
for_changed = refl

-- IF I = 2 DO LOOP; IF I = 4 DO BREAK; print I
break_and_loop :
    for_loop 1 9 1 (c.If true (Bin Equal (at 2) (Num 2)) (commands (c.Loop ∷ [])) ∷ c.If true (Bin Equal (at 2) (Num 4)) (commands (c.Break ∷ []))
    ∷ print_digit (at 2) ∷ []) ≡ printed (49 ∷ 51 ∷ [])
break_and_loop = refl

-- SWITCHON v INTO $( CASE 1: WRCH('A'); CASE 2: WRCH('B'); ENDCASE; CASE 3: WRCH('C') $)
abbrev switch_on : ℕ → Items → Result
switch_on v rest =
    run (commands (c.SwitchOn (Num v)
    (case 1 (command (print (Num 65)) (case 2 (command (print (Num 66)) (command c.EndCase (case 3 (command (print (Num 67)) rest))))))) ∷ []))

falls_through : switch_on 1 no_item ≡ printed (65 ∷ 66 ∷ [])
falls_through = refl

no_case : switch_on 9 no_item ≡ printed []
no_case = refl

takes_default : switch_on 9 (default (command (print (Num 68)) no_item)) ≡ printed (68 ∷ [])
takes_default = refl

-- the cell after V's own is V!0; in the second round of the loop it is unset again
abbrev vector_twice : Command → Result
vector_twice last = run (commands (c.For (Num 1) (Num 2) 1 (let_in (Vector 0 ∷ []) (c.Assign (Num 65) (at 4) ∷ last ∷ [])) ∷ []))

vector : vector_twice (print (at 5)) ≡ printed (65 ∷ 65 ∷ [])
vector = refl

-- FOR I = 1 TO 2 DO $( LET V = VEC 0; IF I = 2 DO print !V; !V := 65 $)
unset_anew :
    run (commands (c.For (Num 1) (Num 2) 1
    (let_in (Vector 0 ∷ []) (c.If true (Bin Equal (at 2) (Num 2)) (commands (print (Load (at 4)) ∷ [])) ∷ c.Assign (Num 65) (at 4) ∷ [])) ∷ [])) ≡ Wild
unset_anew = refl

-- the cell of a block that was left isn't live: `$( LET X = 1; P := @X $); print !P`
left_block : run (let_in (Initial (Num 0) ∷ []) (c.Nested (let_in (Initial (Num 1) ∷ []) (set_to 2 (Frame 3) ∷ [])) ∷ print (Load (at 2)) ∷ [])) ≡ Wild
left_block = refl

-- L: WRCH('A'); GOTO L in 6 turns: the call of START takes one, and so does each WRCH and each GOTO
goes_on : run_with [] [] (block [] (label 0 (command (print (Num 65)) (command (c.Goto 0) no_item)))) 6 ≡ Going ((65 ∷ 65 ∷ 65 ∷ []) ∷ [])
goes_on = refl

-- LET I = 0; L: I := I+1; IF I<3 GOTO L; print I
goto_backward :
    run (block ((Initial (Num 0) ∷ []) ∷ [])
    (label 0 (list (set_to 2 (Bin Add (at 2) (Num 1)) ∷ c.If true (Bin Less (at 2) (Num 3)) (commands (c.Goto 0 ∷ [])) ∷ print_digit (at 2) ∷ []))))
    ≡ printed (51 ∷ [])
goto_backward = refl

-- WRCH(RDCH()) twice with the input `h`: the second one is at its end, where RDCH gives -1
abbrev echo : Command
echo = print (call (Load (Glob 13)) [])

reads_input :
    (let core : Core = record { places = routine (Some 1) 0 (Does (commands (echo ∷ echo ∷ []))) ∷ []; valofs = [] } in
    let program = placed (core ∷ []) ((λ label. 545 + label) ∷ []) in
    meaning_over (cells_from 590 0 (standing program)) (entered_at program) 560 (start_streams ((73 ∷ [], 104 ∷ []) ∷ []) ((79 ∷ []) ∷ [])) 100)
    ≡ printed (104 ∷ 255 ∷ [])
reads_input = refl

-- FINDOUTPUT("O") is 1, FINDOUTPUT("P") is 0
finds_output : run_with (c.Text (79 ∷ []) ∷ []) [] (commands (print_digit (call (Load (Glob 16)) (Place 2 ∷ [])) ∷ [])) 100 ≡ printed (49 ∷ [])
finds_output = refl

finds_none : run_with (c.Text (80 ∷ []) ∷ []) [] (commands (print_digit (call (Load (Glob 16)) (Place 2 ∷ [])) ∷ [])) 100 ≡ printed (48 ∷ [])
finds_none = refl

-- FINISH in a routine that was called
finish : run_with (routine None 0 (Does (commands (c.Finish ∷ []))) ∷ []) [] (commands (c.Call (call (Place 2) []) ∷ print (Num 65) ∷ [])) 100 ≡ printed []
finish = refl

-- no turn remains for START itself
no_turns : run_with [] [] (commands []) 0 ≡ Going ([] ∷ [])
no_turns = refl

-- Frames, data, and what is well formed

-- `LET A,B = 1,2; A := A+B`: the frame has 6 cells
frame_of_sum : frame_size [] (record {
  global = None;
  parameters = 0;
  body = Does (let_in (Initial (Num 1) ∷ Initial (Num 2) ∷ []) (set_to 2 (Bin Add (at 2) (at 3)) ∷ []));
}) ≡ 6
frame_of_sum = refl

-- `FOR I = 1 TO 3 DO WRCH(I)`: the frame has 7 cells
frame_of_for : frame_size [] (record {
  global = None;
  parameters = 0;
  body = Does (commands (c.For (Num 1) (Num 3) 1 (commands (print (at 2) ∷ [])) ∷ []));
}) ≡ 7
frame_of_for = refl

-- `LET V = VEC 32764` fits exactly
greatest_frame : frame_size [] (record { global = None; parameters = 0; body = Does (let_in (Vector 32764 ∷ []) []) }) ≡ 32768
greatest_frame = refl

-- "AB" and ""
packed_string : string_words (65 ∷ 66 ∷ []) ≡ 577 ∷ 16896 ∷ []
packed_string = refl

packed_empty : string_words [] ≡ 0 ∷ []
packed_empty = refl

abbrev fits : Block → Bool
fits b = let core : Core = record { places = routine (Some 1) 0 (Does b) ∷ []; valofs = [] } in is_core core

break_in_loop : fits (commands (c.Repeat (commands (c.Break ∷ [])) ∷ [])) ≡ true
break_in_loop = refl

break_alone : fits (commands (c.Break ∷ [])) ≡ false
break_alone = refl

-- a GOTO into a nested block isn't well formed
goto_inwards : fits (block [] (command (c.Nested (block [] (label 0 no_item))) (command (c.Goto 0) no_item))) ≡ false
goto_inwards = refl

no_such_place : fits (commands (c.Call (call (Place 2) []) ∷ [])) ≡ false
no_such_place = refl

no_such_valof : fits (commands (print (Valof 0) ∷ [])) ≡ false
no_such_valof = refl
