-- Worked examples: the roots of each form in the order of the code, with their levels, targets and first labels.
use Rattle.std.specs.Prelude.{◌≡◌, ℕ, ◌+◌, true, false, List, [], ◌∷◌, refl}
use Rattle.bc_word.specs.declared.operator.Op.TheVariants.{Add, Less, Greater}
use Rattle.bc_core.specs.Tree.{Exp, Num, Frame, Load, Bin, Root, Value, Test, Assign}
use Rattle.bc_core.specs.Commands.{Initial, Vector, Command, Block, block, no_item, command, case, Gives}
use Rattle.bc_core.specs.Commands as commands
use Rattle.bc_gen_defs.specs.Emit.{Roots, emit, emit_block}
use Rattle.bc_gen_defs.specs.Bodies.{body_exits, emit_body}

-- ---- Worked examples

-- an item, or a root with its target and its first label
pub data Seen : Type 0 where
  an_item : Seen
  a_root : Root → (target first : ℕ) → Seen

-- each root takes one label here
abbrev seen : Roots Seen
seen r target first = (a_root r target first ∷ [], first + 1)

abbrev only_roots : List Seen → List Seen
only_roots [] = []
only_roots (an_item ∷ ss) = only_roots ss
only_roots (a_root r target first ∷ ss) = a_root r target first ∷ only_roots ss

-- the roots of a command, with the next free offset 2 and the next free label 5
abbrev roots_of : Command → List Seen
roots_of c = only_roots (emit (λ i. an_item) seen c 2 (body_exits 0) 5).0

abbrev roots_of_block : Block → List Seen
roots_of_block b = only_roots (emit_block (λ i. an_item) seen b 2 (body_exits 0) 5).0

abbrev at : ℕ → Exp
at k = Load (Frame k)

abbrev nothing : Block
nothing = block [] no_item

-- a call of the number 7
abbrev calls : Block
calls = block [] (command (commands.Call (Num 7)) no_item)

-- a call; `x := 1` with x at offset 2
call : roots_of (commands.Call (Num 7)) ≡ a_root (Value 2 (Num 7)) 0 5 ∷ []
call = refl

assignment : roots_of (commands.Assign (Num 1) (Frame 2)) ≡ a_root (Assign 2 (Num 1) (Frame 2)) 0 5 ∷ []
assignment = refl

-- `IF 1 DO $( $)` jumps past the body if 1 is false, `UNLESS 1 DO $( $)` if it is true
if_root : roots_of (commands.If true (Num 1) nothing) ≡ a_root (Test 2 false (Num 1)) 5 6 ∷ []
if_root = refl

unless_root : roots_of (commands.If false (Num 1) nothing) ≡ a_root (Test 2 true (Num 1)) 5 6 ∷ []
unless_root = refl

test_root : roots_of (commands.Test (Num 1) nothing nothing) ≡ a_root (Test 2 false (Num 1)) 5 7 ∷ []
test_root = refl

-- WHILE and UNTIL jump out of the loop, REPEATWHILE and REPEATUNTIL back
while_root : roots_of (commands.While true (Num 1) nothing) ≡ a_root (Test 2 false (Num 1)) 6 7 ∷ []
while_root = refl

until_root : roots_of (commands.While false (Num 1) nothing) ≡ a_root (Test 2 true (Num 1)) 6 7 ∷ []
until_root = refl

repeat_while_root : roots_of (commands.RepeatWhile nothing true (Num 1)) ≡ a_root (Test 2 true (Num 1)) 5 8 ∷ []
repeat_while_root = refl

repeat_until_root : roots_of (commands.RepeatWhile nothing false (Num 1)) ≡ a_root (Test 2 false (Num 1)) 5 8 ∷ []
repeat_until_root = refl

repeat_root : roots_of (commands.Repeat nothing) ≡ []
repeat_root = refl

-- `FOR I = 1 TO 9 BY 3 DO 7()`: I is at offset 2, its limit at 3, and all roots are at level 4
for_roots : roots_of (commands.For (Num 1) (Num 9) 3 calls)
    ≡ a_root (Assign 4 (Num 1) (Frame 2)) 0 8 ∷ a_root (Assign 4 (Num 9) (Frame 3)) 0 9 ∷ a_root (Test 4 true (Bin Greater (at 2) (at 3))) 6 10
    ∷ a_root (Value 4 (Num 7)) 0 11 ∷ a_root (Assign 4 (Bin Add (at 2) (Num 3)) (Frame 2)) 0 12 ∷ []
for_roots = refl

-- its test depends on the step: less if that is negative, else greater; for BY 0, BY 32767, BY -32768, BY -1
abbrev tests_among : List Seen → List Root
tests_among [] = []
tests_among (a_root (Test s sense e) target first ∷ ss) = Test s sense e ∷ tests_among ss
tests_among (s ∷ ss) = tests_among ss

abbrev test_by : ℕ → List Root
test_by k = tests_among (roots_of (commands.For (Num 1) (Num 9) k nothing))

up : (test_by 0 ≡ Test 4 true (Bin Greater (at 2) (at 3)) ∷ []) × (test_by 32767 ≡ Test 4 true (Bin Greater (at 2) (at 3)) ∷ [])
up = (refl, refl)

down : (test_by 32768 ≡ Test 4 true (Bin Less (at 2) (at 3)) ∷ []) × (test_by 65535 ≡ Test 4 true (Bin Less (at 2) (at 3)) ∷ [])
down = (refl, refl)

-- `SWITCHON 1 INTO $( CASE 3: 7() $)`: the labels of the end and of the case come before the value's
switch_roots : roots_of (commands.SwitchOn (Num 1) (case 3 (command (commands.Call (Num 7)) no_item)))
    ≡ a_root (Value 2 (Num 1)) 0 7 ∷ a_root (Value 2 (Num 7)) 0 8 ∷ []
switch_roots = refl

-- `RESULTIS 1`; the other jumps have no root
result_root : roots_of (commands.ResultIs (Num 1)) ≡ a_root (Value 2 (Num 1)) 0 5 ∷ []
result_root = refl

jumps : (roots_of commands.Break ≡ []) × (roots_of commands.Return ≡ []) × (roots_of (commands.Goto 1) ≡ []) × (roots_of commands.Finish ≡ [])
jumps = (refl, refl, refl, refl)

-- `$( LET A, B = 1, 2; 7() $)`: both initial values are at the level after both cells
let_roots : roots_of_block (block ((Initial (Num 1) ∷ Initial (Num 2) ∷ []) ∷ []) (command (commands.Call (Num 7)) no_item))
    ≡ a_root (Assign 4 (Num 1) (Frame 2)) 0 5 ∷ a_root (Assign 4 (Num 2) (Frame 3)) 0 6 ∷ a_root (Value 4 (Num 7)) 0 7 ∷ []
let_roots = refl

-- `$( LET A = 1; LET B = 2; 7() $)`: the first initial value is at the level after its own cell only
two_lets : roots_of_block (block ((Initial (Num 1) ∷ []) ∷ (Initial (Num 2) ∷ []) ∷ []) (command (commands.Call (Num 7)) no_item))
    ≡ a_root (Assign 3 (Num 1) (Frame 2)) 0 5 ∷ a_root (Assign 4 (Num 2) (Frame 3)) 0 6 ∷ a_root (Value 4 (Num 7)) 0 7 ∷ []
two_lets = refl

-- `$( LET V = VEC 3 AND A = 1 $)`: V at 2 holds the address of the cell after it; A comes after V!3, at 7
vector_roots : roots_of_block (block ((Vector 3 ∷ Initial (Num 1) ∷ []) ∷ []) no_item) ≡ a_root (Assign 8 (Frame 3) (Frame 2)) 0 5 ∷ a_root (Assign 8
    (Num 1) (Frame 7)) 0 6 ∷ []
vector_roots = refl

-- `$( $( LET A = 1 $); 7() $)`: the cells of the inner block are free again after it
given_back : roots_of_block (block [] (command (commands.Nested (block ((Initial (Num 1) ∷ []) ∷ []) no_item)) (command (commands.Call (Num 7)) no_item)))
    ≡ a_root (Assign 3 (Num 1) (Frame 2)) 0 5 ∷ a_root (Value 2 (Num 7)) 0 6 ∷ []
given_back = refl

-- `F(A) = 1`: the value is at the level after the parameter
gives_root : only_roots (emit_body (λ i. an_item) seen (Gives (Num 1)) 3 5).0 ≡ a_root (Value 3 (Num 1)) 0 5 ∷ []
gives_root = refl
