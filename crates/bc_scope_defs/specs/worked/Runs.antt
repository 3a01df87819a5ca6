-- Worked examples of what sections mean, command by command, for the trees with names.
use Rattle.std.specs.Prelude.{ℕ, ◌≡◌, codes, map, List, [], ◌∷◌, refl}
use Rattle.bc_parse_tree.specs.declared.tree.Storage.TheVariants as storage
use Rattle.bc_parse_tree.specs.declared.tree.BinaryOp.TheVariants as binary
use Rattle.bc_parse_tree.specs.Tree.{Exp, Definition, Item, Command}
use Rattle.bc_parse_tree.specs.Tree as tree
use Rattle.bc_core.specs.Outcome.{ZeroDivide}
use Rattle.bc_core.specs.Meaning.{Result, Ended, Wild}
use Rattle.bc_scope_defs.specs.Examples.{a, f, l, v, x, y, of, number, two, list, call, set, do_call, plain, labelled, with_case, items, body, commands, lets, variable, constants}
use Rattle.bc_scope_defs.specs.worked.Written.{load, address_of, minus, opposite, plus, index, store, digit, by_default, section, runs, run, printed}

-- ---- Worked examples

-- LET X = 0, followed by these commands
abbrev with_x : List Command → Result
with_x cs = run (body (variable x (number 0) ∷ []) (map plain cs))

abbrev equals : ℕ → Exp
equals n = two binary.Equal (of x) (number n)

abbrev when : Exp → Command → Command
when e c = tree.If e (commands (c ∷ []))

abbrev add_one : Command
add_one = set x (plus (of x) (number 1))

-- loops: X := X + 1; IF X = 4 DO BREAK; IF X = 2 DO LOOP; WRCH('0' + X) prints 1, 3, and after the loop 4
abbrev round : List Command
round = add_one ∷ when (equals 4) tree.Break ∷ when (equals 2) tree.Loop ∷ digit (of x) ∷ []

abbrev counting : Command → Type 0
counting loop = with_x (loop ∷ digit (of x) ∷ []) ≡ printed (49 ∷ 51 ∷ 52 ∷ [])

while_loop : counting (tree.While tree.True (commands round))
while_loop = refl

until_loop : counting (tree.Until tree.False (commands round))
until_loop = refl

repeat_loop : counting (tree.Repeat (tree.Compound (commands round)))
repeat_loop = refl

repeat_while_loop : counting (tree.RepeatWhile (tree.Compound (commands round)) tree.True)
repeat_while_loop = refl

repeat_until_loop : counting (tree.RepeatUntil (tree.Compound (commands round)) tree.False)
repeat_until_loop = refl

-- where loops end: WHILE X < 2 and UNTIL X = 2 test first, X := X + 1 REPEATWHILE X < 2 and REPEATUNTIL X = 2 after
-- the command
ends : (with_x (tree.While (two binary.Less (of x) (number 2)) (commands (add_one ∷ [])) ∷ digit (of x) ∷ []) ≡ printed (50 ∷ []))
    × (with_x (tree.Until (equals 2) (commands (add_one ∷ [])) ∷ digit (of x) ∷ []) ≡ printed (50 ∷ []))
    × (with_x (tree.RepeatWhile add_one (two binary.Less (of x) (number 2)) ∷ digit (of x) ∷ []) ≡ printed (50 ∷ []))
    × (with_x (tree.RepeatUntil add_one (equals 2) ∷ digit (of x) ∷ []) ≡ printed (50 ∷ []))
ends = (refl, refl, refl, refl)

-- with a condition that doesn't hold at first: not at all, and once
at_least : (with_x (tree.While tree.False (commands (add_one ∷ [])) ∷ digit (of x) ∷ []) ≡ printed (48 ∷ []))
    × (with_x (tree.RepeatWhile add_one tree.False ∷ digit (of x) ∷ []) ≡ printed (49 ∷ []))
at_least = (refl, refl)

-- FOR Y = 1 TO 8 BY 3, FOR Y = 8 TO 1 BY -3, FOR Y = 1 TO 0
abbrev for_by : (first last step : Exp) → Result
for_by first last step = run (commands (tree.ForBy y first last step (commands (digit (of y) ∷ [])) ∷ []))

fors : (for_by (number 1) (number 8) (number 3) ≡ printed (49 ∷ 52 ∷ 55 ∷ [])) × (for_by (number 8) (number 1) (minus (number 3))
    ≡ printed (56 ∷ 53 ∷ 50 ∷ []))
    × (for_by (number 1) (number 0) (number 1) ≡ printed [])
fors = (refl, refl, refl)

-- IF, UNLESS and TEST, with 7 and with 0
abbrev marks : Command
marks = digit (number 1)

ifs : (with_x (when (number 7) marks ∷ []) ≡ printed (49 ∷ [])) × (with_x (when (number 0) marks ∷ []) ≡ printed [])
    × (with_x (tree.Unless (number 7) (commands (marks ∷ [])) ∷ []) ≡ printed []) × (with_x (tree.Unless (number 0) (commands (marks ∷ [])) ∷ [])
    ≡ printed (49 ∷ []))
ifs = (refl, refl, refl, refl)

abbrev tested : ℕ → Result
tested n = with_x (tree.Test (number n) (commands (digit (number 1) ∷ [])) (commands (digit (number 2) ∷ [])) ∷ [])

tests : (tested 7 ≡ printed (49 ∷ [])) × (tested 0 ≡ printed (50 ∷ []))
tests = (refl, refl)

-- 7 -> 1, 2, and 0 -> 1, 2
choices : (with_x (digit (tree.Cond (number 7) (number 1) (number 2)) ∷ []) ≡ printed (49 ∷ []))
    × (with_x (digit (tree.Cond (number 0) (number 1) (number 2)) ∷ []) ≡ printed (50 ∷ []))
choices = (refl, refl)

-- SWITCHON n INTO $( CASE 1: print 1; ENDCASE; DEFAULT: print 2; CASE 3: print 3 $); print 4
abbrev switched : ℕ → Result
switched n = with_x (tree.SwitchOn (number n) (items (with_case 1 (digit (number 1)) ∷ plain tree.EndCase ∷ by_default (digit (number 2)) ∷ with_case 3
    (digit (number 3)) ∷ []))
    ∷ digit (number 4) ∷ [])

switches : (switched 1 ≡ printed (49 ∷ 52 ∷ [])) × (switched 9 ≡ printed (50 ∷ 51 ∷ 52 ∷ [])) × (switched 3 ≡ printed (51 ∷ 52 ∷ []))
switches = (refl, refl, refl)

-- FINISH, and RETURN in a routine that was called: print 1; FINISH; print 2, and F(); print 2 with LET F() BE $(
-- print 1; RETURN; print 3 $)
finish : with_x (digit (number 1) ∷ tree.Finish ∷ digit (number 2) ∷ []) ≡ printed (49 ∷ [])
finish = refl

abbrev among : List Definition → List Command → Result
among ds cs = runs (section (lets ds ∷ []) (commands cs))

returns : among (tree.Routine f [] (commands (digit (number 1) ∷ tree.Return ∷ digit (number 3) ∷ [])) ∷ []) (do_call f [] ∷ digit (number 2) ∷ [])
    ≡ printed (49 ∷ 50 ∷ [])
returns = refl

-- a routine of BE has the value 0: print F()
value_of_be : among (tree.Routine f [] (commands []) ∷ []) (digit (call f []) ∷ []) ≡ printed (48 ∷ [])
value_of_be = refl

-- LET F(X) = X = 0 -> 0, X + F(X - 1), called with 3
recursion : among (tree.Function f (x ∷ []) (tree.Cond (equals 0) (number 0) (plus (of x) (call f (two binary.Subtract (of x) (number 1) ∷ [])))) ∷ [])
    (digit (call f (number 3 ∷ [])) ∷ []) ≡ printed (54 ∷ [])
recursion = refl

-- each call has its own X: LET F(X) BE $( IF X DO F(X - 1); print X $), called with 2
own_parameter : among (tree.Routine f (x ∷ []) (commands (when (of x) (do_call f (two binary.Subtract (of x) (number 1) ∷ [])) ∷ digit (of x) ∷ [])) ∷ [])
    (do_call f (number 2 ∷ []) ∷ []) ≡ printed (48 ∷ 49 ∷ 50 ∷ [])
own_parameter = refl

-- arguments are values: LET F(X) BE X := 9, and LET F(X) BE !X := 9 with F(@X)
abbrev with_f : Command → Exp → Result
with_f c e =
    runs (section (lets (tree.Routine f (x ∷ []) (commands (c ∷ [])) ∷ []) ∷ [])
    (body (variable x (number 0) ∷ []) (plain (do_call f (e ∷ [])) ∷ plain (digit (of x)) ∷ [])))

by_value : (with_f (set x (number 9)) (of x) ≡ printed (48 ∷ [])) × (with_f (store (load (of x)) (number 9)) (address_of (of x)) ≡ printed (57 ∷ []))
by_value = (refl, refl)

-- a routine as a value: LET Y = F; Y(3), with F(X) BE print X
routine_as_value : runs (section (lets (tree.Routine f (x ∷ []) (commands (digit (of x) ∷ [])) ∷ []) ∷ []) (body (variable y (of f) ∷ []) (plain
    (do_call y (number 3 ∷ [])) ∷ [])))
    ≡ printed (51 ∷ [])
routine_as_value = refl

-- a nested routine, and a static that it counts in: STATIC $( A = 3 $); LET START() BE $( LET F() BE A := A + 1; F();
-- F(); print A $)
nested_routine : runs (section (constants storage.Static ((a, number 3) ∷ []) ∷ [])
    (body (lets (tree.Routine f [] (commands (set a (plus (of a) (number 1)) ∷ [])) ∷ []) ∷ []) (plain (do_call f []) ∷ plain (do_call f []) ∷ plain
    (digit (of a)) ∷ [])))
    ≡ printed (53 ∷ [])
nested_routine = refl

-- LET V = VEC 1; V!0, V!1 := 1, 2; print V!0; print V!1
abbrev in_vector : List Item → Result
in_vector is = run (body (lets (tree.Vector v (number 1) ∷ []) ∷ []) is)

vectors : in_vector (plain (tree.Assign (list (index (of v) (number 0) ∷ index (of v) (number 1) ∷ [])) (list (number 1 ∷ number 2 ∷ [])))
    ∷ plain (digit (index (of v) (number 0))) ∷ plain (digit (index (of v) (number 1))) ∷ []) ≡ printed (49 ∷ 50 ∷ [])
vectors = refl

-- V!2 isn't one of V's cells: V!1 := 1 and V!2 := 1
after_vector : (in_vector (plain (store (index (of v) (number 1)) (number 1)) ∷ []) ≡ printed []) × (in_vector (plain (store (index (of v) (number 2))
    (number 1)) ∷ []) ≡ Wild)
after_vector = (refl, refl)

-- (TABLE 7, 8)!1; a table is the same for all calls: LET F() = TABLE 1; !F() := 5; print !F()
tables : (with_x (digit (index (tree.Table (list (number 7 ∷ number 8 ∷ []))) (number 1)) ∷ []) ≡ printed (56 ∷ []))
    × (among (tree.Function f [] (tree.Table (list (number 1 ∷ []))) ∷ []) (store (load (call f [])) (number 5) ∷ digit (load (call f [])) ∷ [])
    ≡ printed (53 ∷ []))
tables = (refl, refl)

-- "A*N" has two bytes, which is its first byte: print "A*N"!0 >> 8
strings : with_x (digit (two binary.ShiftRight (index (tree.Text (codes "\"A*N\"")) (number 0)) (number 8)) ∷ []) ≡ printed (50 ∷ [])
strings = refl

-- L: $( LET Y = 5; X := X + 1; IF X < 3 DO GOTO L; print X + Y $) leaves the block, whose Y is set again
out_of_a_block : run (body (variable x (number 0) ∷ []) (labelled l (tree.Compound (body (variable y (number 5) ∷ [])
    (plain add_one ∷ plain (when (two binary.Less (of x) (number 3)) (tree.Goto l)) ∷ plain (digit (plus (of x) (of y))) ∷ []))) ∷ [])) ≡ printed (56 ∷ [])
out_of_a_block = refl

-- GOTO into a SWITCHON's own list: SWITCHON 1 INTO $( L: print 2; ENDCASE; CASE 1: print 1; GOTO L $)
within_cases : with_x (tree.SwitchOn (number 1) (items (labelled l (digit (number 2)) ∷ plain tree.EndCase ∷ with_case 1 (digit (number 1)) ∷ plain
    (tree.Goto l) ∷ [])) ∷ [])
    ≡ printed (49 ∷ 50 ∷ [])
within_cases = refl

-- NOT of a value inverts its bits, NOT of a test its truth: print NOT -2, and IF NOT 1 DO ..
nots : (with_x (digit (opposite (minus (number 2))) ∷ []) ≡ printed (49 ∷ [])) × (with_x (when (opposite (number 1)) marks ∷ []) ≡ printed [])
    × (with_x (when (opposite (number 0)) marks ∷ []) ≡ printed (49 ∷ []))
nots = (refl, refl, refl)

-- IF 1 & 2 DO .. holds, since both are true; the value of 1 & 2 is 0
ands : (with_x (when (two binary.And (number 1) (number 2)) marks ∷ []) ≡ printed (49 ∷ [])) × (with_x (digit (two binary.And (number 1) (number 2))
    ∷ []) ≡ printed (48 ∷ []))
ands = (refl, refl)

-- the right operand of `&` and of the bar isn't evaluated if the left one decides: IF 0 & 1/0 DO .., IF 1 | 1/0 DO
-- ..; elsewhere it is
abbrev fault : Exp
fault = two binary.Divide (number 1) (number 0)

decided : (with_x (when (two binary.And (number 0) fault) marks ∷ []) ≡ printed []) × (with_x (when (two binary.Or (number 1) fault) marks ∷ [])
    ≡ printed (49 ∷ []))
    × (with_x (when (two binary.And (number 1) fault) marks ∷ []) ≡ Ended ([] ∷ []) ZeroDivide) × (with_x (set x (two binary.And (number 0) fault) ∷ [])
    ≡ Ended ([] ∷ []) ZeroDivide)
decided = (refl, refl, refl, refl)

-- 7 REM 0
remainder : with_x (set x (two binary.Remainder (number 7) (number 0)) ∷ []) ≡ Ended ([] ∷ []) ZeroDivide
remainder = refl
