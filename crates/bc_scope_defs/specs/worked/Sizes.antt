-- Worked examples of sizes: frames, the largest frame, and how many places a section may have.
use Rattle.std.specs.Prelude.{ℕ, zero, suc, ◌≡◌, List, [], ◌∷◌, Option, Some, None, refl}
use Rattle.bc_parse_tree.specs.Tree.{Exp, Exps, Declaration, Declarations, Command}
use Rattle.bc_parse_tree.specs.Tree as tree
use Rattle.bc_scope_defs.specs.Faults.{Fault, AFrameTooLarge, ATooManyPlaces, ANotConstant, section_fault}
use Rattle.bc_scope_defs.specs.Examples.{f, g, v, x, y, start, of, number, list, call, set, do_call, plain, body, commands, lets, variables, variable, declarations, alone}
use Rattle.bc_scope_defs.specs.worked.Written.{fault_in, load, minus, plus, index, store, frames}

-- ---- Worked examples

-- the frame of a routine F() = E, and of LET START() BE $( LET X, Y = 1, 2; C $), where X and Y are at 2 and 3 and C
-- is at the level 4
abbrev frame_of : Exp → List ℕ
frame_of e = frames (declarations (lets (tree.Function f [] e ∷ []) ∷ []))

abbrev frame_with : Command → List ℕ
frame_with c = frames (alone (body (lets (variables (x ∷ y ∷ []) (number 1 ∷ number 2 ∷ []) ∷ []) ∷ []) (plain c ∷ [])))

-- only the links; with two parameters
links : frame_of (number 1) ≡ 2 ∷ []
links = refl

parameters : frames (declarations (lets (tree.Function f (x ∷ y ∷ []) (of x) ∷ []) ∷ [])) ≡ 4 ∷ []
parameters = refl

-- X := Y and !X := Y hold nothing
to_operand : (frame_with (set x (of y)) ≡ 4 ∷ []) × (frame_with (store (load (of x)) (of y)) ≡ 4 ∷ [])
to_operand = (refl, refl)

-- !!X := Y: the value is held at 4, and the address at 5
to_content : frame_with (store (load (load (of x))) (of y)) ≡ 6 ∷ []
to_content = refl

-- X!1 := Y: the sum is one level higher, at 5, and uses 5 and 6; !X := Y + 1 uses 4 and 5, X!1 := Y + 1 no more than
-- X!1
to_element : frame_with (store (index (of x) (number 1)) (of y)) ≡ 7 ∷ []
to_element = refl

sum_to_content : frame_with (store (load (of x)) (plus (of y) (number 1))) ≡ 6 ∷ []
sum_to_content = refl

sum_to_element : frame_with (store (index (of x) (number 1)) (plus (of y) (number 1))) ≡ 7 ∷ []
sum_to_element = refl

-- X + Y, X + (Y + 1), (X + 1) + Y: each operand is one level higher
sums : (frame_with (set x (plus (of x) (of y))) ≡ 6 ∷ []) × (frame_with (set x (plus (of x) (plus (of y) (number 1)))) ≡ 7 ∷ [])
    × (frame_with (set x (plus (plus (of x) (number 1)) (of y))) ≡ 7 ∷ [])
sums = (refl, refl, refl)

-- -X, !X and X -> Y, Y hold nothing
unheld : (frame_with (set x (tree.Cond (of x) (of y) (of y))) ≡ 4 ∷ []) × (frame_with (set x (load (of y))) ≡ 4 ∷ [])
unheld = (refl, refl)

-- F(), F(1), F(1, 2, 3) at the level 4: the links of the new frame are at 4 and 5, its arguments from 6 on
calls : (frame_with (do_call f []) ≡ 6 ∷ []) × (frame_with (do_call f (number 1 ∷ [])) ≡ 7 ∷ []) × (frame_with (do_call f (number 1 ∷ number 2 ∷ number 3
    ∷ [])) ≡ 9 ∷ [])
calls = (refl, refl, refl)

-- F(G(1)): the inner call is at 6, where its value will be; in F(1, G(1)) it is at 7
call_in_call : (frame_with (do_call f (call g (number 1 ∷ []) ∷ [])) ≡ 9 ∷ []) × (frame_with (do_call f (number 1 ∷ call g (number 1 ∷ []) ∷ [])) ≡ 10 ∷ [])
call_in_call = (refl, refl)

-- (X + 1)(Y): the routine is computed after the arguments, at 7
routine_value : frame_with (tree.Do (plus (of x) (number 1)) (list (of y ∷ []))) ≡ 9 ∷ []
routine_value = refl

-- X := VALOF $( LET V = 1; RESULTIS V $): its variable is at 4; in 1 + VALOF .. it is at 5
abbrev worked_out : Exp
worked_out = tree.Valof (body (variable v (number 1) ∷ []) (plain (tree.ResultIs (of v)) ∷ []))

valofs : (frame_with (set x worked_out) ≡ 5 ∷ []) × (frame_with (set x (plus (number 1) worked_out)) ≡ 6 ∷ []) × (frame_of worked_out ≡ 3 ∷ [])
valofs = (refl, refl, refl)

-- a VALOF without variables holds nothing: X := VALOF RESULTIS 1
empty_valof : frame_with (set x (tree.Valof (commands (tree.ResultIs (number 1) ∷ [])))) ≡ 4 ∷ []
empty_valof = refl

-- FOR V = 1 TO 2 DO $( $): the variable is at 4, the limit at 5, and the FOR's own test and step are at the level 6
fors : frame_with (tree.For v (number 1) (number 2) (commands [])) ≡ 8 ∷ []
fors = refl

-- in its body the call is at 6: FOR V = 1 TO 2 DO F(V)
call_in_for : frame_with (tree.For v (number 1) (number 2) (commands (do_call f (of v ∷ []) ∷ []))) ≡ 9 ∷ []
call_in_for = refl

-- $( LET V = 1 $) twice, one after the other and one inside the other
abbrev inner : Command → Command
inner c = tree.Compound (body (variable v (number 1) ∷ []) (plain c ∷ []))

blocks : (frames (alone (commands (inner tree.Return ∷ inner tree.Return ∷ []))) ≡ 3 ∷ []) × (frames (alone (commands (inner (inner tree.Return) ∷ [])))
    ≡ 4 ∷ [])
blocks = (refl, refl)

-- LET V = VEC 3: its own cell, and four more
vector : frames (alone (body (lets (tree.Vector v (number 3) ∷ []) ∷ []) [])) ≡ 7 ∷ []
vector = refl

-- a nested routine has its own frame: LET START() BE $( LET X = 1; LET F(Y) = Y + 1 $)
nested : frames (alone (body (variable x (number 1) ∷ lets (tree.Function f (y ∷ []) (plus (of y) (number 1)) ∷ []) ∷ []) [])) ≡ 3 ∷ 5 ∷ []
nested = refl

-- The largest frame has 32,768 cells

abbrev with_vectors : List Declaration → Option Fault
with_vectors ds = fault_in (body ds [])

abbrev vec : ℕ → Declaration
vec k = lets (tree.Vector v (number k) ∷ [])

-- LET V = VEC 32764, VEC 32765, and VEC -1, which is VEC 65535
widest : (with_vectors (vec 32764 ∷ []) ≡ None) × (with_vectors (vec 32765 ∷ []) ≡ Some AFrameTooLarge)
widest = (refl, refl)

unsigned : with_vectors (lets (tree.Vector v (minus (number 1)) ∷ []) ∷ []) ≡ Some AFrameTooLarge
unsigned = refl

-- two of 20,000 in one block are too many, but not in two blocks
in_one_block : with_vectors (vec 20000 ∷ vec 20000 ∷ []) ≡ Some AFrameTooLarge
in_one_block = refl

abbrev with_block : Command
with_block = tree.Compound (body (vec 20000 ∷ []) [])

in_two_blocks : fault_in (commands (with_block ∷ with_block ∷ [])) ≡ None
in_two_blocks = refl

-- in two routines they aren't either: LET START() BE $( LET V = VEC 20000; LET F() BE $( LET V = VEC 20000 $) $)
in_two_routines : with_vectors (vec 20000 ∷ lets (tree.Routine f [] (body (vec 20000 ∷ []) []) ∷ []) ∷ []) ≡ None
in_two_routines = refl

-- a routine's operators count too: LET V = VEC 32764 and V := V + 1
with_operator : fault_in (body (vec 32764 ∷ []) (plain (set v (plus (of v) (number 1))) ∷ [])) ≡ Some AFrameTooLarge
with_operator = refl

with_assignment : fault_in (body (vec 32764 ∷ []) (plain (set v (number 1)) ∷ [])) ≡ None
with_assignment = refl

-- places: START(T, T, ..) in START, with a number of tables T = TABLE 0
abbrev tables : ℕ → Exps
tables zero = tree.none
tables (suc n) = tree.more (tree.Table (list (number 0 ∷ []))) (tables n)

abbrev with_tables : ℕ → Declarations
with_tables n = alone (commands (tree.Do (of start) (tables n) ∷ []))

-- 8,000 places are START and 7,999 tables; and one more
most_places : section_fault (with_tables 7999) ≡ None
most_places = refl

one_place_more : section_fault (with_tables 8000) ≡ Some ATooManyPlaces
one_place_more = refl

-- a frame that is too large comes before too many places: LET START() BE $( LET V = VEC 32765; START(T, ..) $)
frame_first : section_fault (alone (body (vec 32765 ∷ []) (plain (tree.Do (of start) (tables 8000)) ∷ []))) ≡ Some AFrameTooLarge
frame_first = refl

-- a fault of names comes before both: LET START() BE $( LET V = VEC V; START(T, ..) $)
names_first : section_fault (alone (body (lets (tree.Vector v (of v) ∷ []) ∷ []) (plain (tree.Do (of start) (tables 8000)) ∷ []))) ≡ Some ANotConstant
names_first = refl
