-- Worked examples of text order: which of two faults comes first.
use Rattle.std.specs.Prelude.{◌≡◌, [], ◌∷◌, Option, Some, None, refl}
use Rattle.bc_parse_tree.specs.declared.tree.Storage.TheVariants as storage
use Rattle.bc_parse_tree.specs.declared.tree.BinaryOp.TheVariants as binary
use Rattle.bc_parse_tree.specs.Tree.{Exp, Definition, Command}
use Rattle.bc_parse_tree.specs.Tree as tree
use Rattle.bc_scope_defs.specs.Scope.{Name}
use Rattle.bc_scope_defs.specs.Faults.{Fault, AnUndeclared, ADeclaredTwice, ANotConstant, AGlobalNumber, ANotAssignable, AMisplaced, ACaseTwice, section_fault}
use Rattle.bc_scope_defs.specs.Examples.{a, b, f, l, v, x, y, start, of, number, two, list, set, do_call, plain, labelled, items, body, commands, lets, variables, variable, constants, declarations}
use Rattle.bc_scope_defs.specs.worked.Written.{fault_in, fault_of, address_of, plus, store, cased, by_default}

-- ---- Worked examples

-- The names A, B, X and Y aren't in scope unless a line declares them.

abbrev first_is : Command → Name → Type 0
first_is c n = fault_of c ≡ Some (AnUndeclared n)

abbrev outside : Definition → Option Fault
outside d = section_fault (declarations (lets (d ∷ []) ∷ []))

-- A + B, A -> B, X, and A(B, X): in text order
operands : first_is (do_call start (plus (of a) (of b) ∷ [])) a
operands = refl

choices : first_is (do_call start (tree.Cond (of a) (of b) (of x) ∷ [])) a
choices = refl

second_part : first_is (do_call start (tree.Cond (number 1) (of b) (of x) ∷ [])) b
second_part = refl

-- the routine comes before its arguments: A(B); START(A, B)
calls : first_is (do_call a (of b ∷ [])) a
calls = refl

arguments : first_is (do_call start (of a ∷ of b ∷ [])) a
arguments = refl

-- A := B, and A, B := X, Y: the left sides come first, then the right ones
assigned : first_is (set a (of b)) a
assigned = refl

left_sides : first_is (tree.Assign (list (number 1 ∷ of b ∷ [])) (list (of x ∷ of y ∷ []))) b
left_sides = refl

right_sides : first_is (tree.Assign (list (number 1 ∷ number 1 ∷ [])) (list (of x ∷ of y ∷ []))) x
right_sides = refl

-- NotAssignable comes after them: 1 := X, and 1 := 2
after_sides : (fault_of (store (number 1) (of x)) ≡ Some (AnUndeclared x)) × (fault_of (store (number 1) (number 2)) ≡ Some ANotAssignable)
after_sides = (refl, refl)

-- @(A + 1), and @(1 + 1)
address_of_sum : (fault_of (do_call start (address_of (plus (of a) (number 1)) ∷ [])) ≡ Some (AnUndeclared a))
    × (fault_of (do_call start (address_of (plus (number 1) (number 1)) ∷ [])) ≡ Some ANotAssignable)
address_of_sum = (refl, refl)

-- LET A = Y AND A = 1, and LET A = 1 AND A = Y
undeclared_first : fault_in (body (lets (variables (a ∷ []) (of y ∷ []) ∷ variables (a ∷ []) (number 1 ∷ []) ∷ []) ∷ []) []) ≡ Some (AnUndeclared y)
undeclared_first = refl

twice_first : fault_in (body (lets (variables (a ∷ []) (number 1 ∷ []) ∷ variables (a ∷ []) (of y ∷ []) ∷ []) ∷ []) []) ≡ Some (ADeclaredTwice a)
twice_first = refl

-- LET A, A = Y, 1: the names come first
names_first : fault_in (body (lets (variables (a ∷ a ∷ []) (of y ∷ number 1 ∷ []) ∷ []) ∷ []) []) ≡ Some (ADeclaredTwice a)
names_first = refl

-- outside routines LET A = Y, and LET A = 1
expressions_first : (outside (variables (a ∷ []) (of y ∷ [])) ≡ Some (AnUndeclared y)) × (outside (variables (a ∷ []) (number 1 ∷ [])) ≡ Some AMisplaced)
expressions_first = (refl, refl)

-- LET V = VEC Y, LET V = VEC 1/0, LET V = VEC 1
vectors : (outside (tree.Vector v (of y)) ≡ Some (AnUndeclared y)) × (outside (tree.Vector v (two binary.Divide (number 1) (number 0))) ≡ Some ANotConstant)
    × (outside (tree.Vector v (number 1)) ≡ Some AMisplaced)
vectors = (refl, refl, refl)

-- LET F(A, A) = Y, LET F(A) = Y
parameters_first : (outside (tree.Function f (a ∷ a ∷ []) (of y)) ≡ Some (ADeclaredTwice a)) × (outside (tree.Function f (a ∷ []) (of y))
    ≡ Some (AnUndeclared y))
parameters_first = (refl, refl)

-- LET F() = 1 AND F(A, A) = Y: the routine's name comes before its parameters
name_first : section_fault (declarations (lets (tree.Function f [] (number 1) ∷ tree.Function f (a ∷ a ∷ []) (of y) ∷ []) ∷ [])) ≡ Some (ADeclaredTwice f)
name_first = refl

-- a parameter may have the routine's name: LET F(F) = F
own_name : outside (tree.Function f (f ∷ []) (of f)) ≡ None
own_name = refl

-- GLOBAL $( A:512; A:1 $), GLOBAL $( A:1; A:512 $)
abbrev two_entries : Exp → Exp → Option Fault
two_entries j k = section_fault (declarations (constants storage.Global ((a, j) ∷ (a, k) ∷ []) ∷ []))

entries : (two_entries (number 512) (number 1) ≡ Some (AGlobalNumber a)) × (two_entries (number 1) (number 512) ≡ Some (ADeclaredTwice a))
entries = (refl, refl)

-- GLOBAL $( A:Y; A:1 $), GLOBAL $( A:1/0; A:1 $), GLOBAL $( A:1; A:Y $)
entries_of_names : (two_entries (of y) (number 1) ≡ Some (AnUndeclared y)) × (two_entries (two binary.Divide (number 1) (number 0)) (number 1)
    ≡ Some ANotConstant)
    × (two_entries (number 1) (of y) ≡ Some (ADeclaredTwice a))
entries_of_names = (refl, refl, refl)

-- FOR I = A TO B BY X DO Y := 1: one after the other
abbrev all_of_for : (first last step : Exp) → Command
all_of_for first last step = tree.ForBy v first last step (commands (set y (number 1) ∷ []))

for_start : first_is (all_of_for (of a) (of b) (of x)) a
for_start = refl

for_limit : first_is (all_of_for (number 1) (of b) (of x)) b
for_limit = refl

for_step : first_is (all_of_for (number 1) (number 2) (of x)) x
for_step = refl

for_body : first_is (all_of_for (number 1) (number 2) (number 3)) y
for_body = refl

-- a K that isn't a constant comes before the body: FOR I = 1 TO 2 BY 1/0 DO Y := 1
step_before_body : fault_of (all_of_for (number 1) (number 2) (two binary.Divide (number 1) (number 0))) ≡ Some ANotConstant
step_before_body = refl

-- RESULTIS A, and RESULTIS 1, outside a VALOF; IF A DO BREAK, and IF 1 DO BREAK
results : (fault_of (tree.ResultIs (of a)) ≡ Some (AnUndeclared a)) × (fault_of (tree.ResultIs (number 1)) ≡ Some AMisplaced)
results = (refl, refl)

tested : (fault_of (tree.If (of a) (commands (tree.Break ∷ []))) ≡ Some (AnUndeclared a)) × (fault_of (tree.If (number 1) (commands (tree.Break ∷ [])))
    ≡ Some AMisplaced)
tested = (refl, refl)

-- A := 1 REPEATWHILE B: the command comes first
repeated : first_is (tree.RepeatWhile (set a (number 1)) (of b)) a
repeated = refl

-- TEST A THEN B() ELSE X()
tests : first_is (tree.Test (of a) (commands (do_call b [] ∷ [])) (commands (do_call x [] ∷ []))) a
tests = refl

test_parts : first_is (tree.Test (number 1) (commands (do_call b [] ∷ [])) (commands (do_call x [] ∷ []))) b
test_parts = refl

-- SWITCHON A INTO $( CASE B: X() $)
switched : first_is (tree.SwitchOn (of a) (items (cased (of b) (do_call x []) ∷ []))) a
switched = refl

case_first : first_is (tree.SwitchOn (number 1) (items (cased (of b) (do_call x []) ∷ []))) b
case_first = refl

-- outside a SWITCHON: CASE Y:, CASE 1/0:, CASE 1:; its constant comes first
abbrev in_block : Exp → Option Fault
in_block k = fault_in (body [] (cased k tree.Return ∷ []))

cases : (in_block (of y) ≡ Some (AnUndeclared y)) × (in_block (two binary.Divide (number 1) (number 0)) ≡ Some ANotConstant) × (in_block (number 1)
    ≡ Some AMisplaced)
cases = (refl, refl, refl)

-- CASE 1: CASE 1: in a block is Misplaced at the first one, and so is DEFAULT: DEFAULT:
misplaced_first : (fault_in (body [] (cased (number 1) tree.Return ∷ cased (number 1) tree.Return ∷ [])) ≡ Some AMisplaced)
    × (fault_in (body [] (by_default tree.Return ∷ by_default tree.Return ∷ [])) ≡ Some AMisplaced)
misplaced_first = (refl, refl)

-- CASE 1: A(); CASE 1: B(): the command of the first one comes before the second one
command_between : first_is (tree.SwitchOn (number 1) (items (cased (number 1) (do_call a []) ∷ cased (number 1) (do_call b []) ∷ []))) a
command_between = refl

twice_before_command : fault_of (tree.SwitchOn (number 1) (items (cased (number 1) tree.EndCase ∷ cased (number 1) (do_call b []) ∷ []))) ≡ Some ACaseTwice
twice_before_command = refl

-- L: A(); L: B()
labels_between : fault_in (body [] (labelled l (do_call a []) ∷ labelled l (do_call b []) ∷ [])) ≡ Some (AnUndeclared a)
labels_between = refl

-- declarations come before commands: LET X = A; B()
declarations_first : fault_in (body (variable x (of a) ∷ []) (plain (do_call b []) ∷ [])) ≡ Some (AnUndeclared a)
declarations_first = refl

-- TABLE A, B; TABLE 1/0, B
tables : (fault_of (do_call start (tree.Table (list (of a ∷ of b ∷ [])) ∷ [])) ≡ Some (AnUndeclared a))
    × (fault_of (do_call start (tree.Table (list (two binary.Divide (number 1) (number 0) ∷ of b ∷ [])) ∷ [])) ≡ Some ANotConstant)
tables = (refl, refl)

-- in one constant a name that isn't in scope comes first: TABLE 1/0 + B
within_constant : first_is (do_call start (tree.Table (list (plus (two binary.Divide (number 1) (number 0)) (of b) ∷ [])) ∷ [])) b
within_constant = refl
