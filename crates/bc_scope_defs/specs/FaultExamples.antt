-- Worked examples of faults, from the rules in docs/language.md. For each fault there is a small section that has it,
-- and a similar one that doesn't.
use Rattle.std.specs.Prelude.{ℕ, zero, suc, ◌≡◌, List, [], ◌∷◌, Option, Some, None}
use Rattle.std.proofs.Common.{refl}
use Rattle.bc_parse_tree.specs.declared.tree.Storage.TheVariants as storage
use Rattle.bc_parse_tree.specs.declared.tree.BinaryOp.TheVariants as binary
use Rattle.bc_parse_tree.specs.declared.tree.UnaryOp.TheVariants as unary
use Rattle.bc_parse_tree.specs.Tree.{Exp, Block, Declarations, Definition, Labelled, Labels_alone, Item, no_labels, label, Command}
use Rattle.bc_parse_tree.specs.Tree as tree
use Rattle.bc_scope_defs.specs.Found.{Thing, Data, AStatic, found_in_section}
use Rattle.bc_scope_defs.specs.Faults.{Fault, AnUndeclared, ADeclaredTwice, ADynamicFree, ANotConstant, AGlobalNumber, ANotAssignable, AMisplaced, AFrameTooLarge, ACaseTwice, ATooManyPlaces, or_else, section_fault, frames_fault, places_fault}
use Rattle.bc_scope_defs.specs.Examples.{a, b, f, g, l, v, x, y, start, of, number, two, list, set, do_call, plain, labelled, with_case, items, declarations, body, commands, lets, variables, variable, constants, alone}

-- the fault of `LET START() BE ..`
abbrev fault_in : Block → Option Fault
fault_in c = section_fault (alone c)

abbrev fault_of : Command → Option Fault
fault_of c = fault_in (commands (c ∷ []))

-- `LET F(..) BE RETURN`
abbrev with_parameters : List (List ℕ) → Declarations
with_parameters ps = declarations (lets (tree.Routine f ps (commands (tree.Return ∷ [])) ∷ []) ∷ [])

-- Names

-- `Y := 1` without a Y, and with one
undeclared : fault_of (set y (number 1)) ≡ Some (AnUndeclared y)
undeclared = refl

declared : fault_in (body (variable y (number 0) ∷ []) (plain (set y (number 1)) ∷ [])) ≡ None
declared = refl

-- a variable is in scope in its own initialiser, and no longer after its block
in_own_initialiser : fault_in (body (variable y (of y) ∷ []) []) ≡ None
in_own_initialiser = refl

after_its_block : fault_in (body [] (plain (tree.Compound (body (variable y (number 0) ∷ []) [])) ∷ plain (set y (number 1)) ∷ [])) ≡ Some (AnUndeclared y)
after_its_block = refl

-- `LET F(X, X) BE RETURN`
twice_a_parameter : section_fault (with_parameters (x ∷ x ∷ [])) ≡ Some (ADeclaredTwice x)
twice_a_parameter = refl

two_parameters : section_fault (with_parameters (x ∷ y ∷ [])) ≡ None
two_parameters = refl

-- `LET X = 1 AND X = 2` is refused; in `LET X = 1` and then `LET X = 2` the second one hides the first
twice_in_a_let : fault_in (body (lets (variables (x ∷ []) (number 1 ∷ []) ∷ variables (x ∷ []) (number 2 ∷ []) ∷ []) ∷ []) []) ≡ Some (ADeclaredTwice x)
twice_in_a_let = refl

hides : fault_in (body (variable x (number 1) ∷ variable x (number 2) ∷ []) []) ≡ None
hides = refl

-- `LET G(X) BE $( LET H() BE X := 1; H() $)`, and with a parameter X of H
abbrev nested_routine : List (List ℕ) → Declarations
nested_routine ps =
    declarations (lets (tree.Routine g (x ∷ []) (body (lets (tree.Routine f ps (commands (set x (number 1) ∷ [])) ∷ []) ∷ []) (plain (do_call f []) ∷ []))
    ∷ []) ∷ [])

dynamic_free : section_fault (nested_routine []) ≡ Some (ADynamicFree x)
dynamic_free = refl

own_parameter : section_fault (nested_routine (x ∷ [])) ≡ None
own_parameter = refl

-- DynamicFree needs an enclosing routine. `LET F() = X AND X = 1` outside routines is only a fault at X = 1, and so
-- is `LET F() BE $( LET H() = X; H() $) AND X = 1`.
outside_and_used : section_fault (declarations (lets (tree.Function f [] (of x) ∷ variables (x ∷ []) (number 1 ∷ []) ∷ []) ∷ [])) ≡ Some AMisplaced
outside_and_used = refl

outside_and_set :
    section_fault (declarations (lets (tree.Routine f [] (commands (set x (number 2) ∷ [])) ∷ variables (x ∷ []) (number 1 ∷ []) ∷ []) ∷ [])) ≡ Some AMisplaced
outside_and_set = refl

outside_and_nested :
    section_fault (declarations (lets (tree.Routine f [] (body (lets (tree.Function g [] (of x) ∷ []) ∷ []) (plain (do_call g []) ∷ []))
    ∷ variables (x ∷ []) (number 1 ∷ []) ∷ []) ∷ [])) ≡ Some AMisplaced
outside_and_nested = refl

-- in a routine the same is DynamicFree
inside_and_used : fault_in (body (lets (tree.Function f [] (of x) ∷ variables (x ∷ []) (number 1 ∷ []) ∷ []) ∷ []) []) ≡ Some (ADynamicFree x)
inside_and_used = refl

-- names are checked in text order: `LET A = Y AND A = 1`
text_order : fault_in (body (lets (variables (a ∷ []) (of y ∷ []) ∷ variables (a ∷ []) (number 1 ∷ []) ∷ []) ∷ []) []) ≡ Some (AnUndeclared y)
text_order = refl

-- Constants

-- `MANIFEST $( A = 1/0 $)` and `MANIFEST $( A = 1/1 $)`
abbrev manifest : Exp → Declarations
manifest k = declarations (constants storage.Manifest ((a, k) ∷ []) ∷ [])

divided_by_zero : section_fault (manifest (two binary.Divide (number 1) (number 0))) ≡ Some ANotConstant
divided_by_zero = refl

divided_by_one : section_fault (manifest (two binary.Divide (number 1) (number 1))) ≡ None
divided_by_one = refl

-- in a MANIFEST, a name is a constant only after its own entry
constant_before : section_fault (declarations (constants storage.Manifest ((a, of b) ∷ (b, number 1) ∷ []) ∷ [])) ≡ Some ANotConstant
constant_before = refl

constant_after : section_fault (declarations (constants storage.Manifest ((b, number 1) ∷ (a, of b) ∷ []) ∷ [])) ≡ None
constant_after = refl

-- `LET V = VEC V`: the name is in scope, but isn't a constant
vector_of_itself : fault_in (body (lets (tree.Vector v (of v) ∷ []) ∷ []) []) ≡ Some ANotConstant
vector_of_itself = refl

-- In its constants a name of the declaration is what it will be. A static, a global and a variable are cells, which
-- `@` and `:=` accept, but the whole isn't a constant. A manifest and a routine aren't cells.
abbrev address_of : Exp → Exp
address_of e = tree.Unary unary.Address e

own_static : section_fault (declarations (constants storage.Static ((a, address_of (of a)) ∷ []) ∷ [])) ≡ Some ANotConstant
own_static = refl

own_global : section_fault (declarations (constants storage.Global ((a, address_of (of a)) ∷ []) ∷ [])) ≡ Some ANotConstant
own_global = refl

own_manifest : section_fault (manifest (address_of (of a))) ≡ Some ANotAssignable
own_manifest = refl

-- the same for a name of a later entry
later_static : section_fault (declarations (constants storage.Static ((a, address_of (of b)) ∷ (b, number 1) ∷ []) ∷ [])) ≡ Some ANotConstant
later_static = refl

-- `LET V = VEC @V`, `LET V = VEC VALOF $( V := 1 $)`, `LET V = VEC @F AND F() = 1`
own_vector : fault_in (body (lets (tree.Vector v (address_of (of v)) ∷ []) ∷ []) []) ≡ Some ANotConstant
own_vector = refl

own_vector_set : fault_in (body (lets (tree.Vector v (tree.Valof (commands (set v (number 1) ∷ []))) ∷ []) ∷ []) []) ≡ Some ANotConstant
own_vector_set = refl

own_routine : fault_in (body (lets (tree.Vector v (address_of (of f)) ∷ tree.Function f [] (number 1) ∷ []) ∷ []) []) ≡ Some ANotAssignable
own_routine = refl

-- a routine inside the constant sees the variable as another routine's
own_vector_in_a_routine :
    fault_in (body (lets (tree.Vector v (tree.Valof (body (lets (tree.Function f [] (of v) ∷ []) ∷ []) [])) ∷ []) ∷ []) []) ≡ Some (ADynamicFree v)
own_vector_in_a_routine = refl

-- in a constant a label has no fault of its own, and neither has `@` of it
abbrev label_in_vector : Exp → Option Fault
label_in_vector k = fault_in (body [] (labelled l (tree.Compound (body (lets (tree.Vector v k ∷ []) ∷ []) [])) ∷ []))

label_in_constant : label_in_vector (of l) ≡ Some ANotConstant
label_in_constant = refl

address_of_label : label_in_vector (address_of (of l)) ≡ Some ANotConstant
address_of_label = refl

-- elsewhere a label is no value
label_is_no_value : fault_in (body (variable x (number 0) ∷ []) (labelled l (set x (address_of (of l))) ∷ [])) ≡ Some AMisplaced
label_is_no_value = refl

-- a K that isn't a constant: `FOR X = 1 TO 2 BY Y`, `CASE Y:`, `TABLE Y`, where Y is a variable
abbrev with_variable : Command → Option Fault
with_variable c = fault_in (body (variable y (number 0) ∷ []) (plain c ∷ []))

by_a_variable : with_variable (tree.ForBy x (number 1) (number 2) (of y) (commands [])) ≡ Some ANotConstant
by_a_variable = refl

case_of_a_variable : with_variable (tree.SwitchOn (number 1) (items (Labelled (label (tree.Case (of y)) no_labels) tree.Return ∷ []))) ≡ Some ANotConstant
case_of_a_variable = refl

table_of_a_variable : with_variable (set y (tree.Table (list (of y ∷ [])))) ≡ Some ANotConstant
table_of_a_variable = refl

-- a name in a constant that isn't in scope comes before NotConstant
undeclared_in_constant : section_fault (manifest (two binary.Add (of y) (two binary.Divide (number 1) (number 0)))) ≡ Some (AnUndeclared y)
undeclared_in_constant = refl

global_512 : section_fault (declarations (constants storage.Global ((a, number 512) ∷ []) ∷ [])) ≡ Some (AGlobalNumber a)
global_512 = refl

global_511 : section_fault (declarations (constants storage.Global ((a, number 511) ∷ []) ∷ [])) ≡ None
global_511 = refl

-- assignments: `TRUE := 1`, `!TRUE := 1`; faults of the sides come first

not_assignable : fault_of (tree.Assign (list (tree.True ∷ [])) (list (number 1 ∷ []))) ≡ Some ANotAssignable
not_assignable = refl

assignable : fault_of (tree.Assign (list (tree.Unary unary.Load tree.True ∷ [])) (list (number 1 ∷ []))) ≡ None
assignable = refl

sides_first : fault_of (tree.Assign (list (tree.True ∷ [])) (list (of y ∷ []))) ≡ Some (AnUndeclared y)
sides_first = refl

-- `@X` of a variable, `@!1`, `@(1!2)`, and `@` of something without a cell
abbrev address_taken : Exp → Option Fault
address_taken e = fault_in (body (variable x (number 0) ∷ []) (plain (set x (address_of e)) ∷ []))

address_of_variable : address_taken (of x) ≡ None
address_of_variable = refl

address_of_content : address_taken (tree.Unary unary.Load (number 1)) ≡ None
address_of_content = refl

address_of_indexed : address_taken (two binary.Index (number 1) (number 2)) ≡ None
address_of_indexed = refl

address_of_number : address_taken (number 1) ≡ Some ANotAssignable
address_of_number = refl

address_of_routine : address_taken (of start) ≡ Some ANotAssignable
address_of_routine = refl

address_of_address : address_taken (address_of (of x)) ≡ Some ANotAssignable
address_of_address = refl

address_of_sum : address_taken (two binary.Add (of x) (number 1)) ≡ Some ANotAssignable
address_of_sum = refl

-- Places of commands

break_alone : fault_of tree.Break ≡ Some AMisplaced
break_alone = refl

break_in_a_loop : fault_of (tree.While tree.True (commands (tree.Break ∷ []))) ≡ None
break_in_a_loop = refl

-- BREAK doesn't leave a VALOF, and neither does RETURN; RESULTIS leaves only a VALOF
break_in_valof : fault_of (tree.While (tree.Valof (commands (tree.Break ∷ []))) (commands [])) ≡ Some AMisplaced
break_in_valof = refl

return_in_valof : fault_of (tree.If (tree.Valof (commands (tree.Return ∷ []))) (commands [])) ≡ Some AMisplaced
return_in_valof = refl

result_of_no_valof : fault_of (tree.ResultIs (number 1)) ≡ Some AMisplaced
result_of_no_valof = refl

-- ENDCASE in a loop inside the list is allowed
end_case_in_a_loop : fault_of (tree.SwitchOn (number 1) (items (with_case 1 (tree.Repeat tree.EndCase) ∷ []))) ≡ None
end_case_in_a_loop = refl

-- a variable outside routines is a fault: also in a VALOF there, and in a constant
outside : section_fault (declarations (variable x (number 1) ∷ [])) ≡ Some AMisplaced
outside = refl

outside_in_valof : section_fault (declarations (variable x (tree.Valof (body (variable y (number 1) ∷ []) (plain (do_call g []) ∷ []))) ∷ [])) ≡ Some AMisplaced
outside_in_valof = refl

outside_in_constant : section_fault (manifest (tree.Valof (body (variable y (number 1) ∷ []) []))) ≡ Some AMisplaced
outside_in_constant = refl

-- in a routine inside such a VALOF it isn't
outside_in_routine :
    section_fault (manifest (tree.Valof (body (lets (tree.Routine f [] (body (variable y (number 1) ∷ []) []) ∷ []) ∷ []) []))) ≡ Some ANotConstant
outside_in_routine = refl

-- FOR's start, limit and K are resolved outside, and its variable is in scope only in the body
abbrev counts : (start limit : Exp) → Command → Option Fault
counts a z c = fault_of (tree.For x a z (commands (c ∷ [])))

for_in_start : counts (of x) (number 2) tree.Return ≡ Some (AnUndeclared x)
for_in_start = refl

for_in_limit : counts (number 1) (of x) tree.Return ≡ Some (AnUndeclared x)
for_in_limit = refl

for_in_step : fault_of (tree.ForBy x (number 1) (number 2) (of x) (commands [])) ≡ Some (AnUndeclared x)
for_in_step = refl

for_in_body : counts (number 1) (number 2) (set x (number 3)) ≡ None
for_in_body = refl

for_after_body : fault_in (body [] (plain (tree.For x (number 1) (number 2) (commands [])) ∷ plain (set x (number 1)) ∷ [])) ≡ Some (AnUndeclared x)
for_after_body = refl

-- BREAK in a SWITCHON in a loop is allowed
break_in_switch_in_loop : fault_of (tree.Repeat (tree.SwitchOn (number 1) (items (with_case 1 tree.Break ∷ [])))) ≡ None
break_in_switch_in_loop = refl

break_in_switch : fault_of (tree.SwitchOn (number 1) (items (with_case 1 tree.Break ∷ []))) ≡ Some AMisplaced
break_in_switch = refl

loop_alone : fault_of tree.Loop ≡ Some AMisplaced
loop_alone = refl

end_case_alone : fault_of tree.EndCase ≡ Some AMisplaced
end_case_alone = refl

-- CASE in a list that isn't a SWITCHON's own, CASE 1 twice, DEFAULT twice
case_in_a_block : fault_in (body [] (with_case 1 tree.Return ∷ [])) ≡ Some AMisplaced
case_in_a_block = refl

-- the same deeper in a SWITCHON
case_deeper : fault_of (tree.SwitchOn (number 1) (items (plain (tree.Compound (body [] (with_case 1 tree.Return ∷ []))) ∷ []))) ≡ Some AMisplaced
case_deeper = refl

default_in_a_block : fault_in (body [] (Labelled (label tree.Default no_labels) tree.Return ∷ [])) ≡ Some AMisplaced
default_in_a_block = refl

case_twice : fault_of (tree.SwitchOn (number 3) (items (with_case 1 tree.EndCase ∷ with_case 1 tree.EndCase ∷ []))) ≡ Some ACaseTwice
case_twice = refl

two_cases : fault_of (tree.SwitchOn (number 3) (items (with_case 1 tree.EndCase ∷ with_case 2 tree.EndCase ∷ []))) ≡ None
two_cases = refl

default_twice : fault_of (tree.SwitchOn (number 3) (items (Labels_alone (label tree.Default (label tree.Default no_labels)) ∷ []))) ≡ Some ACaseTwice
default_twice = refl

-- Labels and GOTO

goto_nowhere : fault_of (tree.Goto l) ≡ Some (AnUndeclared l)
goto_nowhere = refl

goto_label : fault_in (body [] (labelled l tree.Return ∷ plain (tree.Goto l) ∷ [])) ≡ None
goto_label = refl

label_twice : fault_in (body [] (Labels_alone (label (tree.Named l) no_labels) ∷ labelled l tree.Return ∷ [])) ≡ Some (ADeclaredTwice l)
label_twice = refl

-- a label of a nested block isn't in scope outside it
label_inside : fault_in (body [] (plain (tree.Compound (body [] (labelled l tree.Return ∷ []))) ∷ plain (tree.Goto l) ∷ [])) ≡ Some (AnUndeclared l)
label_inside = refl

-- a label of the enclosing routine, one outside a VALOF, a name that isn't a label, and an assignment to a label
label_of_another : fault_in (body []
    (labelled l (tree.Compound (body (lets (tree.Routine f [] (commands (tree.Goto l ∷ [])) ∷ []) ∷ []) (plain (do_call f []) ∷ []))) ∷ []))
    ≡ Some (ADynamicFree l)
label_of_another = refl

goto_out_of_valof : fault_in (body (variable x (number 0) ∷ []) (labelled l (set x (tree.Valof (commands (tree.Goto l ∷ [])))) ∷ [])) ≡ Some AMisplaced
goto_out_of_valof = refl

goto_routine : fault_of (tree.Goto start) ≡ Some AMisplaced
goto_routine = refl

-- a variable, also one of an enclosing routine
goto_variable : fault_in (body (variable x (number 0) ∷ []) (plain (tree.Goto x) ∷ [])) ≡ Some AMisplaced
goto_variable = refl

goto_variable_of_another : fault_in (body (variable x (number 0) ∷ lets (tree.Routine f [] (commands (tree.Goto x ∷ [])) ∷ []) ∷ []) []) ≡ Some AMisplaced
goto_variable_of_another = refl

-- a label isn't in scope in the declarations of its own block; a label in a VALOF outside routines doesn't belong to
-- an enclosing routine
label_in_declarations : fault_in (body (variable x (of l) ∷ []) (labelled l tree.Return ∷ [])) ≡ Some (AnUndeclared l)
label_in_declarations = refl

abbrev goes_out : Definition
goes_out = tree.Routine f [] (commands (tree.Goto l ∷ []))

label_outside : section_fault (manifest (tree.Valof (body [] (labelled l (tree.Compound (body (lets (goes_out ∷ []) ∷ []) [])) ∷ [])))) ≡ Some AMisplaced
label_outside = refl

label_is_set : fault_in (body [] (labelled l (set l (number 1)) ∷ [])) ≡ Some AMisplaced
label_is_set = refl

-- Sizes

abbrev with_vector : ℕ → Declarations
with_vector k = alone (body (lets (tree.Vector v (number k) ∷ []) ∷ []) [])

-- `LET V = VEC 32764` first in START is accepted, `VEC 32765` isn't
abbrev vector : ℕ → Option Fault
vector k = section_fault (with_vector k)

widest_vector : vector 32764 ≡ None
widest_vector = refl

frame_too_large : vector 32765 ≡ Some AFrameTooLarge
frame_too_large = refl

-- 8,000 places, and one more
abbrev statics : ℕ → List Thing
statics zero = []
statics (suc n) = Data n (AStatic 0) ∷ statics n

most_places : places_fault (statics 8000) ≡ None
most_places = refl

too_many_places : places_fault (statics 8001) ≡ Some ATooManyPlaces
too_many_places = refl

-- a frame that is too large comes before too many places
large_and_many : or_else (frames_fault (found_in_section (with_vector 32765))) (places_fault (statics 8001)) ≡ Some AFrameTooLarge
large_and_many = refl
