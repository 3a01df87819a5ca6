-- Worked examples of where commands and labels may be.
use Rattle.std.specs.Prelude.{◌≡◌, [], ◌∷◌, Option, Some, None, refl}
use Rattle.bc_parse_tree.specs.declared.tree.BinaryOp.TheVariants as binary
use Rattle.bc_parse_tree.specs.Tree.{Exp, Block, Labels_alone, Labelled, Item, no_labels, label, Command}
use Rattle.bc_parse_tree.specs.Tree as tree
use Rattle.bc_scope_defs.specs.Faults.{Fault, AnUndeclared, ADeclaredTwice, ADynamicFree, ANotConstant, ACaseTwice, AMisplaced, section_fault}
use Rattle.bc_scope_defs.specs.Examples.{f, g, l, x, of, number, two, set, do_call, plain, labelled, with_case, items, body, commands, lets, variable, declarations}
use Rattle.bc_scope_defs.specs.worked.Written.{fault_in, fault_of, minus, plus, cased, by_default, digit, section, manifest, run, printed}

-- ---- Worked examples

abbrev lawful : Command → Type 0
lawful c = fault_of c ≡ None

abbrev misplaced : Command → Type 0
misplaced c = fault_of c ≡ Some AMisplaced

abbrev only : Command → Block
only c = commands (c ∷ [])

-- Loops: BREAK and LOOP in the body of each

abbrev in_loops : Command → Type 0
in_loops c =
    lawful (tree.While tree.True (only c)) × lawful (tree.Until tree.True (only c)) × lawful (tree.Repeat c) × lawful (tree.RepeatWhile c tree.True)
    × lawful (tree.RepeatUntil c tree.True) × lawful (tree.For x (number 1) (number 2) (only c)) × lawful (tree.ForBy x (number 1) (number 2) (number 1)
    (only c))

breaks : in_loops tree.Break
breaks = (refl, refl, refl, refl, refl, refl, refl)

loops : in_loops tree.Loop
loops = (refl, refl, refl, refl, refl, refl, refl)

-- these aren't loops: IF, UNLESS, TEST, a block, SWITCHON
in_no_loop : misplaced (tree.If tree.True (only tree.Loop)) × misplaced (tree.Unless tree.True (only tree.Loop))
    × misplaced (tree.Test tree.True (only tree.Return) (only tree.Loop)) × misplaced (tree.Compound (only tree.Loop))
    × misplaced (tree.SwitchOn (number 1) (items (with_case 1 tree.Loop ∷ [])))
in_no_loop = (refl, refl, refl, refl, refl)

-- after a loop, and in a VALOF in its condition: WHILE TRUE DO $( $); BREAK
after_a_loop : fault_in (commands (tree.While tree.True (commands []) ∷ tree.Break ∷ [])) ≡ Some AMisplaced
after_a_loop = refl

in_a_condition : misplaced (tree.RepeatWhile tree.Return (tree.Valof (only tree.Break)))
in_a_condition = refl

-- a VALOF in a loop's body, and a loop in a VALOF: WHILE TRUE DO X := VALOF BREAK
valof_in_a_loop : fault_in (body (variable x (number 0) ∷ []) (plain (tree.Repeat (set x (tree.Valof (only tree.Break)))) ∷ [])) ≡ Some AMisplaced
valof_in_a_loop = refl

loop_in_valof : fault_in (body (variable x (number 0) ∷ []) (plain (set x (tree.Valof (only (tree.Repeat tree.Break)))) ∷ [])) ≡ None
loop_in_valof = refl

-- a routine in a loop's body: WHILE TRUE DO $( LET F() BE BREAK; F() $)
routine_in_a_loop : fault_of (tree.While tree.True (body (lets (tree.Routine f [] (only tree.Break) ∷ []) ∷ []) [])) ≡ Some AMisplaced
routine_in_a_loop = refl

-- IF in a loop: WHILE TRUE DO IF TRUE DO BREAK
deep_in_a_loop : lawful (tree.While tree.True (only (tree.If tree.True (only tree.Break))))
deep_in_a_loop = refl

-- ENDCASE: in a SWITCHON's list and deeper in it, but not in a loop without one
end_case : lawful (tree.SwitchOn (number 1) (items (with_case 1 tree.EndCase ∷ [])))
end_case = refl

end_case_without_case : lawful (tree.SwitchOn (number 1) (items (plain tree.EndCase ∷ [])))
end_case_without_case = refl

end_case_deeper : lawful (tree.SwitchOn (number 1) (items (with_case 1 (tree.If tree.True (only tree.EndCase)) ∷ [])))
end_case_deeper = refl

end_case_in_a_loop_alone : misplaced (tree.Repeat tree.EndCase)
end_case_in_a_loop_alone = refl

end_case_in_valof : fault_in (body (variable x (number 0) ∷ []) (plain (tree.SwitchOn (number 1) (items (with_case 1 (set x (tree.Valof
    (only tree.EndCase))) ∷ []))) ∷ []))
    ≡ Some AMisplaced
end_case_in_valof = refl

-- in the value of the SWITCHON: SWITCHON VALOF ENDCASE INTO $( $)
end_case_in_value : misplaced (tree.SwitchOn (tree.Valof (only tree.EndCase)) (items []))
end_case_in_value = refl

-- RETURN: in a routine of BE and in a loop in it, but not in `F() = VALOF RETURN`
return_in_loop : lawful (tree.Repeat tree.Return)
return_in_loop = refl

return_in_function : section_fault (declarations (lets (tree.Function f [] (tree.Valof (only tree.Return)) ∷ []) ∷ [])) ≡ Some AMisplaced
return_in_function = refl

-- a routine of BE within that VALOF: LET F() = VALOF $( LET G() BE RETURN; G() $)
return_in_inner_routine :
    section_fault (declarations (lets (tree.Function f [] (tree.Valof (body (lets (tree.Routine g [] (only tree.Return) ∷ []) ∷ []) (plain (do_call g [])
    ∷ []))) ∷ []) ∷ [])) ≡ None
return_in_inner_routine = refl

-- RESULTIS: in a VALOF and in a loop in it, but not in a routine of BE in it
abbrev worked_out : Command → Option Fault
worked_out c = section_fault (declarations (lets (tree.Function f [] (tree.Valof (only c)) ∷ []) ∷ []))

result : worked_out (tree.ResultIs (number 1)) ≡ None
result = refl

result_in_loop : worked_out (tree.Repeat (tree.ResultIs (number 1))) ≡ None
result_in_loop = refl

result_in_routine : worked_out (tree.Compound (body (lets (tree.Routine g [] (only (tree.ResultIs (number 1))) ∷ []) ∷ []) [])) ≡ Some AMisplaced
result_in_routine = refl

-- FINISH may be anywhere
finish : lawful tree.Finish × (worked_out tree.Finish ≡ None)
finish = (refl, refl)

-- CASE and DEFAULT

-- in the list of their own SWITCHON, before a command or without one
cases : lawful (tree.SwitchOn (number 1) (items (with_case 1 tree.EndCase ∷ by_default tree.EndCase ∷ Labels_alone (label (tree.Case
    (number 2)) no_labels) ∷ [])))
cases = refl

-- deeper: in a block, a loop, or an IF of the list
abbrev within : Item → Block
within i = body [] (i ∷ [])

case_in_block : misplaced (tree.SwitchOn (number 1) (items (plain (tree.Compound (within (by_default tree.Return))) ∷ [])))
case_in_block = refl

case_in_loop : misplaced (tree.SwitchOn (number 1) (items (with_case 1 (tree.While tree.True (within (with_case 2 tree.Return))) ∷ [])))
case_in_loop = refl

case_in_if : misplaced (tree.SwitchOn (number 1) (items (with_case 1 (tree.If tree.True (within (with_case 2 tree.Return))) ∷ [])))
case_in_if = refl

-- the list of a nested SWITCHON is separate: the same values may occur there again
case_in_inner : lawful (tree.SwitchOn (number 1) (items (with_case 1 (tree.SwitchOn (number 2) (items (with_case 1 tree.EndCase ∷ by_default tree.EndCase
    ∷ []))) ∷ by_default tree.EndCase ∷ [])))
case_in_inner = refl

-- the values count, not their spelling: CASE 2: and CASE 1 + 1:, CASE 'A': and CASE 65:, CASE -1: and CASE TRUE:
abbrev two_cases : Exp → Exp → Command
two_cases j k = tree.SwitchOn (number 1) (items (cased j tree.EndCase ∷ cased k tree.EndCase ∷ []))

twice : (fault_of (two_cases (number 2) (plus (number 1) (number 1))) ≡ Some ACaseTwice) × (fault_of (two_cases (tree.Character 65) (number 65))
    ≡ Some ACaseTwice)
    × (fault_of (two_cases (minus (number 1)) tree.True) ≡ Some ACaseTwice)
twice = (refl, refl, refl)

not_twice : lawful (two_cases (number 2) (plus (number 1) (number 2))) × lawful (two_cases tree.False tree.True)
not_twice = (refl, refl)

-- two at one command, and with others between them: CASE 1: CASE 1:, and CASE 1: .. CASE 2: .. CASE 1:
twice_at_one : fault_of (tree.SwitchOn (number 1) (items (Labelled (label (tree.Case (number 1)) (label (tree.Case (number 1)) no_labels)) tree.EndCase
    ∷ []))) ≡ Some ACaseTwice
twice_at_one = refl

twice_apart : fault_of (tree.SwitchOn (number 1) (items (with_case 1 tree.EndCase ∷ with_case 2 tree.EndCase ∷ with_case 1 tree.EndCase ∷ [])))
    ≡ Some ACaseTwice
twice_apart = refl

one_default : lawful (tree.SwitchOn (number 1) (items (by_default tree.EndCase ∷ [])))
one_default = refl

two_defaults : fault_of (tree.SwitchOn (number 1) (items (by_default tree.EndCase ∷ with_case 1 tree.EndCase ∷ by_default tree.EndCase ∷ [])))
    ≡ Some ACaseTwice
two_defaults = refl

-- Labels and GOTO

abbrev goto_l : Command
goto_l = tree.Goto l

-- to a label of a list around it: out of a block, a loop or a SWITCHON, and forward
out_of_a_block : fault_in (body [] (labelled l (tree.Compound (only goto_l)) ∷ [])) ≡ None
out_of_a_block = refl

out_of_a_loop : fault_in (body [] (labelled l (tree.For x (number 1) (number 2) (only goto_l)) ∷ [])) ≡ None
out_of_a_loop = refl

out_of_cases : fault_in (body [] (labelled l (tree.SwitchOn (number 1) (items (with_case 1 goto_l ∷ []))) ∷ [])) ≡ None
out_of_cases = refl

forward : fault_in (body [] (plain goto_l ∷ labelled l tree.Return ∷ [])) ≡ None
forward = refl

-- a SWITCHON's list has its own labels: L: in it, and GOTO L there, in its value, and after it
label_of_cases : lawful (tree.SwitchOn (number 1) (items (with_case 1 goto_l ∷ labelled l tree.EndCase ∷ [])))
label_of_cases = refl

label_in_value : fault_of (tree.SwitchOn (of l) (items (labelled l tree.EndCase ∷ []))) ≡ Some (AnUndeclared l)
label_in_value = refl

label_after_cases : fault_in (commands (tree.SwitchOn (number 1) (items (labelled l tree.EndCase ∷ [])) ∷ goto_l ∷ [])) ≡ Some (AnUndeclared l)
label_after_cases = refl

-- such a label is in scope in the list's CASEs, but isn't a constant: CASE L: in the list of L:, and CASE X: without
-- an X
label_in_case : fault_of (tree.SwitchOn (number 1) (items (cased (of l) tree.EndCase ∷ labelled l tree.EndCase ∷ []))) ≡ Some ANotConstant
label_in_case = refl

nothing_in_case : fault_of (tree.SwitchOn (number 1) (items (cased (of x) tree.EndCase ∷ labelled l tree.EndCase ∷ []))) ≡ Some (AnUndeclared x)
nothing_in_case = refl

-- it hides a manifest there: MANIFEST $( L = 1 $); SWITCHON 1 INTO $( CASE L: ENDCASE $), with L: in the list
manifest_in_case : section_fault (section (manifest l 1 ∷ []) (only (tree.SwitchOn (number 1) (items (cased (of l) tree.EndCase ∷ []))))) ≡ None
manifest_in_case = refl

hidden_in_case : section_fault (section (manifest l 1 ∷ []) (only (tree.SwitchOn (number 1) (items (cased (of l) tree.EndCase ∷ labelled l tree.EndCase
    ∷ [])))))
    ≡ Some ANotConstant
hidden_in_case = refl

-- label and CASE at one command, and the same label in a nested list
beside_case : lawful (tree.SwitchOn (number 1) (items (Labelled (label (tree.Named l) (label (tree.Case (number 1)) no_labels)) goto_l ∷ [])))
beside_case = refl

label_again_within : fault_in (body [] (labelled l (tree.Compound (body [] (labelled l goto_l ∷ []))) ∷ [])) ≡ None
label_again_within = refl

label_twice_apart : fault_in (body [] (labelled l tree.Return ∷ plain tree.Return ∷ labelled l tree.Return ∷ [])) ≡ Some (ADeclaredTwice l)
label_twice_apart = refl

-- the inner one counts: L: prints 1, a nested L: prints 2, and the GOTO goes to that one
inner_counts : run (body (variable x (number 0) ∷ []) (labelled l (digit (number 1))
    ∷ plain (tree.Compound (body [] (labelled l (digit (number 2)) ∷ plain (set x (plus (of x) (number 1))) ∷ plain (tree.If (two binary.Less (of x)
    (number 2)) (only goto_l)) ∷ []))) ∷ []))
    ≡ printed (49 ∷ 50 ∷ 50 ∷ [])
inner_counts = refl

-- these hide a label: a variable, a FOR's variable, a routine: L: $( LET L = 1; GOTO L $)
hidden_by_variable : fault_in (body [] (labelled l (tree.Compound (body (variable l (number 1) ∷ []) (plain goto_l ∷ []))) ∷ [])) ≡ Some AMisplaced
hidden_by_variable = refl

hidden_by_for : fault_in (body [] (labelled l (tree.For l (number 1) (number 2) (only goto_l)) ∷ [])) ≡ Some AMisplaced
hidden_by_for = refl

-- FOR L = L TO 2: in the start L is the label, which is no value
label_in_start : fault_in (body [] (labelled l (tree.For l (of l) (number 2) (commands [])) ∷ [])) ≡ Some AMisplaced
label_in_start = refl

-- GOTO out of a VALOF of the list, and inside one
out_of_valof : fault_in (body (variable x (number 0) ∷ []) (labelled l (set x (tree.Valof (only goto_l))) ∷ [])) ≡ Some AMisplaced
out_of_valof = refl

within_valof : fault_in (body (variable x (number 0) ∷ []) (plain (set x (tree.Valof (body [] (labelled l goto_l ∷ [])))) ∷ [])) ≡ None
within_valof = refl

-- a label outside a VALOF, used as a value in it; in a routine in the VALOF it is an enclosing routine's
outside_as_value : fault_in (body (variable x (number 0) ∷ []) (labelled l (set x (tree.Valof (only (tree.ResultIs (of l))))) ∷ [])) ≡ Some AMisplaced
outside_as_value = refl

outside_in_routine : fault_in (body (variable x (number 0) ∷ [])
    (labelled l (set x (tree.Valof (body (lets (tree.Routine f [] (only goto_l) ∷ []) ∷ []) (plain (tree.ResultIs (number 1)) ∷ [])))) ∷ []))
    ≡ Some (ADynamicFree l)
outside_in_routine = refl

-- GOTO to other things than labels: a manifest, a static, a global, a parameter
goto_manifest : section_fault (section (manifest l 1 ∷ []) (only goto_l)) ≡ Some AMisplaced
goto_manifest = refl

goto_parameter : section_fault (declarations (lets (tree.Routine f (l ∷ []) (only goto_l) ∷ []) ∷ [])) ≡ Some AMisplaced
goto_parameter = refl
