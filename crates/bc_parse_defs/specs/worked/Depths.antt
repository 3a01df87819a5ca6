-- Worked examples: how deep trees nest, how deep they may nest, and how many parentheses may be open at once.
use Rattle.std.specs.Prelude.{ℕ, ◌≡◌, List, [], ◌∷◌, Result, Ok, Err, refl, codes}
use Rattle.bc_lex_tokens.specs.declared.symbol.Symbol.TheVariants as sign
use Rattle.bc_parse_tree.specs.Parts.{Part, A}
use Rattle.bc_parse_tree.specs.Tree.{none, no_declarations, declaration, Declarations, no_definitions, definition, Labelled, no_items, item, no_labels, label, Command}
use Rattle.bc_parse_tree.specs.declared.tree.BinaryOp.TheVariants as binary
use Rattle.bc_parse_tree.specs.Tree as tree
use Rattle.bc_parse_tree.specs.Height.{exp_height, command_height, declarations_height}
use Rattle.bc_parse_defs.specs.Reading.{Fault, TooDeep, ◌>>=◌, turns, name_turn, names_read, parameters_read, exps_turn, exps_read, arguments_read, with_operator, with_arguments, with_choice, suffix_read, grow_turn, grow_read, bracket_read, table_read, unary_read, repeated, repeat_turn, repeats_read, label_read, labels_read, entry_read, entry_turn, entries_read, item_read, definition_turn, definitions_read, declaration_read, part_read, place_turn, places_read, block_read, body_of_block, body_read, do_read, valof_read, started_read, operand_read, assigned_read, simple_read, tested_read, test_read, step_read, for_read, switch_read, compound_read, repeatable_read, command_read, variables_read, vector_read, routine_read, shaped_read, defined_read, exp_of, command_of, definition_of, section_of}
use Rattle.bc_parse_defs.specs.worked.Written.{a, b, x, f, the_a, the_b, the_x, the_f, two, minus, list, set, only, many, minuses, in_routine, the_routine}

-- ---- Worked examples

-- A, -A, A + B, (A + B) + -A: one more than the deepest part
expressions : (exp_height the_a ≡ 1) × (exp_height (minus the_a) ≡ 2) × (exp_height (two binary.Add the_a the_b) ≡ 2)
    × (exp_height (two binary.Add (two binary.Add the_a the_b) (minus the_a)) ≡ 3)
expressions = (refl, refl, refl, refl)

-- F() is two deep, and as a command three, since it counts as command and as expression; X := A is two deep, and so
-- is RESULTIS A
commands : (exp_height (tree.Call the_f none) ≡ 2) × (command_height (tree.Do the_f none) ≡ 3) × (command_height (set the_x the_a)
    ≡ 2) × (command_height (tree.ResultIs the_a) ≡ 2)
commands = (refl, refl, refl, refl)

-- with arguments: F(A) and F(-A)
call_commands : (command_height (tree.Do the_f (list (the_a ∷ []))) ≡ 3) × (command_height (tree.Do the_f (list (minus the_a ∷ []))) ≡ 4)
call_commands = (refl, refl)

-- BREAK; IF A DO BREAK; the block $( BREAK $), which counts as a command but not as a body: IF A DO $( BREAK $) is as
-- deep as IF A DO BREAK
blocks : (command_height tree.Break ≡ 1) × (command_height (tree.If the_a (only tree.Break)) ≡ 2) × (command_height (tree.Compound (only tree.Break)) ≡ 2)
    × (command_height (tree.If the_a (only (tree.Compound (only tree.Break)))) ≡ 3)
blocks = (refl, refl, refl, refl)

-- labels add nothing: CASE A: BREAK is as deep as the deeper of the two
labelled : command_height (tree.SwitchOn the_a (item (Labelled (label (tree.Case the_a) no_labels) tree.Break) no_items)) ≡ 2
labelled = refl

-- LET F() BE BREAK, and LET X = A
declarations : (declarations_height (the_routine (only tree.Break)) ≡ 2)
    × (declarations_height (declaration (tree.Let (definition (tree.Variables (codes "X" ∷ []) (list (the_a ∷ []))) no_definitions)) no_declarations) ≡ 2)
declarations = (refl, refl)

-- The depth that a command needs. X := A needs 2; with 1 it is refused at its first part. F() needs 3; with 2 it is
-- refused at its `(`.

abbrev read_in : ℕ → List Part → Result Command Fault
read_in nest ts = command_of 40 nest 20 ts >>= λ p. Ok p.tree

assignment_in : (read_in 2 (x ∷ A sign.Assign ∷ a ∷ []) ≡ Ok (set the_x the_a)) × (read_in 1 (x ∷ A sign.Assign ∷ a ∷ []) ≡ Err (TooDeep 3))
unfolding turns name_turn names_read parameters_read exps_turn exps_read arguments_read with_operator with_arguments with_choice suffix_read grow_turn
    grow_read bracket_read table_read unary_read repeated repeat_turn repeats_read label_read labels_read entry_read entry_turn entries_read
    item_read definition_turn definitions_read declaration_read part_read place_turn places_read block_read body_of_block body_read do_read valof_read
    started_read operand_read assigned_read simple_read tested_read test_read step_read for_read switch_read compound_read repeatable_read
    command_read variables_read vector_read routine_read shaped_read defined_read exp_of command_of definition_of section_of
assignment_in = (refl, refl)

call_in_depth : (read_in 3 (f ∷ A sign.OpenBracket ∷ A sign.CloseBracket ∷ []) ≡ Ok (tree.Do the_f none))
    × (read_in 2 (f ∷ A sign.OpenBracket ∷ A sign.CloseBracket ∷ []) ≡ Err (TooDeep 2))
unfolding turns name_turn names_read parameters_read exps_turn exps_read arguments_read with_operator with_arguments with_choice suffix_read grow_turn
    grow_read bracket_read table_read unary_read repeated repeat_turn repeats_read label_read labels_read entry_read entry_turn entries_read
    item_read definition_turn definitions_read declaration_read part_read place_turn places_read block_read body_of_block body_read do_read valof_read
    started_read operand_read assigned_read simple_read tested_read test_read step_read for_read switch_read compound_read repeatable_read
    command_read variables_read vector_read routine_read shaped_read defined_read exp_of command_of definition_of section_of
call_in_depth = (refl, refl)

-- X := A + B is refused at the operator
sum_in : (read_in 3 (x ∷ A sign.Assign ∷ a ∷ A sign.Plus ∷ b ∷ []) ≡ Ok (set the_x (two binary.Add the_a the_b)))
    × (read_in 2 (x ∷ A sign.Assign ∷ a ∷ A sign.Plus ∷ b ∷ []) ≡ Err (TooDeep 2))
unfolding turns name_turn names_read parameters_read exps_turn exps_read arguments_read with_operator with_arguments with_choice suffix_read grow_turn
    grow_read bracket_read table_read unary_read repeated repeat_turn repeats_read label_read labels_read entry_read entry_turn entries_read
    item_read definition_turn definitions_read declaration_read part_read place_turn places_read block_read body_of_block body_read do_read valof_read
    started_read operand_read assigned_read simple_read tested_read test_read step_read for_read switch_read compound_read repeatable_read
    command_read variables_read vector_read routine_read shaped_read defined_read exp_of command_of definition_of section_of
sum_in = (refl, refl)

-- BREAK REPEAT is refused at REPEAT
repeat_in : (read_in 2 (A sign.Break ∷ A sign.Repeat ∷ []) ≡ Ok (tree.Repeat tree.Break)) × (read_in 1 (A sign.Break ∷ A sign.Repeat ∷ []) ≡ Err (TooDeep 1))
unfolding turns name_turn names_read parameters_read exps_turn exps_read arguments_read with_operator with_arguments with_choice suffix_read grow_turn
    grow_read bracket_read table_read unary_read repeated repeat_turn repeats_read label_read labels_read entry_read entry_turn entries_read
    item_read definition_turn definitions_read declaration_read part_read place_turn places_read block_read body_of_block body_read do_read valof_read
    started_read operand_read assigned_read simple_read tested_read test_read step_read for_read switch_read compound_read repeatable_read
    command_read variables_read vector_read routine_read shaped_read defined_read exp_of command_of definition_of section_of
repeat_in = (refl, refl)

-- LET F() BE X := - - .. A with a number of signs: with 197 of them the definition, the command, the signs and A nest
-- 200 deep
abbrev signed : ℕ → List Part
signed n = in_routine (x ∷ A sign.Assign ∷ many n (A sign.Minus) (a ∷ []))

abbrev the_signed : ℕ → Declarations
the_signed n = the_routine (only (set the_x (minuses n the_a)))

deepest : (declarations_height (the_signed 197) ≡ 200) × (declarations_height (the_signed 198) ≡ 201)
deepest = (refl, refl)

deepest_read : section_of (signed 197) ≡ Ok (the_signed 197)
unfolding turns name_turn names_read parameters_read exps_turn exps_read arguments_read with_operator with_arguments with_choice suffix_read grow_turn
    grow_read bracket_read table_read unary_read repeated repeat_turn repeats_read label_read labels_read entry_read entry_turn entries_read
    item_read definition_turn definitions_read declaration_read part_read place_turn places_read block_read body_of_block body_read do_read valof_read
    started_read operand_read assigned_read simple_read tested_read test_read step_read for_read switch_read compound_read repeatable_read
    command_read variables_read vector_read routine_read shaped_read defined_read exp_of command_of definition_of section_of
deepest_read = refl

-- with 198 it is refused at A
too_deep : section_of (signed 198) ≡ Err (TooDeep 1)
unfolding turns name_turn names_read parameters_read exps_turn exps_read arguments_read with_operator with_arguments with_choice suffix_read grow_turn
    grow_read bracket_read table_read unary_read repeated repeat_turn repeats_read label_read labels_read entry_read entry_turn entries_read
    item_read definition_turn definitions_read declaration_read part_read place_turn places_read block_read body_of_block body_read do_read valof_read
    started_read operand_read assigned_read simple_read tested_read test_read step_read for_read switch_read compound_read repeatable_read
    command_read variables_read vector_read routine_read shaped_read defined_read exp_of command_of definition_of section_of
too_deep = refl

-- LET F() BE X := ((..A..)) with a number of parentheses: 400 may be open at once, and they add nothing to the depth
abbrev bracketed : ℕ → List Part
bracketed n = in_routine (x ∷ A sign.Assign ∷ many n (A sign.OpenBracket) (a ∷ many n (A sign.CloseBracket) []))

most_brackets : section_of (bracketed 400) ≡ Ok (the_routine (only (set the_x the_a)))
unfolding turns name_turn names_read parameters_read exps_turn exps_read arguments_read with_operator with_arguments with_choice suffix_read grow_turn
    grow_read bracket_read table_read unary_read repeated repeat_turn repeats_read label_read labels_read entry_read entry_turn entries_read
    item_read definition_turn definitions_read declaration_read part_read place_turn places_read block_read body_of_block body_read do_read valof_read
    started_read operand_read assigned_read simple_read tested_read test_read step_read for_read switch_read compound_read repeatable_read
    command_read variables_read vector_read routine_read shaped_read defined_read exp_of command_of definition_of section_of
most_brackets = refl

-- with 401 it is refused at the innermost one
one_bracket_more : section_of (bracketed 401) ≡ Err (TooDeep 403)
unfolding turns name_turn names_read parameters_read exps_turn exps_read arguments_read with_operator with_arguments with_choice suffix_read grow_turn
    grow_read bracket_read table_read unary_read repeated repeat_turn repeats_read label_read labels_read entry_read entry_turn entries_read
    item_read definition_turn definitions_read declaration_read part_read place_turn places_read block_read body_of_block body_read do_read valof_read
    started_read operand_read assigned_read simple_read tested_read test_read step_read for_read switch_read compound_read repeatable_read
    command_read variables_read vector_read routine_read shaped_read defined_read exp_of command_of definition_of section_of
one_bracket_more = refl
