-- Worked examples: what is read from expressions and commands, and where others are refused. Faults have the number
-- of parts from their place to the end.
use Rattle.std.specs.Prelude.{◌≡◌, List, [], ◌∷◌, Result, Ok, Err, refl}
use Rattle.bc_lex_tokens.specs.declared.symbol.Symbol.TheVariants as sign
use Rattle.bc_parse_tree.specs.declared.tree.BinaryOp.TheVariants as binary
use Rattle.bc_parse_tree.specs.declared.tree.UnaryOp.TheVariants as unary
use Rattle.bc_parse_tree.specs.Parts.{Part, A, Number, NewLine}
use Rattle.bc_parse_tree.specs.Tree.{Exp, none, block, no_declarations, Labels_alone, Labelled, Items, no_items, item, no_labels, label, Command}
use Rattle.bc_parse_tree.specs.Tree as tree
use Rattle.bc_parse_defs.specs.Reading.{Fault, Expected, Piece, ◌>>=◌, turns, name_turn, names_read, parameters_read, exps_turn, exps_read, arguments_read, with_operator, with_arguments, with_choice, suffix_read, grow_turn, grow_read, bracket_read, table_read, unary_read, repeated, repeat_turn, repeats_read, label_read, labels_read, entry_read, entry_turn, entries_read, item_read, definition_turn, definitions_read, declaration_read, part_read, place_turn, places_read, block_read, body_of_block, body_read, do_read, valof_read, started_read, operand_read, assigned_read, simple_read, tested_read, test_read, step_read, for_read, switch_read, compound_read, repeatable_read, command_read, variables_read, vector_read, routine_read, shaped_read, defined_read, exp_of, command_of, definition_of, section_of}
use Rattle.bc_parse_defs.specs.worked.Written.{a, b, c, x, f, the_a, the_b, the_c, the_x, the_f, two, minus, list, set, only}

-- ---- Worked examples

-- a tree, and the remaining parts
abbrev Read : Type 0 → Type 0
Read T = Result (T × List Part) Fault

abbrev without_height : {T : Type 0} → Result (Piece T) Fault → Read T
without_height r = r >>= λ p. Ok (p.tree, p.rest)

-- an expression of level 1, and a command, each at most 20 deep
abbrev expression : List Part → Read Exp
expression ts = without_height (exp_of 40 20 20 1 ts)

abbrev command : List Part → Read Command
command ts = without_height (command_of 40 20 20 ts)

-- A - B - C groups to the left
to_the_left : expression (a ∷ A sign.Minus ∷ b ∷ A sign.Minus ∷ c ∷ []) ≡ Ok (two binary.Subtract (two binary.Subtract the_a the_b) the_c, [])
unfolding turns name_turn names_read parameters_read exps_turn exps_read arguments_read with_operator with_arguments with_choice suffix_read grow_turn
    grow_read bracket_read table_read unary_read repeated repeat_turn repeats_read label_read labels_read entry_read entry_turn entries_read
    item_read definition_turn definitions_read declaration_read part_read place_turn places_read block_read body_of_block body_read do_read valof_read
    started_read operand_read assigned_read simple_read tested_read test_read step_read for_read switch_read compound_read repeatable_read
    command_read variables_read vector_read routine_read shaped_read defined_read exp_of command_of definition_of section_of
to_the_left = refl

-- A + B * C, A * B + C
by_level : (expression (a ∷ A sign.Plus ∷ b ∷ A sign.Multiply ∷ c ∷ []) ≡ Ok (two binary.Add the_a (two binary.Multiply the_b the_c), []))
    × (expression (a ∷ A sign.Multiply ∷ b ∷ A sign.Plus ∷ c ∷ []) ≡ Ok (two binary.Add (two binary.Multiply the_a the_b) the_c, []))
unfolding turns name_turn names_read parameters_read exps_turn exps_read arguments_read with_operator with_arguments with_choice suffix_read grow_turn
    grow_read bracket_read table_read unary_read repeated repeat_turn repeats_read label_read labels_read entry_read entry_turn entries_read
    item_read definition_turn definitions_read declaration_read part_read place_turn places_read block_read body_of_block body_read do_read valof_read
    started_read operand_read assigned_read simple_read tested_read test_read step_read for_read switch_read compound_read repeatable_read
    command_read variables_read vector_read routine_read shaped_read defined_read exp_of command_of definition_of section_of
by_level = (refl, refl)

-- A * - B * C is A * (-(B * C)); - A * B is -(A * B); - A + B is (-A) + B
unary_ends : (expression (a ∷ A sign.Multiply ∷ A sign.Minus ∷ b ∷ A sign.Multiply ∷ c ∷ [])
    ≡ Ok (two binary.Multiply the_a (minus (two binary.Multiply the_b the_c)), []))
    × (expression (A sign.Minus ∷ a ∷ A sign.Multiply ∷ b ∷ []) ≡ Ok (minus (two binary.Multiply the_a the_b), []))
    × (expression (A sign.Minus ∷ a ∷ A sign.Plus ∷ b ∷ []) ≡ Ok (two binary.Add (minus the_a) the_b, []))
unfolding turns name_turn names_read parameters_read exps_turn exps_read arguments_read with_operator with_arguments with_choice suffix_read grow_turn
    grow_read bracket_read table_read unary_read repeated repeat_turn repeats_read label_read labels_read entry_read entry_turn entries_read
    item_read definition_turn definitions_read declaration_read part_read place_turn places_read block_read body_of_block body_read do_read valof_read
    started_read operand_read assigned_read simple_read tested_read test_read step_read for_read switch_read compound_read repeatable_read
    command_read variables_read vector_read routine_read shaped_read defined_read exp_of command_of definition_of section_of
unary_ends = (refl, refl, refl)

-- NOT A = B is NOT (A = B), and NOT A & B is (NOT A) & B
of_not : (expression (A sign.Not ∷ a ∷ A sign.Equal ∷ b ∷ []) ≡ Ok (tree.Unary unary.Not (two binary.Equal the_a the_b), []))
    × (expression (A sign.Not ∷ a ∷ A sign.LogicalAnd ∷ b ∷ []) ≡ Ok (two binary.And (tree.Unary unary.Not the_a) the_b, []))
unfolding turns name_turn names_read parameters_read exps_turn exps_read arguments_read with_operator with_arguments with_choice suffix_read grow_turn
    grow_read bracket_read table_read unary_read repeated repeat_turn repeats_read label_read labels_read entry_read entry_turn entries_read
    item_read definition_turn definitions_read declaration_read part_read place_turn places_read block_read body_of_block body_read do_read valof_read
    started_read operand_read assigned_read simple_read tested_read test_read step_read for_read switch_read compound_read repeatable_read
    command_read variables_read vector_read routine_read shaped_read defined_read exp_of command_of definition_of section_of
of_not = (refl, refl)

-- ! A ! B is !(A ! B), and @ A ! B is @(A ! B)
of_load : (expression (A sign.Indirection ∷ a ∷ A sign.Indirection ∷ b ∷ []) ≡ Ok (tree.Unary unary.Load (two binary.Index the_a the_b), []))
    × (expression (A sign.AddressOf ∷ a ∷ A sign.Indirection ∷ b ∷ []) ≡ Ok (tree.Unary unary.Address (two binary.Index the_a the_b), []))
unfolding turns name_turn names_read parameters_read exps_turn exps_read arguments_read with_operator with_arguments with_choice suffix_read grow_turn
    grow_read bracket_read table_read unary_read repeated repeat_turn repeats_read label_read labels_read entry_read entry_turn entries_read
    item_read definition_turn definitions_read declaration_read part_read place_turn places_read block_read body_of_block body_read do_read valof_read
    started_read operand_read assigned_read simple_read tested_read test_read step_read for_read switch_read compound_read repeatable_read
    command_read variables_read vector_read routine_read shaped_read defined_read exp_of command_of definition_of section_of
of_load = (refl, refl)

-- relations don't group: A = B = C is read up to the second `=`
relations : expression (a ∷ A sign.Equal ∷ b ∷ A sign.Equal ∷ c ∷ []) ≡ Ok (two binary.Equal the_a the_b, A sign.Equal ∷ c ∷ [])
unfolding turns name_turn names_read parameters_read exps_turn exps_read arguments_read with_operator with_arguments with_choice suffix_read grow_turn
    grow_read bracket_read table_read unary_read repeated repeat_turn repeats_read label_read labels_read entry_read entry_turn entries_read
    item_read definition_turn definitions_read declaration_read part_read place_turn places_read block_read body_of_block body_read do_read valof_read
    started_read operand_read assigned_read simple_read tested_read test_read step_read for_read switch_read compound_read repeatable_read
    command_read variables_read vector_read routine_read shaped_read defined_read exp_of command_of definition_of section_of
relations = refl

-- A -> B, C; without the comma it is refused at the end
choices : (expression (a ∷ A sign.Arrow ∷ b ∷ A sign.Comma ∷ c ∷ []) ≡ Ok (tree.Cond the_a the_b the_c, [])) × (expression (a ∷ A sign.Arrow ∷ b
    ∷ []) ≡ Err (Expected 0))
unfolding turns name_turn names_read parameters_read exps_turn exps_read arguments_read with_operator with_arguments with_choice suffix_read grow_turn
    grow_read bracket_read table_read unary_read repeated repeat_turn repeats_read label_read labels_read entry_read entry_turn entries_read
    item_read definition_turn definitions_read declaration_read part_read place_turn places_read block_read body_of_block body_read do_read valof_read
    started_read operand_read assigned_read simple_read tested_read test_read step_read for_read switch_read compound_read repeatable_read
    command_read variables_read vector_read routine_read shaped_read defined_read exp_of command_of definition_of section_of
choices = (refl, refl)

-- F(A)(B), and F ! A (B), which is F ! (A(B))
calls : (expression (f ∷ A sign.OpenBracket ∷ a ∷ A sign.CloseBracket ∷ A sign.OpenBracket ∷ b ∷ A sign.CloseBracket ∷ [])
    ≡ Ok (tree.Call (tree.Call the_f (list (the_a ∷ []))) (list (the_b ∷ [])), []))
    × (expression (f ∷ A sign.Indirection ∷ a ∷ A sign.OpenBracket ∷ b ∷ A sign.CloseBracket ∷ [])
    ≡ Ok (two binary.Index the_f (tree.Call the_a (list (the_b ∷ []))), []))
unfolding turns name_turn names_read parameters_read exps_turn exps_read arguments_read with_operator with_arguments with_choice suffix_read grow_turn
    grow_read bracket_read table_read unary_read repeated repeat_turn repeats_read label_read labels_read entry_read entry_turn entries_read
    item_read definition_turn definitions_read declaration_read part_read place_turn places_read block_read body_of_block body_read do_read valof_read
    started_read operand_read assigned_read simple_read tested_read test_read step_read for_read switch_read compound_read repeatable_read
    command_read variables_read vector_read routine_read shaped_read defined_read exp_of command_of definition_of section_of
calls = (refl, refl)

-- F(VALOF G(), 1) is refused after G(): the VALOF's body takes the comma as that of an assignment, and expects `:=`
-- at the `)`
comma_of_body : expression (f ∷ A sign.OpenBracket ∷ A sign.ValueOf ∷ f ∷ A sign.OpenBracket ∷ A sign.CloseBracket ∷ A sign.Comma ∷ Number 1
    ∷ A sign.CloseBracket ∷ [])
    ≡ Err (Expected 1)
unfolding turns name_turn names_read parameters_read exps_turn exps_read arguments_read with_operator with_arguments with_choice suffix_read grow_turn
    grow_read bracket_read table_read unary_read repeated repeat_turn repeats_read label_read labels_read entry_read entry_turn entries_read
    item_read definition_turn definitions_read declaration_read part_read place_turn places_read block_read body_of_block body_read do_read valof_read
    started_read operand_read assigned_read simple_read tested_read test_read step_read for_read switch_read compound_read repeatable_read
    command_read variables_read vector_read routine_read shaped_read defined_read exp_of command_of definition_of section_of
comma_of_body = refl

-- with the VALOF in parentheses it is read
comma_of_call : expression (f ∷ A sign.OpenBracket ∷ A sign.OpenBracket ∷ A sign.ValueOf ∷ f ∷ A sign.OpenBracket ∷ A sign.CloseBracket
    ∷ A sign.CloseBracket ∷ A sign.Comma
    ∷ Number 1 ∷ A sign.CloseBracket ∷ []) ≡ Ok (tree.Call the_f (list (tree.Valof (only (tree.Do the_f none)) ∷ tree.Num 1 ∷ [])), [])
unfolding turns name_turn names_read parameters_read exps_turn exps_read arguments_read with_operator with_arguments with_choice suffix_read grow_turn
    grow_read bracket_read table_read unary_read repeated repeat_turn repeats_read label_read labels_read entry_read entry_turn entries_read
    item_read definition_turn definitions_read declaration_read part_read place_turn places_read block_read body_of_block body_read do_read valof_read
    started_read operand_read assigned_read simple_read tested_read test_read step_read for_read switch_read compound_read repeatable_read
    command_read variables_read vector_read routine_read shaped_read defined_read exp_of command_of definition_of section_of
comma_of_call = refl

-- IF A !B := 1 is refused at `:=`, since its test is A!B; IF A THEN !B := 1 is read
test_takes : (command (A sign.If ∷ a ∷ A sign.Indirection ∷ b ∷ A sign.Assign ∷ Number 1 ∷ []) ≡ Err (Expected 2))
    × (command (A sign.If ∷ a ∷ A sign.Do ∷ A sign.Indirection ∷ b ∷ A sign.Assign ∷ Number 1 ∷ [])
    ≡ Ok (tree.If the_a (only (set (tree.Unary unary.Load the_b) (tree.Num 1))), []))
unfolding turns name_turn names_read parameters_read exps_turn exps_read arguments_read with_operator with_arguments with_choice suffix_read grow_turn
    grow_read bracket_read table_read unary_read repeated repeat_turn repeats_read label_read labels_read entry_read entry_turn entries_read
    item_read definition_turn definitions_read declaration_read part_read place_turn places_read block_read body_of_block body_read do_read valof_read
    started_read operand_read assigned_read simple_read tested_read test_read step_read for_read switch_read compound_read repeatable_read
    command_read variables_read vector_read routine_read shaped_read defined_read exp_of command_of definition_of section_of
test_takes = (refl, refl)

-- A, B := 1, 2; a surplus element isn't read, from its comma on; a missing one is refused at the end
pairs : (command (a ∷ A sign.Comma ∷ b ∷ A sign.Assign ∷ Number 1 ∷ A sign.Comma ∷ Number 2 ∷ [])
    ≡ Ok (tree.Assign (list (the_a ∷ the_b ∷ [])) (list (tree.Num 1 ∷ tree.Num 2 ∷ [])), []))
    × (command (a ∷ A sign.Assign ∷ Number 1 ∷ A sign.Comma ∷ Number 2 ∷ []) ≡ Ok (set the_a (tree.Num 1), A sign.Comma ∷ Number 2 ∷ []))
    × (command (a ∷ A sign.Comma ∷ b ∷ A sign.Assign ∷ Number 1 ∷ []) ≡ Err (Expected 0))
unfolding turns name_turn names_read parameters_read exps_turn exps_read arguments_read with_operator with_arguments with_choice suffix_read grow_turn
    grow_read bracket_read table_read unary_read repeated repeat_turn repeats_read label_read labels_read entry_read entry_turn entries_read
    item_read definition_turn definitions_read declaration_read part_read place_turn places_read block_read body_of_block body_read do_read valof_read
    started_read operand_read assigned_read simple_read tested_read test_read step_read for_read switch_read compound_read repeatable_read
    command_read variables_read vector_read routine_read shaped_read defined_read exp_of command_of definition_of section_of
pairs = (refl, refl, refl)

-- these are no commands: A, A + 1, and a call with something after it, as in F() + 1
no_commands : (command (a ∷ []) ≡ Err (Expected 0)) × (command (a ∷ A sign.Plus ∷ Number 1 ∷ []) ≡ Err (Expected 0))
    × (command (f ∷ A sign.OpenBracket ∷ A sign.CloseBracket ∷ A sign.Plus ∷ Number 1 ∷ []) ≡ Err (Expected 0))
unfolding turns name_turn names_read parameters_read exps_turn exps_read arguments_read with_operator with_arguments with_choice suffix_read grow_turn
    grow_read bracket_read table_read unary_read repeated repeat_turn repeats_read label_read labels_read entry_read entry_turn entries_read
    item_read definition_turn definitions_read declaration_read part_read place_turn places_read block_read body_of_block body_read do_read valof_read
    started_read operand_read assigned_read simple_read tested_read test_read step_read for_read switch_read compound_read repeatable_read
    command_read variables_read vector_read routine_read shaped_read defined_read exp_of command_of definition_of section_of
no_commands = (refl, refl, refl)

-- a call in parentheses is a command: (F())
call_in_brackets : command (A sign.OpenBracket ∷ f ∷ A sign.OpenBracket ∷ A sign.CloseBracket ∷ A sign.CloseBracket ∷ []) ≡ Ok (tree.Do the_f none, [])
unfolding turns name_turn names_read parameters_read exps_turn exps_read arguments_read with_operator with_arguments with_choice suffix_read grow_turn
    grow_read bracket_read table_read unary_read repeated repeat_turn repeats_read label_read labels_read entry_read entry_turn entries_read
    item_read definition_turn definitions_read declaration_read part_read place_turn places_read block_read body_of_block body_read do_read valof_read
    started_read operand_read assigned_read simple_read tested_read test_read step_read for_read switch_read compound_read repeatable_read
    command_read variables_read vector_read routine_read shaped_read defined_read exp_of command_of definition_of section_of
call_in_brackets = refl

-- TEST A THEN F() ELSE F(); without ELSE it is refused
tests : (command (A sign.Test ∷ a ∷ A sign.Do ∷ f ∷ A sign.OpenBracket ∷ A sign.CloseBracket ∷ A sign.Else ∷ f ∷ A sign.OpenBracket ∷ A sign.CloseBracket
    ∷ [])
    ≡ Ok (tree.Test the_a (only (tree.Do the_f none)) (only (tree.Do the_f none)), []))
    × (command (A sign.Test ∷ a ∷ A sign.Do ∷ f ∷ A sign.OpenBracket ∷ A sign.CloseBracket ∷ []) ≡ Err (Expected 0))
unfolding turns name_turn names_read parameters_read exps_turn exps_read arguments_read with_operator with_arguments with_choice suffix_read grow_turn
    grow_read bracket_read table_read unary_read repeated repeat_turn repeats_read label_read labels_read entry_read entry_turn entries_read
    item_read definition_turn definitions_read declaration_read part_read place_turn places_read block_read body_of_block body_read do_read valof_read
    started_read operand_read assigned_read simple_read tested_read test_read step_read for_read switch_read compound_read repeatable_read
    command_read variables_read vector_read routine_read shaped_read defined_read exp_of command_of definition_of section_of
tests = (refl, refl)

-- FOR X = 1 TO 2 BY 1 DO BREAK, and the same without BY: the trees differ
fors : (command (A sign.For ∷ x ∷ A sign.Equal ∷ Number 1 ∷ A sign.To ∷ Number 2 ∷ A sign.By ∷ Number 1 ∷ A sign.Do ∷ A sign.Break ∷ [])
    ≡ Ok (tree.ForBy (88 ∷ []) (tree.Num 1) (tree.Num 2) (tree.Num 1) (only tree.Break), []))
    × (command (A sign.For ∷ x ∷ A sign.Equal ∷ Number 1 ∷ A sign.To ∷ Number 2 ∷ A sign.Do ∷ A sign.Break ∷ [])
    ≡ Ok (tree.For (88 ∷ []) (tree.Num 1) (tree.Num 2) (only tree.Break), []))
unfolding turns name_turn names_read parameters_read exps_turn exps_read arguments_read with_operator with_arguments with_choice suffix_read grow_turn
    grow_read bracket_read table_read unary_read repeated repeat_turn repeats_read label_read labels_read entry_read entry_turn entries_read
    item_read definition_turn definitions_read declaration_read part_read place_turn places_read block_read body_of_block body_read do_read valof_read
    started_read operand_read assigned_read simple_read tested_read test_read step_read for_read switch_read compound_read repeatable_read
    command_read variables_read vector_read routine_read shaped_read defined_read exp_of command_of definition_of section_of
fors = (refl, refl)

-- X := A REPEATWHILE B repeats the whole assignment; IF A DO BREAK REPEAT repeats only the body
repeats : (command (x ∷ A sign.Assign ∷ a ∷ A sign.RepeatWhile ∷ b ∷ []) ≡ Ok (tree.RepeatWhile (set the_x the_a) the_b, []))
    × (command (A sign.If ∷ a ∷ A sign.Do ∷ A sign.Break ∷ A sign.Repeat ∷ []) ≡ Ok (tree.If the_a (only (tree.Repeat tree.Break)), []))
unfolding turns name_turn names_read parameters_read exps_turn exps_read arguments_read with_operator with_arguments with_choice suffix_read grow_turn
    grow_read bracket_read table_read unary_read repeated repeat_turn repeats_read label_read labels_read entry_read entry_turn entries_read
    item_read definition_turn definitions_read declaration_read part_read place_turn places_read block_read body_of_block body_read do_read valof_read
    started_read operand_read assigned_read simple_read tested_read test_read step_read for_read switch_read compound_read repeatable_read
    command_read variables_read vector_read routine_read shaped_read defined_read exp_of command_of definition_of section_of
repeats = (refl, refl)

-- SWITCHON A INTO $( CASE 1: DEFAULT: BREAK; X: $)
abbrev its_list : Items
its_list =
    item (Labelled (label (tree.Case (tree.Num 1)) (label tree.Default no_labels)) tree.Break)
    (item (Labels_alone (label (tree.Named (88 ∷ [])) no_labels)) no_items)

switches : command (A sign.SwitchOn ∷ a ∷ A sign.Into ∷ A sign.OpenSection ∷ A sign.Case ∷ Number 1 ∷ A sign.Colon ∷ A sign.Default ∷ A sign.Colon
    ∷ A sign.Break ∷ A sign.Semicolon
    ∷ x ∷ A sign.Colon ∷ A sign.CloseSection ∷ [])
    ≡ Ok (tree.SwitchOn the_a its_list, [])
unfolding turns name_turn names_read parameters_read exps_turn exps_read arguments_read with_operator with_arguments with_choice suffix_read grow_turn
    grow_read bracket_read table_read unary_read repeated repeat_turn repeats_read label_read labels_read entry_read entry_turn entries_read
    item_read definition_turn definitions_read declaration_read part_read place_turn places_read block_read body_of_block body_read do_read valof_read
    started_read operand_read assigned_read simple_read tested_read test_read step_read for_read switch_read compound_read repeatable_read
    command_read variables_read vector_read routine_read shaped_read defined_read exp_of command_of definition_of section_of
switches = refl

-- $( ; BREAK ; ; $) and $( nl $): empty places leave no trace in the tree
empty_places : (command (A sign.OpenSection ∷ A sign.Semicolon ∷ A sign.Break ∷ A sign.Semicolon ∷ A sign.Semicolon ∷ A sign.CloseSection ∷ [])
    ≡ Ok (tree.Compound (only tree.Break), []))
    × (command (A sign.OpenSection ∷ NewLine ∷ A sign.CloseSection ∷ []) ≡ Ok (tree.Compound (block no_declarations no_items), []))
unfolding turns name_turn names_read parameters_read exps_turn exps_read arguments_read with_operator with_arguments with_choice suffix_read grow_turn
    grow_read bracket_read table_read unary_read repeated repeat_turn repeats_read label_read labels_read entry_read entry_turn entries_read
    item_read definition_turn definitions_read declaration_read part_read place_turn places_read block_read body_of_block body_read do_read valof_read
    started_read operand_read assigned_read simple_read tested_read test_read step_read for_read switch_read compound_read repeatable_read
    command_read variables_read vector_read routine_read shaped_read defined_read exp_of command_of definition_of section_of
empty_places = (refl, refl)

-- $( BREAK BREAK $) is refused: two commands need a separator
no_semicolon : command (A sign.OpenSection ∷ A sign.Break ∷ A sign.Break ∷ A sign.CloseSection ∷ []) ≡ Err (Expected 2)
unfolding turns name_turn names_read parameters_read exps_turn exps_read arguments_read with_operator with_arguments with_choice suffix_read grow_turn
    grow_read bracket_read table_read unary_read repeated repeat_turn repeats_read label_read labels_read entry_read entry_turn entries_read
    item_read definition_turn definitions_read declaration_read part_read place_turn places_read block_read body_of_block body_read do_read valof_read
    started_read operand_read assigned_read simple_read tested_read test_read step_read for_read switch_read compound_read repeatable_read
    command_read variables_read vector_read routine_read shaped_read defined_read exp_of command_of definition_of section_of
no_semicolon = refl
