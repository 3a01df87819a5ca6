-- Worked examples of canonical spellings, and of one that is read as another section.
use Rattle.std.specs.Prelude.{ℕ, ◌≡◌, List, [], ◌∷◌, Ok}
use Rattle.std.proofs.Common.{refl}
use Rattle.bc_lex_tokens.specs.declared.symbol.Symbol.TheVariants as sign
use Rattle.bc_parse_tree.specs.declared.tree.BinaryOp.TheVariants as binary
use Rattle.bc_parse_tree.specs.declared.tree.UnaryOp.TheVariants as unary
use Rattle.bc_parse_tree.specs.Parts.{A, Name, Number}
use Rattle.bc_parse_tree.specs.Tree.{Exp, none, more, Block, block, Declarations, no_declarations, declaration, no_definitions, definition, Labelled, no_items, item, no_labels, Command}
use Rattle.bc_parse_tree.specs.Tree as tree
use Rattle.bc_parse_tree.specs.Canonical.{command_spelling, section_spelling}
use Rattle.bc_parse_defs.specs.Reading.{turns, name_turn, names_read, parameters_read, exps_turn, exps_read, arguments_read, with_operator, with_arguments, with_choice, suffix_read, grow_turn, grow_read, bracket_read, table_read, unary_read, repeated, repeat_turn, repeats_read, label_read, labels_read, entry_read, entry_turn, entries_read, item_read, definition_turn, definitions_read, declaration_read, part_read, place_turn, places_read, block_read, body_of_block, body_read, do_read, valof_read, started_read, operand_read, assigned_read, simple_read, tested_read, test_read, step_read, for_read, switch_read, compound_read, repeatable_read, command_read, variables_read, vector_read, routine_read, shaped_read, defined_read, exp_of, command_of, definition_of, section_of}
use Rattle.bc_parse_laws.specs.Open.{most_open}

abbrev a : Exp
a = tree.Name (65 ∷ [])

abbrev b : Exp
b = tree.Name (66 ∷ [])

abbrev c : Exp
c = tree.Name (67 ∷ [])

abbrev x : List ℕ
x = 88 ∷ []

-- X := ..
abbrev assigned : Exp → Command
assigned e = tree.Assign (more (tree.Name x) none) (more e none)

-- A-B-C
differences : command_spelling (assigned (tree.Bin binary.Subtract (tree.Bin binary.Subtract a b) c))
    ≡ Name x ∷ A sign.Assign ∷ A sign.OpenBracket ∷ A sign.OpenBracket ∷ Name (65 ∷ []) ∷ A sign.Minus ∷ Name (66 ∷ []) ∷ A sign.CloseBracket
    ∷ A sign.Minus ∷ Name (67 ∷ []) ∷ A sign.CloseBracket ∷ []
differences = refl

-- !A!B
loads : command_spelling (assigned (tree.Unary unary.Load (tree.Bin binary.Index a b)))
    ≡ Name x ∷ A sign.Assign ∷ A sign.OpenBracket ∷ A sign.Indirection ∷ A sign.OpenBracket ∷ Name (65 ∷ []) ∷ A sign.Indirection ∷ Name (66 ∷ [])
    ∷ A sign.CloseBracket ∷ A sign.CloseBracket ∷ []
loads = refl

-- A & NOT B=C
and_not : command_spelling (assigned (tree.Bin binary.And a (tree.Unary unary.Not (tree.Bin binary.Equal b c))))
    ≡ Name x ∷ A sign.Assign ∷ A sign.OpenBracket ∷ Name (65 ∷ []) ∷ A sign.LogicalAnd ∷ A sign.OpenBracket ∷ A sign.Not ∷ A sign.OpenBracket
    ∷ Name (66 ∷ []) ∷ A sign.Equal ∷ Name (67 ∷ []) ∷ A sign.CloseBracket ∷ A sign.CloseBracket ∷ A sign.CloseBracket ∷ []
and_not = refl

-- A=1 -> B, C
chosen : command_spelling (assigned (tree.Cond (tree.Bin binary.Equal a (tree.Num 1)) b c))
    ≡ Name x ∷ A sign.Assign ∷ A sign.OpenBracket ∷ A sign.OpenBracket ∷ Name (65 ∷ []) ∷ A sign.Equal ∷ Number 1 ∷ A sign.CloseBracket ∷ A sign.Arrow
    ∷ Name (66 ∷ []) ∷ A sign.Comma ∷ Name (67 ∷ []) ∷ A sign.CloseBracket ∷ []
chosen = refl

abbrev only : Command → Block
only d = block no_declarations (item (Labelled no_labels d) no_items)

-- IF A=B C()
tested : command_spelling (tree.If (tree.Bin binary.Equal a b) (only (tree.Do c none)))
    ≡ A sign.If ∷ Name (65 ∷ []) ∷ A sign.Equal ∷ Name (66 ∷ []) ∷ A sign.Do ∷ A sign.OpenSection ∷ Name (67 ∷ []) ∷ A sign.OpenBracket
    ∷ A sign.CloseBracket ∷ A sign.CloseSection ∷ []
tested = refl

-- how many parentheses are open at once
three_open : most_open 0 (command_spelling (assigned (tree.Bin binary.And a (tree.Unary unary.Not (tree.Bin binary.Equal b c))))) ≡ 3
three_open = refl

-- a section of one routine: LET X() BE ..
abbrev routine : Block → Declarations
routine d = declaration (tree.Let (definition (tree.Routine x [] d) no_definitions)) no_declarations

-- A VALOF's body takes a REPEAT after it as its own. In RESULTIS VALOF $( A() $) REPEAT the RESULTIS was meant to be
-- repeated, but the body is.
meant_repeated : Declarations
meant_repeated = routine (only (tree.Repeat (tree.ResultIs (tree.Valof (only (tree.Do a none))))))

read_repeated : Declarations
read_repeated = routine (only (tree.ResultIs (tree.Valof (only (tree.Repeat (tree.Compound (only (tree.Do a none))))))))

other_is_read : section_of (section_spelling meant_repeated) ≡ Ok read_repeated
unfolding meant_repeated read_repeated turns name_turn names_read parameters_read exps_turn exps_read arguments_read with_operator with_arguments with_choice suffix_read grow_turn grow_read bracket_read table_read unary_read repeated repeat_turn repeats_read label_read labels_read entry_read entry_turn entries_read item_read definition_turn definitions_read declaration_read part_read place_turn places_read block_read body_of_block body_read do_read valof_read started_read operand_read assigned_read simple_read tested_read test_read step_read for_read switch_read compound_read repeatable_read command_read variables_read vector_read routine_read shaped_read defined_read exp_of command_of definition_of section_of
other_is_read = refl
