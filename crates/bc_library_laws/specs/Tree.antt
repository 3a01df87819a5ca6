-- For proofs: lexing, parsing and resolving the text of BLIB, computed on the definitions, gives the library of `Library`.
use Rattle.std.specs.Prelude.{◌≡◌, List, ◌∷◌, Option, Some, None, Result, Ok, Err, refl}
use Rattle.bc_lex_tokens.specs.Token.{Lexeme}
use Rattle.bc_lex_tokens.specs.Spelling.{symbol_of}
use Rattle.bc_lex.specs.declared.error.LexError.{LexError}
use Rattle.bc_lex.specs.Files.{File}
use Rattle.bc_lex.specs.Blank.{gap_of}
use Rattle.bc_lex.specs.Lexeme.{lexeme_in_front}
use Rattle.bc_lex.specs.Reading.{string_of}
use Rattle.bc_lex.specs.Search.{spells_name}
use Rattle.bc_lex.specs.Lexing.{skipped, string_end_of, lexeme_at, target_of, item_by, item_of, file_to_end, deeper_of, read_of}
use Rattle.bc_parse_defs.specs.Reading.{turns, name_turn, names_read, parameters_read, exps_turn, exps_read, arguments_read, with_operator, with_arguments, with_choice, suffix_read, grow_turn, grow_read, bracket_read, table_read, unary_read, repeated, repeat_turn, repeats_read, label_read, labels_read, entry_read, entry_turn, entries_read, item_read, definition_turn, definitions_read, declaration_read, part_read, place_turn, places_read, block_read, body_of_block, body_read, do_read, valof_read, started_read, operand_read, assigned_read, simple_read, tested_read, test_read, step_read, for_read, switch_read, compound_read, repeatable_read, command_read, variables_read, vector_read, routine_read, shaped_read, defined_read, exp_of, command_of, definition_of, section_of}
use Rattle.bc_parse_defs.specs.Reading as reading
use Rattle.bc_parse_defs.specs.Closing.{Placed, closed_list, parts_in}
use Rattle.bc_parse_defs.specs.Closing as closing
use Rattle.bc_parse_tree.specs.Tree.{Declarations}
use Rattle.bc_scope_defs.specs.Translation.{core_of}
use Rattle.bc_core.specs.Commands.{Core}
use Rattle.bc_library_laws.specs.Library.{library}
use Rattle.bc_library_laws.specs.Texts.{header_file, source_file}

abbrev pub core_in : Result Declarations reading.Fault → Option Core
core_in (Ok ds) = Some (core_of ds)
core_in (Err e) = None

abbrev pub core_closed : Result (List Placed) closing.Fault → Option Core
core_closed (Ok ps) = core_in (section_of (parts_in ps))
core_closed (Err e) = None

abbrev pub core_read : Result (List Lexeme) LexError → Option Core
core_read (Ok ts) = core_closed (closed_list ts)
core_read (Err e) = None

pub library_is : (rest : List File) → core_read (read_of (header_file ∷ source_file ∷ rest) 1) ≡ Some library
unfolding symbol_of gap_of lexeme_in_front string_of spells_name skipped string_end_of lexeme_at target_of item_by item_of file_to_end deeper_of read_of turns name_turn names_read parameters_read exps_turn exps_read arguments_read with_operator with_arguments with_choice suffix_read grow_turn grow_read bracket_read table_read unary_read repeated repeat_turn repeats_read label_read labels_read entry_read entry_turn entries_read item_read definition_turn definitions_read declaration_read part_read place_turn places_read block_read body_of_block body_read do_read valof_read started_read operand_read assigned_read simple_read tested_read test_read step_read for_read switch_read compound_read repeatable_read command_read variables_read vector_read routine_read shaped_read defined_read exp_of command_of definition_of section_of
library_is rest = refl
