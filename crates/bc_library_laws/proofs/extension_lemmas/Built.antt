-- The text of EXTLIB is the section of `Extension`: lexed in one pass, then parsed and resolved, computed on the definitions.
use Rattle.std.proofs.Common.{◌≡◌, ◌∙◌, refl, sym, ap, arith, ℕ, suc, true, false, List, [], ◌∷◌, ◌++◌, length, drop, Option, Some, None, Result, Ok, Err}
use Rattle.std.specs.Prelude.{is_some}
use Rattle.bc_lex_tokens.specs.Spelling.{symbol_of}
use Rattle.bc_lex_tokens.specs.Token.{Lexeme}
use Rattle.bc_lex.specs.declared.error.LexError.{LexError}
use Rattle.bc_lex.specs.Files.{File}
use Rattle.bc_lex.specs.Blank.{gap_of}
use Rattle.bc_lex.specs.Lexeme.{lexeme_in_front}
use Rattle.bc_lex.specs.Reading.{string_of}
use Rattle.bc_lex.specs.Search.{spells_name}
use Rattle.bc_lex.specs.Tokens.{HasTokens}
use Rattle.bc_lex.specs.Lexing.{place_at, rest_of, skipped, string_end_of, lexeme_at, target_of, item_by, item_of, file_to_end, deeper_of, read_of}
use Rattle.bc_parse_defs.specs.Reading.{turns, name_turn, names_read, parameters_read, exps_turn, exps_read, arguments_read, with_operator, with_arguments, with_choice, suffix_read, grow_turn, grow_read, bracket_read, table_read, unary_read, repeated, repeat_turn, repeats_read, label_read, labels_read, entry_read, entry_turn, entries_read, item_read, definition_turn, definitions_read, declaration_read, part_read, place_turn, places_read, block_read, body_of_block, body_read, do_read, valof_read, started_read, operand_read, assigned_read, simple_read, tested_read, test_read, step_read, for_read, switch_read, compound_read, repeatable_read, command_read, variables_read, vector_read, routine_read, shaped_read, defined_read, exp_of, command_of, definition_of, section_of}
use Rattle.bc_parse_defs.specs.Closing.{closed_list}
use Rattle.bc_parse.specs.Parsing.{parsed}
use Rattle.bc_parse_tree.specs.Tree.{Declarations}
use Rattle.bc_scope_defs.specs.Translation.{core_of}
use Rattle.bc_library_laws.specs.Texts as library_texts
use Rattle.bc_library_laws.specs.Tree.{core_closed, core_read}
use Rattle.bc_library_laws.proofs.Built.{section_of_text}
use Rattle.bc_library_laws.specs.extension.Extension.{extension}
use Rattle.bc_library_laws.specs.extension.Texts.{source, header_file, source_file}
use Rattle.bc_library_laws.proofs.extension_lemmas.Lexed.{pass, pass_reads}

-- the files
abbrev all_files : List File → List File
all_files rest = library_texts.header_file ∷ library_texts.source_file ∷ header_file ∷ source_file ∷ rest

abbrev tokens_in : Option (List Lexeme) → List Lexeme
tokens_in None = []
tokens_in (Some ts) = ts

abbrev tokens_read : Result (List Lexeme) LexError → List Lexeme
tokens_read (Ok ts) = ts
tokens_read (Err e) = []

there_is : (o : Option (List Lexeme)) → is_some o ≡ true → o ≡ Some (tokens_in o)
there_is None e = absurd (let z : ⊥ = cc in z)
there_is (Some ts) e = refl

-- the tokens of the headers, and those of EXTLIB after its GET
abbrev header_tokens : List File → List Lexeme
header_tokens rest = tokens_read (file_to_end (deeper_of (all_files rest) 7) (all_files rest) 2 true [])

abbrev source_tokens : List Lexeme
source_tokens = tokens_in (pass 3 14772 4000 133 true (drop 133 source) 229)

size : length source ≡ 14772
size = refl

header_count : (rest : List File) → length (header_tokens rest) ≡ 229
unfolding symbol_of gap_of lexeme_in_front string_of spells_name skipped string_end_of lexeme_at target_of item_by item_of file_to_end deeper_of read_of turns name_turn names_read parameters_read exps_turn exps_read arguments_read with_operator with_arguments with_choice suffix_read grow_turn grow_read bracket_read table_read unary_read repeated repeat_turn repeats_read label_read labels_read entry_read entry_turn entries_read item_read definition_turn definitions_read declaration_read part_read place_turn places_read block_read body_of_block body_read do_read valof_read started_read operand_read assigned_read simple_read tested_read test_read step_read for_read switch_read compound_read repeatable_read command_read variables_read vector_read routine_read shaped_read defined_read exp_of command_of definition_of section_of
header_count rest = refl

-- the GET comes first
gets_first : (rest : List File) (j : ℕ) → rest_of (deeper_of (all_files rest) 8) (all_files rest) 3 (suc j) (place_at 0 false) []
    ≡ rest_of (deeper_of (all_files rest) 8) (all_files rest) 3 j (place_at 133 true) (header_tokens rest)
unfolding symbol_of gap_of lexeme_in_front string_of spells_name skipped string_end_of lexeme_at target_of item_by item_of file_to_end deeper_of read_of turns name_turn names_read parameters_read exps_turn exps_read arguments_read with_operator with_arguments with_choice suffix_read grow_turn grow_read bracket_read table_read unary_read repeated repeat_turn repeats_read label_read labels_read entry_read entry_turn entries_read item_read definition_turn definitions_read declaration_read part_read place_turn places_read block_read body_of_block body_read do_read valof_read started_read operand_read assigned_read simple_read tested_read test_read step_read for_read switch_read compound_read repeatable_read command_read variables_read vector_read routine_read shaped_read defined_read exp_of command_of definition_of section_of
gets_first rest j = refl

passes : is_some (pass 3 14772 4000 133 true (drop 133 source) 229) ≡ true
unfolding symbol_of string_of
passes = refl

reads_whole : (rest : List File) → read_of (all_files rest) 3 ≡ Ok (header_tokens rest ++ source_tokens)
unfolding read_of file_to_end
reads_whole rest =
    ap (λ n. rest_of (deeper_of (all_files rest) 8) (all_files rest) 3 n (place_at 0 false) []) size
    ∙ gets_first rest 14771
    ∙ pass_reads (deeper_of (all_files rest) 8) (all_files rest) 3 14772 (sym size) 4000 14771 (omega arith) 133 true (drop 133 source) 229 (header_tokens rest) source_tokens refl (sym (header_count rest))
    (there_is (pass 3 14772 4000 133 true (drop 133 source) 229) passes)

is_extension : (rest : List File) → core_closed (closed_list (header_tokens rest ++ source_tokens)) ≡ Some extension
unfolding extension symbol_of gap_of lexeme_in_front string_of spells_name skipped string_end_of lexeme_at target_of item_by item_of file_to_end deeper_of read_of turns name_turn names_read parameters_read exps_turn exps_read arguments_read with_operator with_arguments with_choice suffix_read grow_turn grow_read bracket_read table_read unary_read repeated repeat_turn repeats_read label_read labels_read entry_read entry_turn entries_read item_read definition_turn definitions_read declaration_read part_read place_turn places_read block_read body_of_block body_read do_read valof_read started_read operand_read assigned_read simple_read tested_read test_read step_read for_read switch_read compound_read repeatable_read command_read variables_read vector_read routine_read shaped_read defined_read exp_of command_of definition_of section_of
is_extension rest = refl

extension_is : (rest : List File) → core_read (read_of (all_files rest) 3) ≡ Some extension
extension_is rest = ap core_read (reads_whole rest) ∙ is_extension rest

-- the section of EXTLIB's text resolves to the extension
pub extension_of : (rest : List File) (tokens : List Lexeme) (section : Declarations) → HasTokens (all_files rest) 3 tokens → parsed tokens ≡ Ok section → core_of section ≡ extension
extension_of rest = section_of_text (all_files rest) 3 extension (extension_is rest)
