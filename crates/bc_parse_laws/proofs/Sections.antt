-- Canonical spellings of sections are read back, by induction on their trees. One line per form of the tree ties the
-- lemmas of the other files together.
use Rattle.std.proofs.Common.{◌≡◌, ℕ, suc, ◌-◌, ◌+◌, ◌≤◌, true, List, [], ◌++◌, length, max, Ok, refl, sym, ap, ◌∙◌, arith}
use Rattle.std.proofs.lemmas.List.{length-append, append-nil}
use Rattle.bc_parse_tree.specs.Parts.{Part}
use Rattle.bc_parse_tree.specs.Tree.{Exp, Exps, none, more, Block, block, Declaration, Declarations, no_declarations, declaration, Entries, no_entries, entry, Definition, Definitions, no_definitions, definition, Item, Labelled, Labels_alone, Items, no_items, item, Label, Labels, no_labels, label, Command}
use Rattle.bc_parse_tree.specs.Tree as tree
use Rattle.bc_parse_tree.specs.Canonical.{declaration_spelling, declarations_spelling, section_spelling}
use Rattle.bc_parse_tree.specs.Height.{declaration_height, declarations_height}
use Rattle.bc_parse_defs.specs.declared.words.Places.TheVariants as places
use Rattle.bc_parse_defs.specs.Reading.{piece, place_turn, places_read, exp_of, command_of, definition_of, section_of}
use Rattle.bc_parse_laws.proofs.Rounds.{declarations_rounds}
use Rattle.bc_parse_laws.proofs.Formed.{EndsInNoValof, FormedExp, FormedExps, FormedBlock, FormedDeclaration, FormedDeclarations, FormedEntries, FormedDefinition, FormedDefinitions, FormedItem, FormedItems, FormedLabel, FormedLabels, FormedCommand, IsSimple}
use Rattle.bc_parse_laws.proofs.Ends.{turn_last}
use Rattle.bc_parse_laws.proofs.Expressions.{WholeAgain, PartsAgain, part_again, name_again, number_again, character_again, text_again, true_again, false_again, table_again, unary_again, binary_again, condition_again, call_again}
use Rattle.bc_parse_laws.proofs.Lists.{LabelAgain, LabelsAgain, EntriesAgain}
use Rattle.bc_parse_laws.proofs.Commands.{Quiet, BlockAgain, CommandAgain, valof_again, if_again, unless_again, while_again, until_again, test_again, for_again, for_by_again, switch_again}
use Rattle.bc_parse_laws.proofs.Simple.{SimpleAgain, simple_command, assign_again, do_again, compound_again, break_again, loop_again, end_case_again, return_again, finish_again, goto_again, result_again, repeat_again, repeat_while_again, repeat_until_again}
use Rattle.bc_parse_laws.proofs.Definitions.{DefinitionAgain, DefinitionsAgain, variables_again, vector_again, function_again, routine_again, DeclarationAgain, let_again, constants_again}
use Rattle.bc_parse_laws.proofs.Places.{ItemAgain, ItemsAgain, labelled_again, alone_again, DeclarationsAgain, count_declarations, declarations_long, end_turn, declarations_turned, cases_again, block_again}

-- ---- all of them

abbrev Again : Command → Type 0
Again c = CommandAgain c × (IsSimple c → SimpleAgain c)

simple : (c : Command) → SimpleAgain c → Again c
simple c again = (simple_command c again, λ is. again)

compound : (c : Command) → (IsSimple c → ⊥) → CommandAgain c → Again c
compound c no_simple again = (again, λ is. absurd (no_simple is))

mutual
  pub whole_read : (e : Exp) → FormedExp EndsInNoValof e → WholeAgain e
  whole_read (tree.Name s) formed = name_again s
  whole_read (tree.Num n) formed = number_again n
  whole_read (tree.Character n) formed = character_again n
  whole_read (tree.Text s) formed = text_again s
  whole_read tree.True formed = true_again
  whole_read tree.False formed = false_again
  whole_read (tree.Table ks) formed = table_again ks formed.0 (parts_read ks formed.1)
  whole_read (tree.Valof b) formed = valof_again b (block_read_again b formed)
  whole_read (tree.Unary m e) formed = unary_again m e (part_again e (whole_read e formed))
  whole_read (tree.Bin o l r) formed = binary_again o l r (whole_read l formed.0) (part_again r (whole_read r formed.1))
  whole_read (tree.Cond c x y) formed = condition_again c x y (whole_read c formed.0) (part_again x (whole_read x formed.1)) (part_again y (whole_read y formed.2))
  whole_read (tree.Call f es) formed = call_again f es (whole_read f formed.0) (parts_read es formed.1)

  parts_read : (es : Exps) → FormedExps EndsInNoValof es → PartsAgain es
  parts_read none formed = tt
  parts_read (more e es) formed = (part_again e (whole_read e formed.0), parts_read es formed.1)

  block_read_again : (b : Block) → FormedBlock EndsInNoValof b → BlockAgain b
  block_read_again (block ds is) formed = block_again ds is (declarations_read_again ds formed.0) (items_read_again is formed.1)

  declaration_read_again : (d : Declaration) → FormedDeclaration EndsInNoValof d → DeclarationAgain d
  declaration_read_again (tree.Constants s es) formed = constants_again s es (entries_read_again es formed)
  declaration_read_again (tree.Let ds) formed = let_again ds formed.0 (definitions_read_again ds formed.1)

  pub declarations_read_again : (ds : Declarations) → FormedDeclarations EndsInNoValof ds → DeclarationsAgain ds
  declarations_read_again no_declarations formed = tt
  declarations_read_again (declaration d ds) formed = (declaration_read_again d formed.0, declarations_read_again ds formed.1)

  entries_read_again : (es : Entries) → FormedEntries EndsInNoValof es → EntriesAgain es
  entries_read_again no_entries formed = tt
  entries_read_again (entry n k es) formed = (part_again k (whole_read k formed.0), entries_read_again es formed.1)

  definition_read_again : (d : Definition) → FormedDefinition EndsInNoValof d → DefinitionAgain d
  definition_read_again (tree.Variables ns es) formed = variables_again ns es formed.1 formed.0 (parts_read es formed.2)
  definition_read_again (tree.Vector n k) formed = vector_again n k (part_again k (whole_read k formed))
  definition_read_again (tree.Function n ps e) formed = function_again n ps e (whole_read e formed)
  definition_read_again (tree.Routine n ps b) formed = routine_again n ps b (block_read_again b formed)

  definitions_read_again : (ds : Definitions) → FormedDefinitions EndsInNoValof ds → DefinitionsAgain ds
  definitions_read_again no_definitions formed = tt
  definitions_read_again (definition d ds) formed = (definition_read_again d formed.0, definitions_read_again ds formed.1)

  item_read_again : (i : Item) → FormedItem EndsInNoValof i → ItemAgain i
  item_read_again (Labelled ls c) formed = labelled_again ls c formed.1 (labels_read_again ls formed.0) (command_read_again c formed.1).0
  item_read_again (Labels_alone ls) formed = alone_again ls formed.0 (labels_read_again ls formed.1)

  items_read_again : (is : Items) → FormedItems EndsInNoValof is → ItemsAgain is
  items_read_again no_items formed = tt
  items_read_again (item i is) formed = (item_read_again i formed.0, items_read_again is formed.1)

  label_read_again : (l : Label) → FormedLabel EndsInNoValof l → LabelAgain l
  label_read_again (tree.Case k) formed = part_again k (whole_read k formed)
  label_read_again tree.Default formed = tt
  label_read_again (tree.Named n) formed = tt

  labels_read_again : (ls : Labels) → FormedLabels EndsInNoValof ls → LabelsAgain ls
  labels_read_again no_labels formed = tt
  labels_read_again (label l ls) formed = (label_read_again l formed.0, labels_read_again ls formed.1)

  command_read_again : (c : Command) → FormedCommand EndsInNoValof c → Again c
  command_read_again (tree.Assign xs es) formed = simple (tree.Assign xs es) (assign_again xs es formed.0 formed.1 (parts_read xs formed.2) (parts_read es formed.3))
  command_read_again (tree.Do f es) formed = simple (tree.Do f es) (do_again f es (call_again f es (whole_read f formed.0) (parts_read es formed.1)))
  command_read_again (tree.Compound b) formed = simple (tree.Compound b) (compound_again b (block_read_again b formed))
  command_read_again tree.Break formed = simple tree.Break break_again
  command_read_again tree.Loop formed = simple tree.Loop loop_again
  command_read_again tree.EndCase formed = simple tree.EndCase end_case_again
  command_read_again tree.Return formed = simple tree.Return return_again
  command_read_again tree.Finish formed = simple tree.Finish finish_again
  command_read_again (tree.ResultIs e) formed = simple (tree.ResultIs e) (result_again e (whole_read e formed))
  command_read_again (tree.Goto n) formed = simple (tree.Goto n) (goto_again n)
  command_read_again (tree.Repeat c) formed = simple (tree.Repeat c) (repeat_again c ((command_read_again c formed.2).1 formed.0) formed.1)
  command_read_again (tree.RepeatWhile c e) formed = simple (tree.RepeatWhile c e) (repeat_while_again c e ((command_read_again c formed.2).1 formed.0) (whole_read e formed.3) formed.1)
  command_read_again (tree.RepeatUntil c e) formed = simple (tree.RepeatUntil c e) (repeat_until_again c e ((command_read_again c formed.2).1 formed.0) (whole_read e formed.3) formed.1)
  command_read_again (tree.If e b) formed = compound (tree.If e b) (λ is. is) (if_again e b (whole_read e formed.0) (block_read_again b formed.1))
  command_read_again (tree.Unless e b) formed = compound (tree.Unless e b) (λ is. is) (unless_again e b (whole_read e formed.0) (block_read_again b formed.1))
  command_read_again (tree.While e b) formed = compound (tree.While e b) (λ is. is) (while_again e b (whole_read e formed.0) (block_read_again b formed.1))
  command_read_again (tree.Until e b) formed = compound (tree.Until e b) (λ is. is) (until_again e b (whole_read e formed.0) (block_read_again b formed.1))
  command_read_again (tree.Test e b d) formed = compound (tree.Test e b d) (λ is. is) (test_again e b d (whole_read e formed.0) (block_read_again b formed.1) (block_read_again d formed.2))
  command_read_again (tree.For n a z b) formed = compound (tree.For n a z b) (λ is. is) (for_again n a z b (whole_read a formed.0) (whole_read z formed.1) (block_read_again b formed.2))
  command_read_again (tree.ForBy n a z k b) formed = compound (tree.ForBy n a z k b) (λ is. is) (for_by_again n a z k b (whole_read a formed.0) (whole_read z formed.1) (part_again k (whole_read k formed.2)) (block_read_again b formed.3))
  command_read_again (tree.SwitchOn e is) formed = compound (tree.SwitchOn e is) (λ h. h) (switch_again e is (whole_read e formed.0) (cases_again is (items_read_again is formed.1)))

-- ---- sections

section_places : (ds : Declarations) → DeclarationsAgain ds → declarations_height ds ≤ 200 → declarations_rounds ds ≤ 400
    → places_read (exp_of 600) (command_of 600) (definition_of 600) places.Section 200 400 (section_spelling ds) ≡ Ok (piece (ds, no_items) (declarations_height ds) [])
unfolding places_read
section_places no_declarations again high deep = turn_last (place_turn (exp_of 600) (command_of 600) (definition_of 600) places.Section 200 400) 0 _ _ (end_turn places.Section 600 200 400 (piece (no_declarations, no_items) 0 []) [] refl)
section_places (declaration d ds) again high deep =
    let ts : List Part = declaration_spelling d ++ (declarations_spelling ds ++ []) in
    let shape : section_spelling (declaration d ds) ≡ ts = ap (λ (r : List Part). declaration_spelling d ++ r) (sym (append-nil (declarations_spelling ds))) in
    let k : ℕ = length ts - count_declarations ds in
    let long : length ts + 1 ≡ count_declarations ds + suc k = omega (arith, declarations_long ds, length-append (declaration_spelling d) (declarations_spelling ds ++ []), length-append (declarations_spelling ds) []) in
    let nothing : Quiet [] = record { remaining = record { stops = refl; no_comma = refl; no_assign = refl }; no_repeat = refl } in
    let g : max 0 (max (declaration_height d) (declarations_height ds)) ≡ max (declaration_height d) (declarations_height ds) = omega arith in
    ap (places_read (exp_of 600) (command_of 600) (definition_of 600) places.Section 200 400) shape
    ∙ declarations_turned places.Section tt ds again.1 d again.0 600 (length ts + 1) k 200 400 no_declarations 0 [] [] true long (omega arith) (omega arith) (omega arith) (omega arith) (omega arith) nothing refl refl
    ∙ ap (λ (h : ℕ). Ok (piece (declaration d ds, no_items) h [])) g

pub section_again : (ds : Declarations) → FormedDeclarations EndsInNoValof ds → declarations_height ds ≤ 200 → declarations_rounds ds ≤ 400 → section_of (section_spelling ds) ≡ Ok ds
unfolding section_of
section_again ds formed high deep = rw (section_places ds (declarations_read_again ds formed) high deep) refl
