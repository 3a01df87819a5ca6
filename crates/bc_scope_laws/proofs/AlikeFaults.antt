-- Faults don't depend on numbers: with names that are alike, a walk along numbers and levels finds the faults of the
-- definition.
use Rattle.std.proofs.Common.{◌≡◌, ◌∙◌, ℕ, ◌+◌, Bool, true, false, List, [], ◌∷◌, ◌++◌, length, Option, Some, None, refl}
use Rattle.std.specs.Prelude.{nat_le}
use Rattle.bc_parse_tree.specs.declared.tree.Storage.{Storage}
use Rattle.bc_parse_tree.specs.Tree as tree
use Rattle.bc_core.specs.Level.{operand_level, argument_level, routine_level, level_in_for, level_after_parameters}
use Rattle.bc_scope_defs.specs.Scope.{Env, nothing_known, Name, Numbers, after_place, after_valof, after_labels}
use Rattle.bc_scope_defs.specs.Numbering.{after_entry, following, after_all, after_declarations, after_declaration, after_definition, after_command, after_block, labels_in}
use Rattle.bc_scope_defs.specs.Scoping.{names_of, count, cells_of_all, before_let, cells_in, level_after}
use Rattle.bc_scope_defs.specs.Sides.{side_levels}
use Rattle.bc_scope_defs.specs.Found.{Thing, AValof, ARoutine, Data, section_start, found_in_section}
use Rattle.bc_scope_defs.specs.Faults.{Fault, AMisplaced, ANotAssignable, AFrameTooLarge, or_else, unless, Allowed, in_a_loop, in_a_switch, allowed_in_routine, allowed_in_valof, twice_fault, all_twice_fault, Met, none_met, met_label, met_labels, case_fault, places_fault, fault, all_fault, constants_fault, entries_fault, definition_fault, definitions_fault, declaration_fault, declarations_fault, block_fault, label_fault, labels_fault, items_fault, command_fault, frames_fault, section_fault}
use Rattle.bc_scope_defs.specs.FaultsAlong as along
use Rattle.bc_scope_laws.specs.Laws.{FaultsAskNoNumbers}
use Rattle.bc_scope_laws.proofs.Alike.{Alike, alike_self, alike_pending, alike_entry, alike_valof, alike_parameters, alike_before_let, alike_let, alike_declaration, alike_declarations, alike_for, alike_list, same_inside, same_name_fault, same_jump_fault, same_address_fault, same_not_constant, same_entry_fault, same_constant, same_met, same_mets, same_have_cells}
use Rattle.bc_scope_laws.proofs.AlikeWidths.{same_frame}

-- one name is all the names of a list of one
alone : (ns : List Name) (n : Name) → all_twice_fault ns (n ∷ []) ≡ twice_fault ns n
alone ns n = by (twice_fault ns n) where
  by : (f : Option Fault) → or_else f None ≡ f
  by None = refl
  by (Some f) = refl

mutual
  pub same_fault : {E F : Env} (c : Bool) (at : Numbers) (e : tree.Exp) (s : ℕ) → Alike E F → along.fault c E at e s ≡ fault c F e
  same_fault c at (tree.Name n) s h = same_name_fault c n h
  same_fault c at (tree.Num w) s h = refl
  same_fault c at (tree.Character w) s h = refl
  same_fault c at tree.True s h = refl
  same_fault c at tree.False s h = refl
  same_fault c at (tree.Text bytes) s h = refl
  same_fault c at (tree.Table ks) s h = same_constants at ks h
  same_fault c at (tree.Valof b) s h = same_block allowed_in_valof (after_valof at) b s (alike_valof h)
  same_fault c at (tree.Unary m e) s h = λ i. or_else (same_fault c at e s h i) (same_address_fault c m e h i)
  same_fault c at (tree.Bin o l r) s h = λ i. or_else (same_fault c at l (operand_level s) h i) (same_fault c (following at l) r (operand_level s) h i)
  same_fault c at (tree.Cond t x y) s h =
      let bt = following at t in λ i. or_else (same_fault c at t s h i) (or_else (same_fault c bt x s h i) (same_fault c (following bt x) y s h i))
  same_fault c at (tree.Call f es) s h = λ i. or_else (same_fault c at f (routine_level s (count es)) h i) (same_arguments c (following at f) es (argument_level s) h i)

  same_arguments : {E F : Env} (c : Bool) (at : Numbers) (es : tree.Exps) (s : ℕ) → Alike E F → along.arguments_fault c E at es s ≡ all_fault c F es
  same_arguments c at tree.none s h = refl
  same_arguments c at (tree.more e es) s h = λ i. or_else (same_fault c at e s h i) (same_arguments c (following at e) es (s + 1) h i)

  same_constants : {E F : Env} (at : Numbers) (ks : tree.Exps) → Alike E F → along.constants_fault E at ks ≡ constants_fault F ks
  same_constants at tree.none h = refl
  same_constants at (tree.more k ks) h = λ i. or_else (or_else (same_fault true at k 0 h i) (same_not_constant k h i)) (same_constants at ks h i)

  same_sides : {E F : Env} (at : Numbers) (es : tree.Exps) (ss : List ℕ) → Alike E F → along.sides_fault E at es ss ≡ all_fault false F es
  same_sides at tree.none ss h = refl
  same_sides at (tree.more e es) [] h = λ i. or_else (same_fault false at e 0 h i) (same_sides (following at e) es [] h i)
  same_sides at (tree.more e es) (s ∷ ss) h = λ i. or_else (same_fault false at e s h i) (same_sides (following at e) es ss h i)

  same_initials : {E F : Env} (at : Numbers) (es : tree.Exps) (s : ℕ) → Alike E F → along.initials_fault E at es s ≡ all_fault false F es
  same_initials at tree.none s h = refl
  same_initials at (tree.more e es) s h = λ i. or_else (same_fault false at e s h i) (same_initials (following at e) es s h i)

  same_entries : {E F : Env} (s : Storage) (ns : List Name) (at : Numbers) (es : tree.Entries) → Alike E F → along.entries_fault s ns at es E ≡ entries_fault s ns es F
  same_entries s ns at tree.no_entries h = refl
  same_entries s ns at (tree.entry n k es) h =
      let rest = same_entries s (ns ++ (n ∷ [])) (after_entry s at) es (alike_entry s at section_start n k h) in
      λ i. or_else (twice_fault ns n) (or_else (or_else (same_fault true at k 0 h i) (same_not_constant k h i)) (or_else (same_entry_fault s n k h i) (rest i)))

  same_definition : {E F : Env} (ns : List Name) (at : Numbers) (d : tree.Definition) (s : ℕ) → Alike E F
      → along.definition_fault ns E at d s ≡ definition_fault ns F d
  same_definition ns at (tree.Variables xs es) s h = λ j. or_else (all_twice_fault ns xs) (or_else (same_initials at es s h j) (unless (same_inside h j) AMisplaced))
  same_definition ns at (tree.Vector n k) s h = λ j. or_else (alone ns n j) (or_else (or_else (same_fault true at k 0 h j) (same_not_constant k h j)) (unless (same_inside h j) AMisplaced))
  same_definition ns at (tree.Function n ps e) s h =
      λ j. or_else (alone ns n j) (or_else (all_twice_fault [] ps) (same_fault false (after_place at) e (level_after_parameters (length ps)) (alike_parameters ps h) j))
  same_definition ns at (tree.Routine n ps c) s h =
      λ j. or_else (alone ns n j) (or_else (all_twice_fault [] ps) (same_block allowed_in_routine (after_place at) c (level_after_parameters (length ps)) (alike_parameters ps h) j))

  same_definitions : {E F : Env} (ns : List Name) (at : Numbers) (ds : tree.Definitions) (s : ℕ) → Alike E F
      → along.definitions_fault ns E at ds s ≡ definitions_fault ns F ds
  same_definitions ns at tree.no_definitions s h = refl
  same_definitions ns at (tree.definition d ds) s h =
      λ j. or_else (same_definition ns at d s h j) (same_definitions (ns ++ names_of d) (after_definition at d) ds s h j)

  same_declaration : {E F : Env} (at : Numbers) (d : tree.Declaration) (s : ℕ) → Alike E F → along.declaration_fault E at d s ≡ declaration_fault F d
  same_declaration at (tree.Constants k es) s h = same_entries k [] at es (alike_pending k es h)
  same_declaration {E} {F} at (tree.Let ds) s h =
      same_definitions [] at ds (s + cells_of_all (before_let ds E) ds) (alike_let at section_start s 0 ds h)

  pub same_declarations : {E F : Env} (at : Numbers) (ds : tree.Declarations) (s : ℕ) → Alike E F → along.declarations_fault E at ds s ≡ declarations_fault F ds
  same_declarations at tree.no_declarations s h = refl
  same_declarations {E} {F} at (tree.declaration d ds) s h =
      λ j. or_else (same_declaration at d s h j) (same_declarations (after_declaration at d) ds (s + cells_in E d) (alike_declaration at section_start s 0 d h) j)

  same_block : {E F : Env} (W : Allowed) (at : Numbers) (b : tree.Block) (s : ℕ) → Alike E F → along.block_fault W E at b s ≡ block_fault W F b
  same_block {E} {F} W at (tree.block ds is) s h =
      let after_it = after_declarations at ds in
      let inside = alike_list after_it.label 0 is (alike_declarations at section_start s 0 ds h) in
      λ i. or_else (same_declarations at ds s h i) (same_items false none_met W (after_labels after_it (labels_in is)) is (level_after E at s ds) inside i)

  same_label : {E F : Env} (cases : Bool) (M : Met) (at : Numbers) (l : tree.Label) → Alike E F → along.label_fault cases M E at l ≡ label_fault cases M F l
  same_label cases M at (tree.Case k) h = λ i. or_else (or_else (same_fault true at k 0 h i) (same_not_constant k h i)) (case_fault cases M (same_constant k h i))
  same_label cases M at tree.Default h = refl
  same_label cases M at (tree.Named n) h = refl

  same_labels : {E F : Env} (cases : Bool) (M : Met) (at : Numbers) (ls : tree.Labels) → Alike E F → along.labels_fault cases M E at ls ≡ labels_fault cases M F ls
  same_labels cases M at tree.no_labels h = refl
  same_labels {E} {F} cases M at (tree.label l ls) h =
      let rest = same_labels cases (met_label E M l) at ls h ∙ (λ i. labels_fault cases (same_met M l h i) F ls) in
      λ i. or_else (same_label cases M at l h i) (rest i)

  same_items : {E F : Env} (cases : Bool) (M : Met) (W : Allowed) (at : Numbers) (is : tree.Items) (s : ℕ) → Alike E F → along.items_fault cases M W E at is s ≡ items_fault cases M W F is
  same_items cases M W at tree.no_items s h = refl
  same_items {E} {F} cases M W at (tree.item (tree.Labelled ls c) is) s h =
      let rest = same_items cases (met_labels E M ls) W (after_command at c) is s h ∙ (λ i. items_fault cases (same_mets M ls h i) W F is) in
      λ i. or_else (same_labels cases M at ls h i) (or_else (same_command W at c s h i) (rest i))
  same_items {E} {F} cases M W at (tree.item (tree.Labels_alone ls) is) s h =
      let rest = same_items cases (met_labels E M ls) W at is s h ∙ (λ i. items_fault cases (same_mets M ls h i) W F is) in
      λ i. or_else (same_labels cases M at ls h i) (rest i)

  pub same_command : {E F : Env} (W : Allowed) (at : Numbers) (c : tree.Command) (s : ℕ) → Alike E F → along.command_fault W E at c s ≡ command_fault W F c
  same_command {E} {F} W at (tree.Assign xs es) s h =
      let ss = side_levels E xs s in
      λ i. or_else (same_sides at xs ss h i) (or_else (same_sides (after_all at xs) es ss h i) (unless (same_have_cells xs h i) ANotAssignable))
  same_command W at (tree.Do f es) s h = λ i. or_else (same_fault false at f (routine_level s (count es)) h i) (same_arguments false (following at f) es (argument_level s) h i)
  same_command W at (tree.Compound b) s h = same_block W at b s h
  same_command W at tree.Break s h = refl
  same_command W at tree.Loop s h = refl
  same_command W at tree.EndCase s h = refl
  same_command W at tree.Return s h = refl
  same_command W at tree.Finish s h = refl
  same_command W at (tree.ResultIs e) s h = λ i. or_else (same_fault false at e s h i) (unless W.in_valof AMisplaced)
  same_command W at (tree.Goto n) s h = same_jump_fault n h
  same_command W at (tree.Repeat c) s h = same_command (in_a_loop W) at c s h
  same_command W at (tree.RepeatWhile c e) s h = λ i. or_else (same_command (in_a_loop W) at c s h i) (same_fault false (after_command at c) e s h i)
  same_command W at (tree.RepeatUntil c e) s h = λ i. or_else (same_command (in_a_loop W) at c s h i) (same_fault false (after_command at c) e s h i)
  same_command W at (tree.If e b) s h = λ i. or_else (same_fault false at e s h i) (same_block W (following at e) b s h i)
  same_command W at (tree.Unless e b) s h = λ i. or_else (same_fault false at e s h i) (same_block W (following at e) b s h i)
  same_command W at (tree.While e b) s h = λ i. or_else (same_fault false at e s h i) (same_block (in_a_loop W) (following at e) b s h i)
  same_command W at (tree.Until e b) s h = λ i. or_else (same_fault false at e s h i) (same_block (in_a_loop W) (following at e) b s h i)
  same_command W at (tree.Test e b c) s h =
      let be = following at e in λ i. or_else (same_fault false at e s h i) (or_else (same_block W be b s h i) (same_block W (after_block be b) c s h i))
  same_command W at (tree.For n a z b) s h =
      let s1 = level_in_for s in
      let ba = following at a in
      λ i. or_else (same_fault false at a s1 h i) (or_else (same_fault false ba z s1 h i) (same_block (in_a_loop W) (following ba z) b s1 (alike_for n s 0 h) i))
  same_command W at (tree.ForBy n a z k b) s h =
      let s1 = level_in_for s in
      let ba = following at a in
      let bz = following ba z in
      λ i. or_else (same_fault false at a s1 h i) (or_else (same_fault false ba z s1 h i) (or_else (or_else (same_fault true bz k 0 h i) (same_not_constant k h i)) (same_block (in_a_loop W) bz b s1 (alike_for n s 0 h) i)))
  same_command W at (tree.SwitchOn e is) s h =
      let be = following at e in
      λ i. or_else (same_fault false at e s h i) (same_items true none_met (in_a_switch W) (after_labels be (labels_in is)) is s (alike_list be.label 0 is h) i)

pub same_frames_fault : (things : List Thing) → along.frames_fault things ≡ frames_fault things
same_frames_fault [] = refl
same_frames_fault (AValof f ∷ things) = same_frames_fault things
same_frames_fault (ARoutine r ∷ things) = λ i. or_else (unless (nat_le (same_frame r i) 32768) AFrameTooLarge) (same_frames_fault things i)
same_frames_fault (Data m d ∷ things) = same_frames_fault things

pub same_section_fault : (ds : tree.Declarations) → along.section_fault ds ≡ section_fault ds
same_section_fault ds =
    let things = found_in_section ds in
    λ i. or_else (same_declarations section_start ds 0 (alike_self nothing_known) i) (or_else (same_frames_fault things i) (places_fault things))

pub faults_ask_no_numbers : FaultsAskNoNumbers
faults_ask_no_numbers = record {
  of_expressions = λ c E F h at e s. same_fault c at e s (record { same = h });
  of_commands = λ W E F h at c s. same_command W at c s (record { same = h });
  of_declarations = λ E F h at ds s. same_declarations at ds s (record { same = h });
  of_sections = same_section_fault;
}
