-- For proofs: the faults of `Faults`, found along the numbers and levels of a tree. They are the same by
-- `bc_scope_laws::laws::faults_ask_no_numbers`.
use Rattle.std.specs.Prelude.{ℕ, ◌+◌, nat_le, Bool, true, false, List, [], ◌∷◌, ◌++◌, length, Option, None}
use Rattle.bc_parse_tree.specs.declared.tree.Storage.{Storage}
use Rattle.bc_parse_tree.specs.Tree.{Exp, Exps, none, more, Block, block, Declaration, Declarations, no_declarations, declaration, Entries, no_entries, entry, Definition, Definitions, no_definitions, definition, Item, Labelled, Labels_alone, Items, no_items, item, Label, Labels, no_labels, label, Command}
use Rattle.bc_parse_tree.specs.Tree as tree
use Rattle.bc_core.specs.Level.{operand_level, argument_level, routine_level, level_in_for, level_after_parameters}
use Rattle.bc_scope_defs.specs.Scope.{Env, nothing_known, Name, meant_by, Numbers, after_place, after_valof, after_labels}
use Rattle.bc_scope_defs.specs.Numbering.{after_entry, following, after_all, after_declarations, after_declaration, after_definition, after_command, after_block, labels_in}
use Rattle.bc_scope_defs.specs.Scoping.{constant, pending, in_entry, names_of, count, cells_of_all, before_let, in_let, in_declaration, in_declarations, cells_in, level_after, in_for, in_list, in_valof}
use Rattle.bc_scope_defs.specs.Sides.{side_levels}
use Rattle.bc_scope_defs.specs.Found.{in_parameters, Thing, AValof, ARoutine, Data, section_start, found_in_section}
use Rattle.bc_scope_defs.specs.FramesAlong.{frame_of}
use Rattle.bc_scope_defs.specs.Faults.{Fault, ANotAssignable, AMisplaced, AFrameTooLarge, or_else, unless, Allowed, in_a_loop, in_a_switch, allowed_in_routine, allowed_in_valof, name_fault, jump_fault, not_constant, address_fault, all_have_cells, twice_fault, all_twice_fault, Met, none_met, met_label, met_labels, case_fault, default_fault, entry_fault, places_fault}

abbrev mutual
  pub fault : (constant : Bool) → Env → Numbers → Exp → (s : ℕ) → Option Fault
  fault c E at (tree.Name n) s = name_fault c n (meant_by E n)
  fault c E at (tree.Table ks) s = constants_fault E at ks
  fault c E at (tree.Valof b) s = block_fault allowed_in_valof (in_valof E) (after_valof at) b s
  fault c E at (tree.Unary m e) s = or_else (fault c E at e s) (address_fault c E m e)
  fault c E at (tree.Bin o l r) s = or_else (fault c E at l (operand_level s)) (fault c E (following at l) r (operand_level s))
  fault c E at (tree.Cond t x y) s =
      let after_test = following at t in or_else (fault c E at t s) (or_else (fault c E after_test x s) (fault c E (following after_test x) y s))
  fault c E at (tree.Call f es) s = or_else (fault c E at f (routine_level s (count es))) (arguments_fault c E (following at f) es (argument_level s))
  fault c E at _ s = None

  pub arguments_fault : (constant : Bool) → Env → Numbers → Exps → (s : ℕ) → Option Fault
  arguments_fault c E at none s = None
  arguments_fault c E at (more e es) s = or_else (fault c E at e s) (arguments_fault c E (following at e) es (s + 1))

  pub constants_fault : Env → Numbers → Exps → Option Fault
  constants_fault E at none = None
  constants_fault E at (more k ks) = or_else (or_else (fault true E at k 0) (not_constant E k)) (constants_fault E at ks)

  pub sides_fault : Env → Numbers → Exps → List ℕ → Option Fault
  sides_fault E at none ss = None
  sides_fault E at (more e es) [] = or_else (fault false E at e 0) (sides_fault E (following at e) es [])
  sides_fault E at (more e es) (s ∷ ss) = or_else (fault false E at e s) (sides_fault E (following at e) es ss)

  pub initials_fault : Env → Numbers → Exps → (s : ℕ) → Option Fault
  initials_fault E at none s = None
  initials_fault E at (more e es) s = or_else (fault false E at e s) (initials_fault E (following at e) es s)

  pub entries_fault : Storage → (before : List Name) → Numbers → Entries → Env → Option Fault
  entries_fault s ns at no_entries E = None
  entries_fault s ns at (entry n k es) E =
      or_else (twice_fault ns n) (or_else (or_else (fault true E at k 0) (not_constant E k)) (or_else (entry_fault s E n k)
      (entries_fault s (ns ++ (n ∷ [])) (after_entry s at) es (in_entry s at n k E))))

  pub definition_fault : (before : List Name) → Env → Numbers → Definition → (s : ℕ) → Option Fault
  definition_fault ns E at (tree.Variables xs es) s = or_else (all_twice_fault ns xs) (or_else (initials_fault E at es s) (unless E.inside AMisplaced))
  definition_fault ns E at (tree.Vector n k) s =
      or_else (all_twice_fault ns (n ∷ [])) (or_else (or_else (fault true E at k 0) (not_constant E k)) (unless E.inside AMisplaced))
  definition_fault ns E at (tree.Function n ps e) s =
      or_else (all_twice_fault ns (n ∷ []))
      (or_else (all_twice_fault [] ps) (fault false (in_parameters ps E) (after_place at) e (level_after_parameters (length ps))))
  definition_fault ns E at (tree.Routine n ps b) s =
      or_else (all_twice_fault ns (n ∷ []))
      (or_else (all_twice_fault [] ps) (block_fault allowed_in_routine (in_parameters ps E) (after_place at) b (level_after_parameters (length ps))))

  pub definitions_fault : (before : List Name) → Env → Numbers → Definitions → (s : ℕ) → Option Fault
  definitions_fault ns E at no_definitions s = None
  definitions_fault ns E at (definition d ds) s =
      or_else (definition_fault ns E at d s) (definitions_fault (ns ++ names_of d) E (after_definition at d) ds s)

  pub declaration_fault : Env → Numbers → Declaration → (s : ℕ) → Option Fault
  declaration_fault E at (tree.Constants k es) s = entries_fault k [] at es (pending k es E)
  declaration_fault E at (tree.Let ds) s = definitions_fault [] (in_let E at s ds) at ds (s + cells_of_all (before_let ds E) ds)

  pub declarations_fault : Env → Numbers → Declarations → (s : ℕ) → Option Fault
  declarations_fault E at no_declarations s = None
  declarations_fault E at (declaration d ds) s =
      or_else (declaration_fault E at d s) (declarations_fault (in_declaration E at s d) (after_declaration at d) ds (s + cells_in E d))

  pub block_fault : Allowed → Env → Numbers → Block → (s : ℕ) → Option Fault
  block_fault W E at (block ds is) s =
      let after_it = after_declarations at ds in
      or_else (declarations_fault E at ds s)
      (items_fault false none_met W (in_list after_it.label is (in_declarations E at s ds)) (after_labels after_it (labels_in is)) is
      (level_after E at s ds))

  pub label_fault : (cases : Bool) → Met → Env → Numbers → Label → Option Fault
  label_fault cases M E at (tree.Case k) = or_else (or_else (fault true E at k 0) (not_constant E k)) (case_fault cases M (constant E k))
  label_fault cases M E at tree.Default = default_fault cases M
  label_fault cases M E at (tree.Named n) = twice_fault M.names n

  pub labels_fault : (cases : Bool) → Met → Env → Numbers → Labels → Option Fault
  labels_fault cases M E at no_labels = None
  labels_fault cases M E at (label l ls) = or_else (label_fault cases M E at l) (labels_fault cases (met_label E M l) E at ls)

  pub items_fault : (cases : Bool) → (met : Met) → Allowed → Env → Numbers → Items → (s : ℕ) → Option Fault
  items_fault cases M W E at no_items s = None
  items_fault cases M W E at (item (Labelled ls c) is) s =
      or_else (labels_fault cases M E at ls) (or_else (command_fault W E at c s) (items_fault cases (met_labels E M ls) W E (after_command at c) is s))
  items_fault cases M W E at (item (Labels_alone ls) is) s = or_else (labels_fault cases M E at ls) (items_fault cases (met_labels E M ls) W E at is s)

  pub command_fault : Allowed → Env → Numbers → Command → (s : ℕ) → Option Fault
  command_fault W E at (tree.Assign xs es) s =
      let ss = side_levels E xs s in
      or_else (sides_fault E at xs ss) (or_else (sides_fault E (after_all at xs) es ss) (unless (all_have_cells E xs) ANotAssignable))
  command_fault W E at (tree.Do f es) s =
      or_else (fault false E at f (routine_level s (count es))) (arguments_fault false E (following at f) es (argument_level s))
  command_fault W E at (tree.Compound b) s = block_fault W E at b s
  command_fault W E at tree.Break s = unless W.in_loop AMisplaced
  command_fault W E at tree.Loop s = unless W.in_loop AMisplaced
  command_fault W E at tree.EndCase s = unless W.in_cases AMisplaced
  command_fault W E at tree.Return s = unless W.may_return AMisplaced
  command_fault W E at tree.Finish s = None
  command_fault W E at (tree.ResultIs e) s = or_else (fault false E at e s) (unless W.in_valof AMisplaced)
  command_fault W E at (tree.Goto n) s = jump_fault n (meant_by E n)
  command_fault W E at (tree.Repeat c) s = command_fault (in_a_loop W) E at c s
  command_fault W E at (tree.RepeatWhile c e) s = or_else (command_fault (in_a_loop W) E at c s) (fault false E (after_command at c) e s)
  command_fault W E at (tree.RepeatUntil c e) s = or_else (command_fault (in_a_loop W) E at c s) (fault false E (after_command at c) e s)
  command_fault W E at (tree.If e b) s = or_else (fault false E at e s) (block_fault W E (following at e) b s)
  command_fault W E at (tree.Unless e b) s = or_else (fault false E at e s) (block_fault W E (following at e) b s)
  command_fault W E at (tree.While e b) s = or_else (fault false E at e s) (block_fault (in_a_loop W) E (following at e) b s)
  command_fault W E at (tree.Until e b) s = or_else (fault false E at e s) (block_fault (in_a_loop W) E (following at e) b s)
  command_fault W E at (tree.Test e b c) s =
      let after_test = following at e in
      or_else (fault false E at e s) (or_else (block_fault W E after_test b s) (block_fault W E (after_block after_test b) c s))
  command_fault W E at (tree.For n a z b) s =
      let after_start = following at a in
      let s1 = level_in_for s in
      or_else (fault false E at a s1) (or_else (fault false E after_start z s1) (block_fault (in_a_loop W) (in_for E n s) (following after_start z) b s1))
  command_fault W E at (tree.ForBy n a z k b) s =
      let after_start = following at a in
      let s1 = level_in_for s in
      or_else (fault false E at a s1)
      (or_else (fault false E after_start z s1) (or_else (or_else (fault true E (following after_start z) k 0) (not_constant E k))
      (block_fault (in_a_loop W) (in_for E n s) (following after_start z) b s1)))
  command_fault W E at (tree.SwitchOn e is) s =
      let after_value = following at e in
      or_else (fault false E at e s)
      (items_fault true none_met (in_a_switch W) (in_list after_value.label is E) (after_labels after_value (labels_in is)) is s)

abbrev pub frames_fault : List Thing → Option Fault
frames_fault [] = None
frames_fault (AValof f ∷ things) = frames_fault things
frames_fault (ARoutine r ∷ things) = or_else (unless (nat_le (frame_of r) 32768) AFrameTooLarge) (frames_fault things)
frames_fault (Data m d ∷ things) = frames_fault things

abbrev pub section_fault : Declarations → Option Fault
section_fault ds =
    let things = found_in_section ds in
    or_else (declarations_fault nothing_known section_start ds 0) (or_else (frames_fault things) (places_fault things))
