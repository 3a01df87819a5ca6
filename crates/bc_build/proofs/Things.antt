-- The routines and VALOFs that are found in a tree with nesting depth at most 200 have such a depth too.
use Rattle.std.proofs.Common.{ℕ, ◌+◌, ◌≤◌, List, [], ◌∷◌, ◌++◌, length, arith}
use Rattle.bc_parse_tree.specs.declared.tree.Storage.{Storage}
use Rattle.bc_parse_tree.specs.declared.tree.Storage.TheVariants as storage
use Rattle.bc_parse_tree.specs.Tree as tree
use Rattle.bc_parse_tree.specs.Height.{exp_height, exps_height, block_height, declaration_height, declarations_height, definition_height, definitions_height, items_height, command_height}
use Rattle.bc_core.specs.Level.{operand_level, argument_level, routine_level, level_in_for, level_after_parameters}
use Rattle.bc_scope_defs.specs.Scope.{Env, Numbers, after_valof, after_labels, after_place}
use Rattle.bc_scope_defs.specs.Numbering.{following, after_all, after_declarations, after_declaration, after_definition, after_command, after_block, labels_of, labels_in}
use Rattle.bc_scope_defs.specs.Scoping.{count, pending, in_entry, before_let, in_let, in_declaration, in_declarations, cells_in, cells_of_all, level_after, in_for, in_list, in_valof}
use Rattle.bc_scope_defs.specs.Sides.{side_levels}
use Rattle.bc_scope_defs.specs.Found.{Thing, AValof, ARoutine, Data, in_parameters, found_in_entries, found, found_in_arguments, found_in_sides, found_in_initials, found_in_definition, found_in_definitions, found_in_declaration, found_in_declarations, found_in_block, found_in_items, found_in_command}
use Rattle.bc_scope_defs.specs.Translation.{core_routine, valof_of}
use Rattle.bc_scope_laws.proofs.Fits.{AllThings}
use Rattle.bc_scope_laws.proofs.Cleanness.{all_joined}
use Rattle.bc_build.proofs.Throughout.{OfBlock, OfBody}
use Rattle.bc_build.proofs.Commands.{Low, content_low, block_low}

abbrev pub ThingLow : Thing → Type 0
ThingLow (AValof f) = OfBlock Low (valof_of f).body
ThingLow (ARoutine r) = OfBody Low (core_routine r).body
ThingLow (Data label d) = Unit {0}

abbrev pub ThingsLow : List Thing → Type 0
ThingsLow things = AllThings ThingLow things

joined : (fs gs : List Thing) → ThingsLow fs → ThingsLow gs → ThingsLow (fs ++ gs)
joined fs gs h k = all_joined ThingLow fs gs h k

entries_low : (s : Storage) (at : Numbers) (es : tree.Entries) (E : Env) → ThingsLow (found_in_entries s at es E)
entries_low s at tree.no_entries E = tt
entries_low storage.Static at (tree.entry n k es) E = (tt, entries_low storage.Static (after_place at) es (in_entry storage.Static at n k E))
entries_low storage.Manifest at (tree.entry n k es) E = entries_low storage.Manifest at es (in_entry storage.Manifest at n k E)
entries_low storage.Global at (tree.entry n k es) E = entries_low storage.Global at es (in_entry storage.Global at n k E)

mutual
  found_low : (E : Env) (at : Numbers) (e : tree.Exp) (s : ℕ) → exp_height e ≤ 200 → ThingsLow (found E at e s)
  found_low E at (tree.Name n) s h = tt
  found_low E at (tree.Num n) s h = tt
  found_low E at (tree.Character n) s h = tt
  found_low E at tree.True s h = tt
  found_low E at tree.False s h = tt
  found_low E at (tree.Text text) s h = (tt, tt)
  found_low E at (tree.Table ks) s h = (tt, tt)
  found_low E at (tree.Valof b) s h =
      (block_low (in_valof E) (after_valof at) b s (omega arith), in_block_low (in_valof E) (after_valof at) b s (omega arith))
  found_low E at (tree.Unary m e) s h = found_low E at e s (omega arith)
  found_low E at (tree.Bin o l r) s h =
      let s1 = operand_level s in
      joined (found E at l s1) (found E (following at l) r s1) (found_low E at l s1 (omega arith)) (found_low E (following at l) r s1 (omega arith))
  found_low E at (tree.Cond c x y) s h =
      let bc = following at c in
      let bx = following bc x in
      joined (found E at c s) (found E bc x s ++ found E bx y s) (found_low E at c s (omega arith))
      (joined (found E bc x s) (found E bx y s) (found_low E bc x s (omega arith)) (found_low E bx y s (omega arith)))
  found_low E at (tree.Call f es) s h =
      joined (found E at f (routine_level s (count es))) (found_in_arguments E (following at f) es (argument_level s))
      (found_low E at f (routine_level s (count es)) (omega arith)) (arguments_low E (following at f) es (argument_level s) (omega arith))

  arguments_low : (E : Env) (at : Numbers) (es : tree.Exps) (s : ℕ) → exps_height es ≤ 200 → ThingsLow (found_in_arguments E at es s)
  arguments_low E at tree.none s h = tt
  arguments_low E at (tree.more e es) s h =
      joined (found E at e s) (found_in_arguments E (following at e) es (s + 1)) (found_low E at e s (omega arith)) (arguments_low E (following at e) es (s + 1) (omega arith))

  sides_low : (E : Env) (at : Numbers) (es : tree.Exps) (ss : List ℕ) → exps_height es ≤ 200 → ThingsLow (found_in_sides E at es ss)
  sides_low E at tree.none ss h = tt
  sides_low E at (tree.more e es) [] h =
      joined (found E at e 0) (found_in_sides E (following at e) es []) (found_low E at e 0 (omega arith)) (sides_low E (following at e) es [] (omega arith))
  sides_low E at (tree.more e es) (s ∷ ss) h =
      joined (found E at e s) (found_in_sides E (following at e) es ss) (found_low E at e s (omega arith)) (sides_low E (following at e) es ss (omega arith))

  initials_low : (E : Env) (at : Numbers) (es : tree.Exps) (s : ℕ) → exps_height es ≤ 200 → ThingsLow (found_in_initials E at es s)
  initials_low E at tree.none s h = tt
  initials_low E at (tree.more e es) s h =
      joined (found E at e s) (found_in_initials E (following at e) es s) (found_low E at e s (omega arith)) (initials_low E (following at e) es s (omega arith))

  definition_low : (O E : Env) (at : Numbers) (d : tree.Definition) (s : ℕ) → definition_height d ≤ 200 → ThingsLow (found_in_definition O E at d s)
  definition_low O E at (tree.Variables ns es) s h = initials_low E at es s (omega arith)
  definition_low O E at (tree.Vector n k) s h = tt
  definition_low O E at (tree.Function n ps e) s h =
      let E1 = in_parameters ps E in
      let at1 = after_place at in
      (content_low E1 at1 e (omega arith), found_low E1 at1 e (level_after_parameters (length ps)) (omega arith))
  definition_low O E at (tree.Routine n ps b) s h =
      let E1 = in_parameters ps E in
      let at1 = after_place at in
      let s1 = level_after_parameters (length ps) in
      (block_low E1 at1 b s1 (omega arith), in_block_low E1 at1 b s1 (omega arith))

  definitions_low : (O E : Env) (at : Numbers) (ds : tree.Definitions) (s : ℕ) → definitions_height ds ≤ 200 → ThingsLow (found_in_definitions O E at ds s)
  definitions_low O E at tree.no_definitions s h = tt
  definitions_low O E at (tree.definition d ds) s h =
      joined (found_in_definition O E at d s) (found_in_definitions O E (after_definition at d) ds s)
      (definition_low O E at d s (omega arith)) (definitions_low O E (after_definition at d) ds s (omega arith))

  declaration_low : (E : Env) (at : Numbers) (d : tree.Declaration) (s : ℕ) → declaration_height d ≤ 200 → ThingsLow (found_in_declaration E at d s)
  declaration_low E at (tree.Constants k es) s h = entries_low k at es (pending k es E)
  declaration_low E at (tree.Let ds) s h = definitions_low E (in_let E at s ds) at ds (s + cells_of_all (before_let ds E) ds) (omega arith)

  pub declarations_low : (E : Env) (at : Numbers) (ds : tree.Declarations) (s : ℕ) → declarations_height ds ≤ 200 → ThingsLow (found_in_declarations E at ds s)
  declarations_low E at tree.no_declarations s h = tt
  declarations_low E at (tree.declaration d ds) s h =
      let E1 = in_declaration E at s d in
      let at1 = after_declaration at d in
      joined (found_in_declaration E at d s) (found_in_declarations E1 at1 ds (s + cells_in E d))
      (declaration_low E at d s (omega arith)) (declarations_low E1 at1 ds (s + cells_in E d) (omega arith))

  in_block_low : (E : Env) (at : Numbers) (b : tree.Block) (s : ℕ) → block_height b ≤ 200 → ThingsLow (found_in_block E at b s)
  in_block_low E at (tree.block ds is) s h =
      let at1 = after_declarations at ds in
      let k = at1.label in
      let E1 = in_list k is (in_declarations E at s ds) in
      let at2 = after_labels at1 (labels_in is) in
      let s1 = level_after E at s ds in
      joined (found_in_declarations E at ds s) (found_in_items E1 k at2 is s1) (declarations_low E at ds s (omega arith)) (items_low E1 k at2 is s1 (omega arith))

  items_low : (E : Env) (k : ℕ) (at : Numbers) (is : tree.Items) (s : ℕ) → items_height is ≤ 200 → ThingsLow (found_in_items E k at is s)
  items_low E k at tree.no_items s h = tt
  items_low E k at (tree.item (tree.Labelled ls c) is) s h =
      joined (found_in_command E at c s) (found_in_items E (k + labels_of ls) (after_command at c) is s)
      (command_low E at c s (omega arith)) (items_low E (k + labels_of ls) (after_command at c) is s (omega arith))
  items_low E k at (tree.item (tree.Labels_alone ls) is) s h = items_low E (k + labels_of ls) at is s (omega arith)

  command_low : (E : Env) (at : Numbers) (c : tree.Command) (s : ℕ) → command_height c ≤ 200 → ThingsLow (found_in_command E at c s)
  command_low E at (tree.Assign xs es) s h =
      let ss = side_levels E xs s in
      let at1 = after_all at xs in
      joined (found_in_sides E at xs ss) (found_in_sides E at1 es ss) (sides_low E at xs ss (omega arith)) (sides_low E at1 es ss (omega arith))
  command_low E at (tree.Do f es) s h =
      joined (found E at f (routine_level s (count es))) (found_in_arguments E (following at f) es (argument_level s))
      (found_low E at f (routine_level s (count es)) (omega arith)) (arguments_low E (following at f) es (argument_level s) (omega arith))
  command_low E at (tree.Compound b) s h = in_block_low E at b s (omega arith)
  command_low E at tree.Break s h = tt
  command_low E at tree.Loop s h = tt
  command_low E at tree.EndCase s h = tt
  command_low E at tree.Return s h = tt
  command_low E at tree.Finish s h = tt
  command_low E at (tree.Goto n) s h = tt
  command_low E at (tree.ResultIs e) s h = found_low E at e s (omega arith)
  command_low E at (tree.Repeat c) s h = command_low E at c s (omega arith)
  command_low E at (tree.RepeatWhile c e) s h =
      let bc = after_command at c in joined (found_in_command E at c s) (found E bc e s) (command_low E at c s (omega arith)) (found_low E bc e s (omega arith))
  command_low E at (tree.RepeatUntil c e) s h =
      let bc = after_command at c in joined (found_in_command E at c s) (found E bc e s) (command_low E at c s (omega arith)) (found_low E bc e s (omega arith))
  command_low E at (tree.If e b) s h = let be = following at e in joined (found E at e s) (found_in_block E be b s) (found_low E at e s (omega arith)) (in_block_low E be b s (omega arith))
  command_low E at (tree.Unless e b) s h = let be = following at e in joined (found E at e s) (found_in_block E be b s) (found_low E at e s (omega arith)) (in_block_low E be b s (omega arith))
  command_low E at (tree.While e b) s h = let be = following at e in joined (found E at e s) (found_in_block E be b s) (found_low E at e s (omega arith)) (in_block_low E be b s (omega arith))
  command_low E at (tree.Until e b) s h = let be = following at e in joined (found E at e s) (found_in_block E be b s) (found_low E at e s (omega arith)) (in_block_low E be b s (omega arith))
  command_low E at (tree.Test e b c) s h =
      let be = following at e in
      let bb = after_block be b in
      joined (found E at e s) (found_in_block E be b s ++ found_in_block E bb c s) (found_low E at e s (omega arith))
      (joined (found_in_block E be b s) (found_in_block E bb c s) (in_block_low E be b s (omega arith)) (in_block_low E bb c s (omega arith)))
  command_low E at (tree.For n a z b) s h =
      let s1 = level_in_for s in
      let ba = following at a in
      let bz = following ba z in
      joined (found E at a s1) (found E ba z s1 ++ found_in_block (in_for E n s) bz b s1) (found_low E at a s1 (omega arith))
      (joined (found E ba z s1) (found_in_block (in_for E n s) bz b s1) (found_low E ba z s1 (omega arith)) (in_block_low (in_for E n s) bz b s1 (omega arith)))
  command_low E at (tree.ForBy n a z k b) s h =
      let s1 = level_in_for s in
      let ba = following at a in
      let bz = following ba z in
      joined (found E at a s1) (found E ba z s1 ++ found_in_block (in_for E n s) bz b s1) (found_low E at a s1 (omega arith))
      (joined (found E ba z s1) (found_in_block (in_for E n s) bz b s1) (found_low E ba z s1 (omega arith)) (in_block_low (in_for E n s) bz b s1 (omega arith)))
  command_low E at (tree.SwitchOn e is) s h =
      let be = following at e in
      let k = be.label in
      let E1 = in_list k is E in
      let at1 = after_labels be (labels_in is) in
      joined (found E at e s) (found_in_items E1 k at1 is s) (found_low E at e s (omega arith)) (items_low E1 k at1 is s (omega arith))
