-- The routines, VALOFs and data that are found in a tree, in text order, each with the names and numbers at its
-- place.
use Rattle.std.specs.Prelude.{ℕ, ◌+◌, List, [], ◌∷◌, ◌++◌, length, Option, Some, None}
use Rattle.bc_parse_tree.specs.declared.tree.Storage.{Storage}
use Rattle.bc_parse_tree.specs.declared.tree.Storage.TheVariants as storage
use Rattle.bc_parse_tree.specs.Tree.{Exp, Exps, none, more, Block, block, Declaration, Declarations, no_declarations, declaration, Entries, no_entries, entry, Definition, Definitions, no_definitions, definition, Item, Labelled, Labels_alone, Items, no_items, item, Command}
use Rattle.bc_parse_tree.specs.Tree as tree
use Rattle.bc_core.specs.Level.{operand_level, argument_level, routine_level, level_in_for, level_after_parameters}
use Rattle.bc_scope_defs.specs.Scope.{Meant, Global, Env, nothing_known, meant_by, Numbers, after_valof, after_labels, after_place, Name}
use Rattle.bc_scope_defs.specs.Numbering.{after_entry, following, after_all, after_declarations, after_declaration, after_definition, after_command, after_block, labels_of, labels_in}
use Rattle.bc_scope_defs.specs.Scoping.{constant, pending, in_entry, count, cells_of_all, before_let, in_let, in_declaration, in_declarations, cells_in, level_after, in_for, in_list, in_valof, in_routine, variables}
use Rattle.bc_scope_defs.specs.Characters.{decoded}
use Rattle.bc_scope_defs.specs.Sides.{side_levels}

-- A VALOF: its number and its body, and for the body the names in scope, the next numbers, and the next free offset.
pub record Found : Type 0 where
  pub number : ℕ
  pub names : Env
  pub numbers : Numbers
  pub body : Block
  pub level : ℕ

-- the body of a routine: an expression, or a block
pub data RoutineBody : Type 0 where
  Gives : Exp → RoutineBody
  Does : Block → RoutineBody

-- a routine: its label, the global that it sets, the number of its parameters, and its body with the names and
-- numbers there
pub record FoundRoutine : Type 0 where
  pub label : ℕ
  pub global : Option ℕ
  pub parameters : ℕ
  pub names : Env
  pub numbers : Numbers
  pub body : RoutineBody

-- a static with its first word, a table with its words, or a string with its bytes
pub data Datum : Type 0 where
  AStatic : ℕ → Datum
  ATable : List ℕ → Datum
  AText : List ℕ → Datum

-- what is found
pub data Thing : Type 0 where
  AValof : Found → Thing
  ARoutine : FoundRoutine → Thing
  -- a static, a table or a string, with its label
  Data : (label : ℕ) → Datum → Thing

-- the names in a routine, whose parameters are at the offsets from 2 on
abbrev pub in_parameters : List Name → Env → Env
in_parameters ps E = variables ps 2 (in_routine E)

-- the global that a name means, if it means one
abbrev pub global_of : Meant → Option ℕ
global_of (Global n) = Some n
global_of _ = None

-- The routine of a definition. `before` has what names mean before the LET, and decides whether the routine sets a
-- global.
abbrev pub routine : (before names : Env) → Numbers → Name → List Name → RoutineBody → Thing
routine B E at n ps b =
    ARoutine (record {
      label = at.place;
      global = global_of (meant_by B n);
      parameters = length ps;
      names = in_parameters ps E;
      numbers = after_place at;
      body = b;
    })

-- the words of a table
abbrev pub words_of_table : Env → Exps → List ℕ
words_of_table E none = []
words_of_table E (more k ks) = constant E k ∷ words_of_table E ks

-- what is found in an entry: a static
abbrev pub found_entry : Storage → Numbers → ℕ → List Thing
found_entry storage.Static at w = Data at.place (AStatic w) ∷ []
found_entry _ at w = []

-- what is found in the entries of a declaration
abbrev pub found_in_entries : Storage → Numbers → Entries → Env → List Thing
found_in_entries s at no_entries E = []
found_in_entries s at (entry n k es) E = found_entry s at (constant E k) ++ found_in_entries s (after_entry s at) es (in_entry s at n k E)

abbrev mutual
  -- what is found in an expression at the level s
  pub found : Env → Numbers → Exp → (s : ℕ) → List Thing
  found E at (tree.Valof b) s =
      AValof (record { number = at.valof; names = in_valof E; numbers = after_valof at; body = b; level = s })
      ∷ found_in_block (in_valof E) (after_valof at) b s
  found E at (tree.Unary m e) s = found E at e s
  found E at (tree.Bin o l r) s = found E at l (operand_level s) ++ found E (following at l) r (operand_level s)
  found E at (tree.Cond c x y) s =
      let after_test = following at c in found E at c s ++ (found E after_test x s ++ found E (following after_test x) y s)
  found E at (tree.Call f es) s = found E at f (routine_level s (count es)) ++ found_in_arguments E (following at f) es (argument_level s)
  found E at (tree.Text text) s = Data at.place (AText (decoded text)) ∷ []
  found E at (tree.Table ks) s = Data at.place (ATable (words_of_table E ks)) ∷ []
  found E at _ s = []

  -- what is found in the arguments of a call, each one level higher than the one before it
  pub found_in_arguments : Env → Numbers → Exps → (s : ℕ) → List Thing
  found_in_arguments E at none s = []
  found_in_arguments E at (more e es) s = found E at e s ++ found_in_arguments E (following at e) es (s + 1)

  -- what is found on one side of an assignment, each expression at its own level
  pub found_in_sides : Env → Numbers → Exps → List ℕ → List Thing
  found_in_sides E at none ss = []
  found_in_sides E at (more e es) [] = found E at e 0 ++ found_in_sides E (following at e) es []
  found_in_sides E at (more e es) (s ∷ ss) = found E at e s ++ found_in_sides E (following at e) es ss

  -- what is found in initialisers, all at one level
  pub found_in_initials : Env → Numbers → Exps → (s : ℕ) → List Thing
  found_in_initials E at none s = []
  found_in_initials E at (more e es) s = found E at e s ++ found_in_initials E (following at e) es s

  -- what is found in a definition; s is the level of its initialisers
  pub found_in_definition : (before names : Env) → Numbers → Definition → (s : ℕ) → List Thing
  found_in_definition B E at (tree.Variables ns es) s = found_in_initials E at es s
  found_in_definition B E at (tree.Vector n k) s = []
  found_in_definition B E at (tree.Function n ps e) s = routine B E at n ps (Gives e)
      ∷ found (in_parameters ps E) (after_place at) e (level_after_parameters (length ps))
  found_in_definition B E at (tree.Routine n ps b) s = routine B E at n ps (Does b) ∷ found_in_block (in_parameters ps E) (after_place at) b
      (level_after_parameters (length ps))

  -- what is found in the definitions of a LET
  pub found_in_definitions : (before names : Env) → Numbers → Definitions → (s : ℕ) → List Thing
  found_in_definitions B E at no_definitions s = []
  found_in_definitions B E at (definition d ds) s = found_in_definition B E at d s ++ found_in_definitions B E (after_definition at d) ds s

  -- what is found in a declaration where s is the next free offset
  pub found_in_declaration : Env → Numbers → Declaration → (s : ℕ) → List Thing
  found_in_declaration E at (tree.Constants k es) s = found_in_entries k at es (pending k es E)
  found_in_declaration E at (tree.Let ds) s = found_in_definitions E (in_let E at s ds) at ds (s + cells_of_all (before_let ds E) ds)

  -- what is found in declarations
  pub found_in_declarations : Env → Numbers → Declarations → (s : ℕ) → List Thing
  found_in_declarations E at no_declarations s = []
  found_in_declarations E at (declaration d ds) s =
      found_in_declaration E at d s ++ found_in_declarations (in_declaration E at s d) (after_declaration at d) ds (s + cells_in E d)

  -- what is found in a block
  pub found_in_block : Env → Numbers → Block → (s : ℕ) → List Thing
  found_in_block E at (block ds is) s =
      let after_it = after_declarations at ds in
      let k = after_it.label in
      found_in_declarations E at ds s
      ++ found_in_items (in_list k is (in_declarations E at s ds)) k (after_labels after_it (labels_in is)) is (level_after E at s ds)

  -- what is found in the items of a list, whose next label has the number k
  pub found_in_items : Env → (k : ℕ) → Numbers → Items → (s : ℕ) → List Thing
  found_in_items E k at no_items s = []
  found_in_items E k at (item (Labelled ls c) is) s = found_in_command E at c s ++ found_in_items E (k + labels_of ls) (after_command at c) is s
  found_in_items E k at (item (Labels_alone ls) is) s = found_in_items E (k + labels_of ls) at is s

  -- what is found in a command
  pub found_in_command : Env → Numbers → Command → (s : ℕ) → List Thing
  found_in_command E at (tree.Assign xs es) s =
      let ss = side_levels E xs s in found_in_sides E at xs ss ++ found_in_sides E (after_all at xs) es ss
  found_in_command E at (tree.Do f es) s = found E at f (routine_level s (count es)) ++ found_in_arguments E (following at f) es (argument_level s)
  found_in_command E at (tree.Compound b) s = found_in_block E at b s
  found_in_command E at (tree.ResultIs e) s = found E at e s
  found_in_command E at (tree.Repeat c) s = found_in_command E at c s
  found_in_command E at (tree.RepeatWhile c e) s = found_in_command E at c s ++ found E (after_command at c) e s
  found_in_command E at (tree.RepeatUntil c e) s = found_in_command E at c s ++ found E (after_command at c) e s
  found_in_command E at (tree.If e b) s = found E at e s ++ found_in_block E (following at e) b s
  found_in_command E at (tree.Unless e b) s = found E at e s ++ found_in_block E (following at e) b s
  found_in_command E at (tree.While e b) s = found E at e s ++ found_in_block E (following at e) b s
  found_in_command E at (tree.Until e b) s = found E at e s ++ found_in_block E (following at e) b s
  found_in_command E at (tree.Test e b c) s =
      let after_test = following at e in found E at e s ++ (found_in_block E after_test b s ++ found_in_block E (after_block after_test b) c s)
  found_in_command E at (tree.For n a z b) s =
      let after_start = following at a in
      let s1 = level_in_for s in
      found E at a s1 ++ (found E after_start z s1 ++ found_in_block (in_for E n s) (following after_start z) b s1)
  found_in_command E at (tree.ForBy n a z k b) s =
      let after_start = following at a in
      let s1 = level_in_for s in
      found E at a s1 ++ (found E after_start z s1 ++ found_in_block (in_for E n s) (following after_start z) b s1)
  found_in_command E at (tree.SwitchOn e is) s =
      let after_value = following at e in
      let k = after_value.label in
      found E at e s ++ found_in_items (in_list k is E) k (after_labels after_value (labels_in is)) is s
  found_in_command E at _ s = []

-- the numbers at the beginning of a section: places are labelled from 1 on, VALOFs and labels numbered from 0 on
abbrev pub section_start : Numbers
section_start = record { place = 1; valof = 0; label = 0 }

-- what is found in a section
abbrev pub found_in_section : Declarations → List Thing
found_in_section ds = found_in_declarations nothing_known section_start ds 0
