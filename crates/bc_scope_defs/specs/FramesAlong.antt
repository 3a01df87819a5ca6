-- For proofs: the widths of `Frames`, computed along the numbers of a tree. They are the same by
-- `bc_scope_laws::laws::widths_ask_no_numbers`.
use Rattle.std.specs.Prelude.{ℕ, ◌+◌, max, List, [], ◌∷◌}
use Rattle.bc_parse_tree.specs.Tree.{Exp, Exps, none, more, Block, block, Declaration, Declarations, no_declarations, declaration, Definition, Definitions, no_definitions, definition, Item, Labelled, Labels_alone, Items, no_items, item, Command}
use Rattle.bc_parse_tree.specs.Tree as tree
use Rattle.bc_core.specs.Level.{operand_level, argument_level, routine_level, level_in_for, level_after_parameters}
use Rattle.bc_scope_defs.specs.Scope.{Env, Numbers, after_valof, after_labels}
use Rattle.bc_scope_defs.specs.Numbering.{following, after_all, after_declarations, after_declaration, after_definition, after_command, after_block, labels_of, labels_in}
use Rattle.bc_scope_defs.specs.Scoping.{count, cells_of_all, before_let, in_let, in_declaration, in_declarations, cells_in, level_after, in_for, in_list, in_valof}
use Rattle.bc_scope_defs.specs.Sides.{side_levels}
use Rattle.bc_scope_defs.specs.Found.{FoundRoutine, RoutineBody, Gives, Does}
use Rattle.bc_scope_defs.specs.Frames.{held}

abbrev pub all_held : Env → Exps → (s : ℕ) → List ℕ
all_held E none s = []
all_held E (more x xs) s = held E x s ∷ all_held E xs s

-- the greatest of what the pairs of an assignment use: what is held for an address, and the widths of both sides
abbrev pub widest : (held addresses values : List ℕ) → ℕ
widest (h ∷ hs) (x ∷ xs) (e ∷ es) = max (max h (max e x)) (widest hs xs es)
widest _ _ _ = 0

abbrev mutual
  pub width : Env → Numbers → Exp → (s : ℕ) → ℕ
  width E at (tree.Valof b) s = width_of_block (in_valof E) (after_valof at) b s
  width E at (tree.Unary m e) s = width E at e s
  width E at (tree.Bin o l r) s = max (s + 2) (max (width E at l (operand_level s)) (width E (following at l) r (operand_level s)))
  width E at (tree.Cond c x y) s =
      let after_test = following at c in max (width E at c s) (max (width E after_test x s) (width E (following after_test x) y s))
  width E at (tree.Call f es) s =
      max (s + 2 + count es) (max (width_of_arguments E (following at f) es (argument_level s)) (width E at f (routine_level s (count es))))
  width E at _ s = 0

  pub width_of_arguments : Env → Numbers → Exps → (s : ℕ) → ℕ
  width_of_arguments E at none s = 0
  width_of_arguments E at (more e es) s = max (width E at e s) (width_of_arguments E (following at e) es (s + 1))

  pub widths : Env → Numbers → Exps → List ℕ → List ℕ
  widths E at none ss = []
  widths E at (more e es) [] = []
  widths E at (more e es) (s ∷ ss) = width E at e s ∷ widths E (following at e) es ss

  pub width_of_initials : Env → Numbers → Exps → (s : ℕ) → ℕ
  width_of_initials E at none s = 0
  width_of_initials E at (more e es) s = max (width E at e s) (width_of_initials E (following at e) es s)

  pub width_of_definition : Env → Numbers → Definition → (s : ℕ) → ℕ
  width_of_definition E at (tree.Variables ns es) s = width_of_initials E at es s
  width_of_definition E at (tree.Vector n k) s = 0
  width_of_definition E at (tree.Function n ps e) s = 0
  width_of_definition E at (tree.Routine n ps b) s = 0

  pub width_of_definitions : Env → Numbers → Definitions → (s : ℕ) → ℕ
  width_of_definitions E at no_definitions s = 0
  width_of_definitions E at (definition d ds) s = max (width_of_definition E at d s) (width_of_definitions E (after_definition at d) ds s)

  pub width_of_declaration : Env → Numbers → Declaration → (s : ℕ) → ℕ
  width_of_declaration E at (tree.Constants k es) s = 0
  width_of_declaration E at (tree.Let ds) s =
      let s1 = s + cells_of_all (before_let ds E) ds in max s1 (width_of_definitions (in_let E at s ds) at ds s1)

  pub width_of_declarations : Env → Numbers → Declarations → (s : ℕ) → ℕ
  width_of_declarations E at no_declarations s = 0
  width_of_declarations E at (declaration d ds) s =
      max (width_of_declaration E at d s) (width_of_declarations (in_declaration E at s d) (after_declaration at d) ds (s + cells_in E d))

  pub width_of_block : Env → Numbers → Block → (s : ℕ) → ℕ
  width_of_block E at (block ds is) s =
      let after_it = after_declarations at ds in
      let k = after_it.label in
      max (width_of_declarations E at ds s)
      (width_of_items (in_list k is (in_declarations E at s ds)) k (after_labels after_it (labels_in is)) is (level_after E at s ds))

  pub width_of_items : Env → (k : ℕ) → Numbers → Items → (s : ℕ) → ℕ
  width_of_items E k at no_items s = 0
  width_of_items E k at (item (Labelled ls c) is) s = max (width_of_command E at c s) (width_of_items E (k + labels_of ls) (after_command at c) is s)
  width_of_items E k at (item (Labels_alone ls) is) s = width_of_items E (k + labels_of ls) at is s

  pub width_of_command : Env → Numbers → Command → (s : ℕ) → ℕ
  width_of_command E at (tree.Assign xs es) s =
      let ss = side_levels E xs s in widest (all_held E xs s) (widths E at xs ss) (widths E (after_all at xs) es ss)
  width_of_command E at (tree.Do f es) s =
      max (s + 2 + count es) (max (width_of_arguments E (following at f) es (argument_level s)) (width E at f (routine_level s (count es))))
  width_of_command E at (tree.Compound b) s = width_of_block E at b s
  width_of_command E at (tree.ResultIs e) s = width E at e s
  width_of_command E at (tree.Repeat c) s = width_of_command E at c s
  width_of_command E at (tree.RepeatWhile c e) s = max (width_of_command E at c s) (width E (after_command at c) e s)
  width_of_command E at (tree.RepeatUntil c e) s = max (width_of_command E at c s) (width E (after_command at c) e s)
  width_of_command E at (tree.If e b) s = max (width E at e s) (width_of_block E (following at e) b s)
  width_of_command E at (tree.Unless e b) s = max (width E at e s) (width_of_block E (following at e) b s)
  width_of_command E at (tree.While e b) s = max (width E at e s) (width_of_block E (following at e) b s)
  width_of_command E at (tree.Until e b) s = max (width E at e s) (width_of_block E (following at e) b s)
  width_of_command E at (tree.Test e b c) s =
      let after_test = following at e in
      max (width E at e s) (max (width_of_block E after_test b s) (width_of_block E (after_block after_test b) c s))
  width_of_command E at (tree.For n a z b) s =
      let s1 = level_in_for s in
      let after_start = following at a in
      max (s1 + 2) (max (width E at a s1) (max (width E after_start z s1) (width_of_block (in_for E n s) (following after_start z) b s1)))
  width_of_command E at (tree.ForBy n a z k b) s =
      let s1 = level_in_for s in
      let after_start = following at a in
      max (s1 + 2) (max (width E at a s1) (max (width E after_start z s1) (width_of_block (in_for E n s) (following after_start z) b s1)))
  width_of_command E at (tree.SwitchOn e is) s =
      let after_value = following at e in
      let k = after_value.label in
      max (width E at e s) (width_of_items (in_list k is E) k (after_labels after_value (labels_in is)) is s)
  width_of_command E at _ s = 0

abbrev pub width_of_body : Env → Numbers → RoutineBody → (s : ℕ) → ℕ
width_of_body E at (Gives e) s = width E at e s
width_of_body E at (Does b) s = width_of_block E at b s

abbrev pub frame_of : FoundRoutine → ℕ
frame_of r = let s = level_after_parameters r.parameters in max s (width_of_body r.names r.numbers r.body s)
