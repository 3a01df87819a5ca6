-- How many cells of its frame a routine of a section uses: one more than the greatest offset.
use Rattle.std.specs.Prelude.{ℕ, ◌+◌, max, cond, List, [], ◌∷◌}
use Rattle.bc_parse_tree.specs.Tree.{Exp, Exps, none, more, Block, block, Declaration, Declarations, no_declarations, declaration, Definition, Definitions, no_definitions, definition, Item, Labelled, Labels_alone, Items, no_items, item, Command}
use Rattle.bc_parse_tree.specs.Tree as tree
use Rattle.bc_core.specs.Level.{operand_level, argument_level, routine_level, level_in_for, level_after_parameters}
use Rattle.bc_scope_defs.specs.Scope.{Env}
use Rattle.bc_scope_defs.specs.Scoping.{count, cells_of_all, before_let, in_declaration, in_declarations, cells_in, level_after, in_for, in_list, in_valof}
use Rattle.bc_scope_defs.specs.Sides.{kinds, is_operand_kind, side_levels}
use Rattle.bc_scope_defs.specs.Found.{FoundRoutine, RoutineBody, Gives, Does, section_start}

-- Which cells are used, and what is a fault, depends on constants and on the kinds of meaning that names have, but on
-- no label, number or offset. So names are declared here and in `Faults` with arbitrary numbers.

-- the names after a declaration
abbrev pub known_after : Env → Declaration → Env
known_after E d = in_declaration E section_start 0 d

-- the names after declarations
abbrev pub known_after_all : Env → Declarations → Env
known_after_all E ds = in_declarations E section_start 0 ds

-- what an assignment to x at the level s holds: one side at s, unless the address is an operand
abbrev pub held : Env → Exp → (s : ℕ) → ℕ
held E x s = cond (is_operand_kind (kinds E x).address) 0 (s + 2)

-- The cells of an expression at the level s. An operator may hold a value at s and one at s + 1. A call holds its
-- links at s and s + 1, and its arguments after them.
abbrev mutual
  pub width : Env → Exp → (s : ℕ) → ℕ
  width E (tree.Valof b) s = width_of_block (in_valof E) b s
  width E (tree.Unary m e) s = width E e s
  width E (tree.Bin o l r) s = max (s + 2) (max (width E l (operand_level s)) (width E r (operand_level s)))
  width E (tree.Cond c x y) s = max (width E c s) (max (width E x s) (width E y s))
  width E (tree.Call f es) s = max (s + 2 + count es) (max (width_of_all E es (argument_level s) 1) (width E f (routine_level s (count es))))
  width E _ s = 0

  -- several expressions: the first at the level s, and each further one `step` levels higher
  pub width_of_all : Env → Exps → (s step : ℕ) → ℕ
  width_of_all E none s step = 0
  width_of_all E (more e es) s step = max (width E e s) (width_of_all E es (s + step) step)

  -- The pairs of an assignment at the level s. `values` has the width of each value, `levels` the level of each pair.
  pub width_of_pairs : Env → Exps → (values : List ℕ) → (s : ℕ) → (levels : List ℕ) → ℕ
  width_of_pairs E (more x xs) (w ∷ ws) s (k ∷ ks) = max (max (held E x s) (max w (width E x k))) (width_of_pairs E xs ws s ks)
  width_of_pairs E _ _ s _ = 0

  -- the width of each of several expressions, each at its own level
  pub widths : Env → Exps → (levels : List ℕ) → List ℕ
  widths E (more e es) (k ∷ ks) = width E e k ∷ widths E es ks
  widths E _ _ = []

  -- a definition, whose initialisers are at the level s; a routine in it has its own frame
  pub width_of_definition : Env → Definition → (s : ℕ) → ℕ
  width_of_definition E (tree.Variables ns es) s = width_of_all E es s 0
  width_of_definition E _ s = 0

  pub width_of_definitions : Env → Definitions → (s : ℕ) → ℕ
  width_of_definitions E no_definitions s = 0
  width_of_definitions E (definition d ds) s = max (width_of_definition E d s) (width_of_definitions E ds s)

  -- a declaration takes its cells first, and its initialisers are at the level after it
  pub width_of_declaration : Env → Declaration → (s : ℕ) → ℕ
  width_of_declaration E (tree.Constants k es) s = 0
  width_of_declaration E (tree.Let ds) s =
      let s1 = s + cells_of_all (before_let ds E) ds in max s1 (width_of_definitions (known_after E (tree.Let ds)) ds s1)

  -- declarations
  pub width_of_declarations : Env → Declarations → (s : ℕ) → ℕ
  width_of_declarations E no_declarations s = 0
  width_of_declarations E (declaration d ds) s = max (width_of_declaration E d s) (width_of_declarations (known_after E d) ds (s + cells_in E d))

  -- a block where s is the next free offset
  pub width_of_block : Env → Block → (s : ℕ) → ℕ
  width_of_block E (block ds is) s =
      max (width_of_declarations E ds s) (width_of_items (in_list 0 is (known_after_all E ds)) is (level_after E section_start s ds))

  -- the items of a list
  pub width_of_items : Env → Items → (s : ℕ) → ℕ
  width_of_items E no_items s = 0
  width_of_items E (item (Labelled ls c) is) s = max (width_of_command E c s) (width_of_items E is s)
  width_of_items E (item (Labels_alone ls) is) s = width_of_items E is s

  -- a command
  pub width_of_command : Env → Command → (s : ℕ) → ℕ
  width_of_command E (tree.Assign xs es) s = let ks = side_levels E xs s in width_of_pairs E xs (widths E es ks) s ks
  width_of_command E (tree.Do f es) s =
      max (s + 2 + count es) (max (width_of_all E es (argument_level s) 1) (width E f (routine_level s (count es))))
  width_of_command E (tree.Compound b) s = width_of_block E b s
  width_of_command E (tree.ResultIs e) s = width E e s
  width_of_command E (tree.Repeat c) s = width_of_command E c s
  width_of_command E (tree.RepeatWhile c e) s = max (width_of_command E c s) (width E e s)
  width_of_command E (tree.RepeatUntil c e) s = max (width_of_command E c s) (width E e s)
  width_of_command E (tree.If e b) s = max (width E e s) (width_of_block E b s)
  width_of_command E (tree.Unless e b) s = max (width E e s) (width_of_block E b s)
  width_of_command E (tree.While e b) s = max (width E e s) (width_of_block E b s)
  width_of_command E (tree.Until e b) s = max (width E e s) (width_of_block E b s)
  width_of_command E (tree.Test e b c) s = max (width E e s) (max (width_of_block E b s) (width_of_block E c s))
  -- a FOR's own test and sum are operators at the level after its two cells
  width_of_command E (tree.For n a z b) s =
      let s1 = level_in_for s in max (s1 + 2) (max (width E a s1) (max (width E z s1) (width_of_block (in_for E n 0) b s1)))
  width_of_command E (tree.ForBy n a z k b) s =
      let s1 = level_in_for s in max (s1 + 2) (max (width E a s1) (max (width E z s1) (width_of_block (in_for E n 0) b s1)))
  width_of_command E (tree.SwitchOn e is) s = max (width E e s) (width_of_items (in_list 0 is E) is s)
  width_of_command E _ s = 0

-- the body of a routine
abbrev pub width_of_body : Env → RoutineBody → (s : ℕ) → ℕ
width_of_body E (Gives e) s = width E e s
width_of_body E (Does b) s = width_of_block E b s

-- the size of a routine's frame; the links and the parameters always have cells
abbrev pub frame_of : FoundRoutine → ℕ
frame_of r = let s = level_after_parameters r.parameters in max s (width_of_body r.names r.body s)
