-- How many cells of its frame a routine uses: one more than the greatest offset.
use Rattle.std.specs.Prelude.{ℕ, ◌+◌, ◌==◌, max, cond, true, false, List, [], ◌∷◌}
use Rattle.bc_core.specs.Tree.{Exp, Load, Neg, Not, Bin, Cond, Call, Args, no_argument, argument, count}
use Rattle.bc_core.specs.Commands.{Variable, Initial, Vector, Command, Block, block, Items, no_item, command, case, default, label, Routine, Body, Gives, Does, Valof}
use Rattle.bc_core.specs.Tree as tree
use Rattle.bc_core.specs.Commands as commands
use Rattle.bc_core.specs.Operand.{is_operand}
use Rattle.bc_core.specs.Level.{level_after_parameters, operand_level, argument_level, routine_level, side_level, cells_of_all, cells_declared, level_in_for}

-- the cells that the body of a VALOF uses, by its number and level
abbrev pub Bodies : Type 0
Bodies = ℕ → ℕ → ℕ

-- An expression at the level s. An operator may hold a value at s and one at s + 1. A call holds its links at s and s
-- + 1, and its arguments after them.
abbrev mutual
  pub cells_of_exp : Bodies → Exp → ℕ → ℕ
  cells_of_exp V (Load e) s = cells_of_exp V e s
  cells_of_exp V (Neg e) s = cells_of_exp V e s
  cells_of_exp V (Not e) s = cells_of_exp V e s
  cells_of_exp V (Bin op a b) s = max (s + 2) (max (cells_of_exp V a (operand_level s)) (cells_of_exp V b (operand_level s)))
  cells_of_exp V (Cond c x y) s = max (cells_of_exp V c s) (max (cells_of_exp V x s) (cells_of_exp V y s))
  cells_of_exp V (Call es f) s = max (s + 2 + count es) (max (cells_of_args V es (argument_level s)) (cells_of_exp V f (routine_level s (count es))))
  cells_of_exp V (tree.Valof n) s = V n s
  cells_of_exp V _ s = 0

  -- the arguments of a call
  pub cells_of_args : Bodies → Args → ℕ → ℕ
  cells_of_args V no_argument s = 0
  cells_of_args V (argument e es) s = max (cells_of_exp V e s) (cells_of_args V es (s + 1))

-- an assignment at the level s; if its address is no operand, one side is held at s
abbrev pub cells_of_assignment : Bodies → Exp → Exp → ℕ → ℕ
cells_of_assignment V value address s =
    max (cond (is_operand address) 0 (s + 2)) (max (cells_of_exp V value (side_level address s)) (cells_of_exp V address (side_level address s)))

-- the initialiser of a variable, at the level after its declaration
abbrev pub cells_of_initial : Bodies → Variable → ℕ → ℕ
cells_of_initial V (Initial e) s = cells_of_exp V e s
cells_of_initial V (Vector k) s = 0

-- the initialisers of one declaration
abbrev pub cells_of_initials : Bodies → List Variable → ℕ → ℕ
cells_of_initials V [] s = 0
cells_of_initials V (v ∷ vs) s = max (cells_of_initial V v s) (cells_of_initials V vs s)

-- declarations: each takes its cells first, and its initialisers are at the level after it
abbrev pub cells_of_declarations : Bodies → List (List Variable) → ℕ → ℕ
cells_of_declarations V [] s = 0
cells_of_declarations V (vs ∷ ds) s =
    let s1 = s + cells_of_all vs in max s1 (max (cells_of_initials V vs s1) (cells_of_declarations V ds s1))

abbrev mutual
  -- a command at the level s
  pub cells_of_command : Bodies → Command → ℕ → ℕ
  cells_of_command V (commands.Call e) s = cells_of_exp V e s
  cells_of_command V (commands.Assign v a) s = cells_of_assignment V v a s
  cells_of_command V (commands.If sense e b) s = max (cells_of_exp V e s) (cells_of_block V b s)
  cells_of_command V (commands.Test e b c) s = max (cells_of_exp V e s) (max (cells_of_block V b s) (cells_of_block V c s))
  cells_of_command V (commands.While sense e b) s = max (cells_of_exp V e s) (cells_of_block V b s)
  cells_of_command V (commands.Repeat b) s = cells_of_block V b s
  cells_of_command V (commands.RepeatWhile b sense e) s = max (cells_of_block V b s) (cells_of_exp V e s)
  -- a FOR's own test and sum are operators at the level after its two cells
  cells_of_command V (commands.For start limit by b) s =
      let s1 = level_in_for s in
      max (s1 + 2) (max (cells_of_exp V start s1) (max (cells_of_exp V limit s1) (cells_of_block V b s1)))
  cells_of_command V (commands.SwitchOn e is) s = max (cells_of_exp V e s) (cells_of_items V is s)
  cells_of_command V (commands.ResultIs e) s = cells_of_exp V e s
  cells_of_command V (commands.Nested b) s = cells_of_block V b s
  cells_of_command V _ s = 0

  -- a block at the level s
  pub cells_of_block : Bodies → Block → ℕ → ℕ
  cells_of_block V (block ds is) s = max (cells_of_declarations V ds s) (cells_of_items V is (s + cells_declared ds))

  -- the items of a list at the level s
  pub cells_of_items : Bodies → Items → ℕ → ℕ
  cells_of_items V no_item s = 0
  cells_of_items V (command c is) s = max (cells_of_command V c s) (cells_of_items V is s)
  cells_of_items V (case k is) s = cells_of_items V is s
  cells_of_items V (default is) s = cells_of_items V is s
  cells_of_items V (label l is) s = cells_of_items V is s

-- the VALOFs of a section from the number `first` on; the level s of a VALOF is the next free offset when its body begins
abbrev pub cells_of_valofs : ℕ → List Valof → Bodies
cells_of_valofs first [] n s = 0
cells_of_valofs first (v ∷ vs) n s =
    let inner = cells_of_valofs (first + 1) vs in
    elim (n == first) [ true ↦ cells_of_block inner v.body s | false ↦ inner n s ]

-- the body of a routine at the level s
abbrev pub cells_of_body : Bodies → Body → ℕ → ℕ
cells_of_body V (Gives e) s = cells_of_exp V e s
cells_of_body V (Does b) s = cells_of_block V b s

-- the size of a routine's frame; the links and the parameters always have cells
abbrev pub frame_size : List Valof → Routine → ℕ
frame_size valofs r =
    let s = level_after_parameters r.parameters in max s (cells_of_body (cells_of_valofs 0 valofs) r.body s)
