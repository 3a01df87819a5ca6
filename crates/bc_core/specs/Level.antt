-- Levels: the first offset of the frame above everything that is held when the work on a node begins.
use Rattle.std.specs.Prelude.{ℕ, ◌+◌, cond, List, [], ◌∷◌}
use Rattle.bc_core.specs.Tree.{Exp}
use Rattle.bc_core.specs.Commands.{Variable, Initial, Vector}
use Rattle.bc_core.specs.Operand.{is_operand}

-- the level when a routine begins: the links are at 0 and 1, the parameters from 2 on
abbrev pub level_after_parameters : ℕ → ℕ
level_after_parameters n = 2 + n

-- both operands of a binary operator at the level s
abbrev pub operand_level : ℕ → ℕ
operand_level s = s + 1

-- The first argument of a call at the level s. The new frame begins at s; each further argument is one level higher.
abbrev pub argument_level : ℕ → ℕ
argument_level s = s + 2

-- the routine, in a call at the level s with n arguments
abbrev pub routine_level : ℕ → ℕ → ℕ
routine_level s n = s + 2 + n

-- both sides of an assignment to this address: one level higher if the address is no operand
abbrev pub side_level : Exp → ℕ → ℕ
side_level address s = cond (is_operand address) s (s + 1)

-- the cells of a variable: its own, and for a vector those after it
abbrev pub cells_of : Variable → ℕ
cells_of (Initial e) = 1
cells_of (Vector k) = k + 2

-- the cells of several variables
abbrev pub cells_of_all : List Variable → ℕ
cells_of_all [] = 0
cells_of_all (v ∷ vs) = cells_of v + cells_of_all vs

-- the cells of all variables that a block declares
abbrev pub cells_declared : List (List Variable) → ℕ
cells_declared [] = 0
cells_declared (vs ∷ ds) = cells_of_all vs + cells_declared ds

-- the level in a FOR, which has two cells: the variable and the limit
abbrev pub level_in_for : ℕ → ℕ
level_in_for s = s + 2
