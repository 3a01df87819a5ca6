-- For proofs: how far parts of a routine extend its frame, and a weight that expanding a part decreases.
use Rattle.std.specs.Prelude.{ℕ, ◌≡◌, ◌+◌, ◌<◌, max, List, [], ◌∷◌, map, Result, IfOk}
use Rattle.bc_core.specs.Layout.{Bodies, cells_of_exp, cells_of_args, cells_of_command, cells_of_block, cells_of_items, cells_of_declarations, cells_of_initials, cells_of_valofs}
use Rattle.bc_core.specs.Commands as commands
use Rattle.bc_core.specs.View.{exp, args, variable, declarations, command, items, block_of, valof_of}
use Rattle.bc_interpret_defs.specs.Weight.{weight_of, weight_of_args, weight_of_command, weight_of_block, weight_of_items, weight_of_declarations, weight_of_variables, weight_of_valof}
use Rattle.bc_interpret_frames.specs.declared.part.Within.{Within}
use Rattle.bc_interpret_frames.specs.declared.part.Construct.{Construct}
use Rattle.bc_interpret_frames.specs.declared.part.Construct.TheVariants.{Expression, Arguments, Command, Block, Declarations, Variables, Items}

-- the extent of the body of each VALOF, by its number
abbrev pub bodies : Within → Bodies
bodies W = cells_of_valofs W.first (map valof_of W.valofs.now)

-- the weight of each VALOF, by its number
abbrev pub weights : Within → ℕ → ℕ
weights W = weight_of_valof W.first (map valof_of W.valofs.now)

-- how far a part extends the frame, in cells
abbrev pub cells_of : Construct → ℕ
cells_of (Expression W e s) = cells_of_exp (bodies W) (exp e.now) s
cells_of (Arguments W es s) = cells_of_args (bodies W) (args es.now) s
cells_of (Command W c s) = cells_of_command (bodies W) (command c.now) s
cells_of (Block W b s) = cells_of_block (bodies W) (block_of b.now) s
cells_of (Declarations W ds s) = cells_of_declarations (bodies W) (declarations ds.now) s
cells_of (Variables W vs s) = cells_of_initials (bodies W) (map variable vs.now) s
cells_of (Items W is s) = cells_of_items (bodies W) (items is.now) s

-- the weight of a part
abbrev pub weight_of_part : Construct → ℕ
weight_of_part (Expression W e s) = weight_of (weights W) (exp e.now)
weight_of_part (Arguments W es s) = weight_of_args (weights W) (args es.now)
weight_of_part (Command W c s) = weight_of_command (weights W) (command c.now)
weight_of_part (Block W b s) = weight_of_block (weights W) (block_of b.now)
weight_of_part (Declarations W ds s) = weight_of_declarations (weights W) (declarations ds.now)
weight_of_part (Variables W vs s) = weight_of_variables (weights W) (map variable vs.now)
weight_of_part (Items W is s) = weight_of_items (weights W) (items is.now)

-- the greater extent of two parts
abbrev pub cells_of_both : Construct → Construct → ℕ
cells_of_both x y = max (cells_of x) (cells_of y)

-- the weight of two parts that wait
abbrev pub weight_of_both : Construct → Construct → ℕ
weight_of_both x y = weight_of_part x + weight_of_part y + 2

-- the greatest extent of these parts
abbrev pub greatest : List Construct → ℕ
greatest [] = 0
greatest (x ∷ xs) = max (cells_of x) (greatest xs)

-- the weight of all these parts
abbrev pub weight_of_all : List Construct → ℕ
weight_of_all [] = 0
weight_of_all (x ∷ xs) = weight_of_part x + 1 + weight_of_all xs

-- a part that needs this many cells was expanded: its own extent is `own`, and its sub-parts wait
pub record Expanded (own cells weight : ℕ) (old new : List Construct) : Type 0 where
  pub greatest_is : max own (greatest new) ≡ max cells (greatest old)
  pub lighter : weight_of_all new < weight + 1 + weight_of_all old

-- the same of the result of a call, unless memory ran out
abbrev pub ExpandedTo : {E : Type 0} → (cells weight : ℕ) → Result ℕ E → (old new : List Construct) → Type 0
ExpandedTo cells weight result old new = IfOk result (λ own. Expanded own cells weight old new)

-- the result of expanding a part
abbrev pub IsExpanded : {E : Type 0} → Construct → Result ℕ E → (old new : List Construct) → Type 0
IsExpanded part result old new = ExpandedTo (cells_of part) (weight_of_part part) result old new

-- the result of expanding a command
abbrev pub IsCommandExpanded : {E : Type 0} → Within → commands.Command → (s : ℕ) → Result ℕ E → (old new : List Construct) → Type 0
IsCommandExpanded W c s result old new = ExpandedTo (cells_of_command (bodies W) c s) (weight_of_command (weights W) c) result old new

-- the result of expanding a list of variables
abbrev pub AreExpanded : {E : Type 0} → Within → List commands.Variable → (s : ℕ) → Result ℕ E → (old new : List Construct) → Type 0
AreExpanded W vs s result old new = ExpandedTo (cells_of_initials (bodies W) vs s) (weight_of_variables (weights W) vs) result old new
